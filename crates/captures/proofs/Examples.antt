-- F10.C in a capture file, computed: in either order the same; with its size in the file's order, with a byte after it, or cut, broken.
use Rattle.std.specs.Prelude.{ℕ, ◌≡◌, refl, List, [], ◌∷◌, ◌++◌}
use Rattle.numbers.specs.Numbers.{from_le, to_le}
use Rattle.captures.specs.Captures.{from_order, headed, order_of, taken, Packets, packet, complete, broken, packets_from, packets_of, records_of, file_of}

abbrev rflush : List ℕ
rflush = 7 ∷ 0 ∷ 0 ∷ 0 ∷ 109 ∷ 1 ∷ 0 ∷ []

-- little endian: what is written at 3 seconds and 500,000 microseconds
abbrev little : List ℕ
little = 212 ∷ 195 ∷ 178 ∷ 161 ∷ 2 ∷ 0 ∷ 4 ∷ 0 ∷ 0 ∷ 0 ∷ 0 ∷ 0 ∷ 0 ∷ 0 ∷ 0 ∷ 0 ∷ 255 ∷ 255 ∷ 0 ∷ 0 ∷ 147 ∷ 0 ∷ 0 ∷ 0 ∷ 3 ∷ 0 ∷ 0 ∷ 0 ∷ 32 ∷ 161 ∷ 7 ∷ 0 ∷ 7 ∷ 0 ∷ 0 ∷ 0 ∷ 7 ∷ 0 ∷ 0 ∷ 0 ∷ rflush

-- big endian, with a zone, an accuracy and a snapshot length of other files
abbrev big : List ℕ → List ℕ
big f = 161 ∷ 178 ∷ 195 ∷ 212 ∷ 0 ∷ 2 ∷ 0 ∷ 4 ∷ 0 ∷ 0 ∷ 0 ∷ 9 ∷ 1 ∷ 0 ∷ 0 ∷ 0 ∷ 0 ∷ 4 ∷ 0 ∷ 0 ∷ 0 ∷ 0 ∷ 0 ∷ 147 ∷ 0 ∷ 0 ∷ 0 ∷ 3 ∷ 0 ∷ 7 ∷ 161 ∷ 32 ∷ 0 ∷ 0 ∷ 0 ∷ 7 ∷ 0 ∷ 0 ∷ 0 ∷ 7 ∷ f

abbrev one : Packets
one = packet (3 ∷ 500000 ∷ []) rflush complete

pub written : file_of one ≡ little
unfolding to_le records_of
written = refl

pub either_order : (packets_of little ≡ one) × (packets_of (big rflush) ≡ one)
unfolding packets_of order_of headed packets_from taken from_order from_le
either_order = (refl, refl)

pub broken_ones : (packets_of (little ++ (0 ∷ [])) ≡ packet (3 ∷ 500000 ∷ []) rflush (broken 47)) × (packets_of (big (7 ∷ 0 ∷ 0 ∷ 0 ∷ 109 ∷ 1 ∷ [])) ≡ broken 24) × (packets_of (big (0 ∷ 0 ∷ 0 ∷ 7 ∷ 109 ∷ 1 ∷ 0 ∷ [])) ≡ broken 24)
unfolding packets_of order_of headed packets_from taken from_order from_le
broken_ones = (refl, refl, refl)
