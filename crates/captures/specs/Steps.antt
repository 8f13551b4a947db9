-- What the private functions answer, one step at a time.
use Rattle.numbers.specs.Place.{Place}
use Rattle.std.specs.Prelude.{ℕ, ◌+◌, ◌*◌, ◌≤◌, ◌<◌, ◌≡◌, Bool, true, false, cond, Option, Some, None, List, [], ◌∷◌, ◌++◌, length, drop, Ok, Err}
use Rattle.std.proofs.Math.Option.{none, some}
use Rattle.numbers.specs.declared.Refusal.TheVariants as R
use Rattle.framing.specs.Local.{size_in}
use Rattle.framing.specs.Stretch.{Step, frame, end, stop, Listing, list_from}
use Rattle.numbers.specs.Places.{Tells}
use Rattle.captures.specs.declared.Order.{Order}
use Rattle.captures.specs.declared.Order.TheVariants as O
use Rattle.captures.specs.Captures.{order_of, captured, taken, Packets, packets_from, bytes_in, times_in, records_of, frames_in, counted, fits, unless, paired, cut_up}

-- the definitions are over a truth value: true where the highest byte comes first
abbrev pub is_big : Order → Bool
is_big O.Little = false
is_big O.Big = true

-- the order in which a header stands at the front, or that there is none
abbrev pub OrderIs : List ℕ → Option Order → Type 0
OrderIs s (Some o) = order_of s ≡ some (is_big o)
OrderIs s None = order_of s ≡ none

-- the size of the frame of a record, of the bytes from p on; 25
unfoldable pub size_at : Bool → ℕ → List ℕ → Place
size_at big p xs = cond (taken big xs) (Ok (captured big xs)) (Err (R.Capture, p))

-- the records from a position on
abbrev pub from : Bool → List ℕ → ℕ → Packets
from big file p = packets_from big p 0 (drop p file)

-- there is room for what the records hold
pub record Roomy (file : List ℕ) (r : Packets) (o : List ℕ) (t : List (List ℕ)) : Type 0 where
  pub head : 24 ≤ length file
  pub room : length (bytes_in r) ≤ length o
  pub rows : length (times_in r) ≤ length t

-- where a frame of a stretch ends; the refusal with its position. It is not asked at the end
abbrev pub step_to : Step → Place
step_to (frame at n ty tag a tail next) = Ok next
step_to (end p) = Err (R.StretchCut, p)
step_to (stop k p) = Err (k, p)

-- what is listed of it from a position on
abbrev pub rest : List ℕ → ℕ → Listing
rest s p = list_from [] [] p 0 (drop p s)

-- how many frames there are: 12, 13; then 25
abbrev pub countable : Listing → Place
countable l = unless (counted 0 l) (unless (fits l) (counted 0 l))

-- whether a header, so many bytes and so many records have room
pub record RoomFor (room len n : ℕ) (r : Bool) : Type 0 where
  pub is : Tells r (24 + len + 16 * n ≤ room) (room < 24 + len + 16 * n)

-- the records that a stretch and a table make
abbrev pub records : List ℕ → List (List ℕ) → List ℕ
records s ts = records_of (paired ts (frames_in s (cut_up s)))

-- there is a row for each frame, and room for the records after the header
pub record Ready (s : List ℕ) (ts : List (List ℕ)) (o : List ℕ) : Type 0 where
  pub rows : length (frames_in s (cut_up s)) ≤ length ts
  pub room : 24 + length (records s ts) ≤ length o

-- frames back to back
abbrev pub joined : List (List ℕ) → List ℕ
joined [] = []
joined (f ∷ fs) = f ++ joined fs

-- a frame of the size that it declares, which a record can hold
pub record Good (f : List ℕ) : Type 0 where
  pub seven : 7 ≤ length f
  pub most : length f ≤ 65535
  pub size : size_in f ≡ length f

abbrev pub Goods : List (List ℕ) → Type 0
Goods [] = Unit {0}
Goods (f ∷ fs) = Good f × Goods fs
