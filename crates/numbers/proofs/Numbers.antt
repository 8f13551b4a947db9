-- What holds of the definitions in specs/Numbers.antt.
use Rattle.std.specs.Prelude.{ℕ, zero, suc, ◌+◌, ◌^◌, ◌/◌, ◌<◌, ◌≡◌, refl, List, [], ◌∷◌, ◌++◌, length, take, drop, get_or}
use Rattle.std.proofs.Math.Nat.{mod-add-div, add-mul-div_left, div-eq_of_lt, add-mul-mod_self_left}
use Rattle.std.proofs.Common.{div-lt_iff_lt-mul, pow-suc, zero-lt-suc, zero-add, mod-eq_of_lt, mod-lt, arith, ap, ap₂, ◌∙◌, lit<}
use Rattle.numbers.specs.Numbers.{from_le, to_le, Bytes}

-- ---- the laws

pub length_to_le : (w n : ℕ) → length (to_le w n) ≡ w
unfolding to_le
length_to_le zero n = refl
length_to_le (suc w) n = ap suc (length_to_le w (n / 256))

pub bytes_to_le : (w n : ℕ) → Bytes (to_le w n)
unfolding to_le
bytes_to_le zero n = tt
bytes_to_le (suc w) n = (mod-lt n (zero-lt-suc 255), bytes_to_le w (n / 256))

-- reading what was put gives the number
pub from_to : (w n : ℕ) → n < 256 ^ w → from_le (to_le w n) ≡ n
unfolding from_le to_le
from_to zero n h = omega arith
from_to (suc w) n h =
    rw (from_to w (n / 256) ((div-lt_iff_lt-mul (zero-lt-suc 255)).1 (rw pow-suc at h))) (mod-add-div n 256)

-- putting what was read gives the bytes
pub to_from : (bs : List ℕ) → Bytes bs → to_le (length bs) (from_le bs) ≡ bs
unfolding from_le to_le
to_from [] h = refl
to_from (b ∷ bs) (h, hs) =
    ap₂ {C = List ℕ} (λ x r. x ∷ r) (add-mul-mod_self_left b 256 (from_le bs) ∙ mod-eq_of_lt h)
    (ap (to_le (length bs)) (add-mul-div_left b (from_le bs) (zero-lt-suc 255) ∙ ap (λ q. q + from_le bs) (div-eq_of_lt h) ∙ zero-add (from_le bs)) ∙ to_from bs hs)

-- the bound: what so many bytes can hold
pub from_bound : (bs : List ℕ) → Bytes bs → from_le bs < 256 ^ length bs
unfolding from_le
from_bound [] h = lit< tt
from_bound (b ∷ bs) (h, hs) = rw pow-suc (let k = from_bound bs hs in omega arith)

-- ---- bytes of parts

-- every element is a byte, said by index and said by the list
pub bytes_all : (xs : List ℕ) → ((i : ℕ) → get_or xs i 0 < 256) → Bytes xs
bytes_all [] h = tt
bytes_all (x ∷ xs) h = (h 0, bytes_all xs (λ i. h (suc i)))

pub bytes_split : (xs ys : List ℕ) → Bytes (xs ++ ys) → Bytes xs × Bytes ys
bytes_split [] ys h = (tt, h)
bytes_split (x ∷ xs) ys (h, hs) = let s = bytes_split xs ys hs in ((h, s.0), s.1)

pub bytes_join : (xs ys : List ℕ) → Bytes xs → Bytes ys → Bytes (xs ++ ys)
bytes_join [] ys h k = k
bytes_join (x ∷ xs) ys (h, hs) k = (h, bytes_join xs ys hs k)

pub bytes_take : (n : ℕ) (xs : List ℕ) → Bytes xs → Bytes (take n xs)
bytes_take zero xs h = tt
bytes_take (suc n) [] h = tt
bytes_take (suc n) (x ∷ xs) (h, hs) = (h, bytes_take n xs hs)

pub bytes_drop : (n : ℕ) (xs : List ℕ) → Bytes xs → Bytes (drop n xs)
bytes_drop zero xs h = h
bytes_drop (suc n) [] h = tt
bytes_drop (suc n) (x ∷ xs) (h, hs) = bytes_drop n xs hs
