-- What the small functions answer: parts of bytes, a line that was read, and places.
use Rattle.numbers.specs.Place.{Place}
use Rattle.std.specs.Prelude.{◌≡◌, ℕ, ◌-◌, ◌≤◌, min, max, Bool, true, false, cond, List, [], length, take, drop, replicate, ◌≢◌, nat_le, Ok, Err}
use Rattle.numbers.specs.Refusals.{number_of}
use Rattle.numbers.specs.declared.Refusal.{Refusal}

-- a room of so many bytes that nothing has been put into
unfoldable pub unused : ℕ → List ℕ
unused n = replicate n 238

pub record Room (r : List ℕ) : Type 0 where
  pub bytes : r ≡ unused 170000
  pub size : 170000 ≡ length r

-- the bytes from one index up to another; none where they are not all there
unfoldable pub part_of : List ℕ → ℕ → ℕ → List ℕ
part_of s from to = cond (nat_le to (length s)) (take (to - from) (drop from s)) []

-- how many characters a line has: no more than there is room for, or the greatest number where there is no line
pub record LineHeld (line : List ℕ) (n : ℕ) : Type 0 where
  pub fits : (n ≢ 18446744073709551615) → n ≤ length line

-- the refusal that has the number n among those of frames, F9.1 to F9.17, or the nearest there
pub record Numbered (n : ℕ) (k : Refusal) : Type 0 where
  pub is : number_of k ≡ max 1 (min n 17)

-- a position; refused by the number, where it is marked
abbrev pub Places : ℕ → Bool → Place → Type 0
Places n false p = p ≡ Ok n
Places n true (Err f) = Numbered n f.0 × (f.1 ≡ 0)
Places n true (Ok a) = ⊥

pub record Placed (n : ℕ) (marked : Bool) (p : Place) : Type 0 where
  pub is : Places n marked p
