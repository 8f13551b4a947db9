-- At a place: what is read from there on of a slice, and what is put there of an output. What the contracts cite.
use Rattle.numbers.specs.Place.{Place}
use Rattle.std.specs.Prelude.{ℕ, ◌+◌, ◌-◌, ◌≤◌, ◌<◌, ◌≡◌, Bool, true, false, cond, List, ◌++◌, length, take, drop, leb, Ok, Err}
use Rattle.numbers.specs.Reading.{Reading, ok, bad, read_num}
use Rattle.numbers.specs.declared.Refusal.TheVariants as R

-- a test's answer: the first fact where it is true, the second where it is false
abbrev pub Tells : Bool → Type 0 → Type 0 → Type 0
Tells true P Q = P
Tells false P Q = Q

-- whether n bytes at a position lie within so many bytes
pub record Within (at n len : ℕ) (r : Bool) : Type 0 where
  pub is : Tells r (at + n ≤ len) (len < at + n)

-- ---- reading

-- a reader at a place of s: it takes the bytes from there on. A refused place stays refused
abbrev pub read_at : {A : Type 0} → (List ℕ → Reading A) → List ℕ → Place → Reading A
read_at d s (Ok a) = d (drop a s)
read_at d s (Err f) = bad f.0 f.1

-- one that is told the position too, from which it counts
abbrev pub read_from : {A : Type 0} → (ℕ → List ℕ → Reading A) → List ℕ → Place → Reading A
read_from d s (Ok a) = d a (drop a s)
read_from d s (Err f) = bad f.0 f.1

-- the place where the rest of n bytes begins
abbrev pub rest_at : {A : Type 0} → ℕ → Reading A → Place
rest_at l (ok a r) = Ok (l - length r)
rest_at l (bad k n) = Err (k, n)

-- the number, 0 where there is none
abbrev pub number_in : Reading ℕ → ℕ
number_in (ok x r) = x
number_in (bad k n) = 0

unfoldable pub num_at : ℕ → List ℕ → Place → ℕ
num_at w s p = number_in (read_at (read_num w) s p)

unfoldable pub past_num : ℕ → List ℕ → Place → Place
past_num w s p = rest_at (length s) (read_at (read_num w) s p)

-- what the reader of a number of w bytes answers at p of s: the number, and the place after it
pub record NumRead (w : ℕ) (s : List ℕ) (p : Place) (x : ℕ) (q : Place) : Type 0 where
  pub value : x ≡ num_at w s p
  pub next : q ≡ past_num w s p

-- ---- putting

-- o with bs laid over it from a on
abbrev pub over : List ℕ → ℕ → List ℕ → List ℕ
over o a bs = take a o ++ bs ++ drop (a + length bs) o

-- the output afterwards: with bs over it if there is room for all of them; else as it was
unfoldable pub put_at : List ℕ → List ℕ → Place → List ℕ
put_at bs o (Ok a) = cond (leb (a + length bs) (length o)) (over o a bs) o
put_at bs o (Err f) = o

-- the place after them; 11 where there is no room. A refused place stays refused
unfoldable pub past_put : List ℕ → List ℕ → Place → Place
past_put bs o (Ok a) = cond (leb (a + length bs) (length o)) (Ok (a + length bs)) (Err (R.NoRoom, 0))
past_put bs o (Err f) = Err f

-- what putting bs at p of the output o leaves and answers
pub record Put (bs o : List ℕ) (p : Place) (o' : List ℕ) (q : Place) : Type 0 where
  pub bytes : o' ≡ put_at bs o p
  pub next : q ≡ past_put bs o p
