-- A large write cut into pieces, each the data of a Twrite (F12). A row of a table is a piece.
use Rattle.numbers.specs.Place.{Place}
use Rattle.std.specs.Prelude.{ℕ, suc, zero, ◌+◌, ◌-◌, ◌/◌, min, ◌≡◌, Bool, false, cond, List, [], ◌∷◌, ◌++◌, length, drop, get_or, leb, ltb, eqb, Ok, Err}
use Rattle.numbers.specs.declared.Refusal.TheVariants as R

-- a piece: its offset and its length
abbrev pub offset : List ℕ → ℕ
offset row = get_or row 0 0

abbrev pub size : List ℕ → ℕ
size row = get_or row 1 0

-- ---- what is accepted (F12.2)

-- 23 bytes and the data fit msize, and the data is at most the limit (F12.1)
abbrev pub fits : ℕ → ℕ → Bool
fits msize n = cond (leb (23 + n) msize) (leb n 33554432) false

-- no piece is empty, each fits, and they run on from a position to the end with neither gap nor overlap
unfoldable pub runs_on : ℕ → ℕ → ℕ → List (List ℕ) → Bool
runs_on msize at end [] = eqb at end
runs_on msize at end (p ∷ ps) = cond (eqb (offset p) at) (cond (ltb 0 (size p)) (cond (fits msize (size p)) (runs_on msize (at + size p) end ps) false) false) false

-- the greatest u64
abbrev pub greatest : ℕ
greatest = 18446744073709551615

-- msize is at least 24, else 26; the end is at most the greatest u64, else 27
unfoldable pub agreed : ℕ → ℕ → ℕ → Place
agreed first len msize = cond (ltb msize 24) (Err (R.MsizeTooSmall, 0)) (cond (ltb greatest (first + len)) (Err (R.EndTooFar, 0)) (Ok 0))

-- no where 26 or 27 holds
abbrev unless_refused : Place → Bool → Bool
unless_refused (Ok n) b = b
unless_refused (Err f) b = false

-- whether pieces are a plan of a write of so many bytes from an offset on
unfoldable pub accepted : List (List ℕ) → ℕ → ℕ → ℕ → Bool
accepted ps first len msize = unless_refused (agreed first len msize) (runs_on msize first (first + len) ps)

-- ---- what is planned (F12.3, F12.4)

-- the most data of a piece
abbrev pub most_data : ℕ → ℕ
most_data msize = min (msize - 23) 33554432

-- how many pieces of at most so many bytes hold so many bytes
unfoldable pub fewest : ℕ → ℕ → ℕ
fewest most len = (len + (most - 1)) / most

-- so many pieces, each as long as it can be
unfoldable pub cut : ℕ → ℕ → ℕ → ℕ → List (List ℕ)
cut most zero at left = []
cut most (suc n) at left = (at ∷ min left most ∷ []) ∷ cut most n (at + min left most) (left - min left most)

-- how many: 26, 27, then 24 where the table has fewer rows
abbrev pub room_for : Place → ℕ → ℕ → Place
room_for (Ok m) room n = cond (ltb room n) (Err (R.TableFull, 0)) (Ok n)
room_for (Err f) room n = Err f

unfoldable pub planned : ℕ → ℕ → ℕ → ℕ → Place
planned room first len msize = room_for (agreed first len msize) room (fewest (most_data msize) len)

-- the pieces over the table's first rows; refused, the table is as it was
abbrev pub laid : Place → List (List ℕ) → ℕ → ℕ → ℕ → List (List ℕ)
laid (Ok n) t most first len = cut most n first len ++ drop n t
laid (Err f) t most first len = t

unfoldable pub table_of : List (List ℕ) → ℕ → ℕ → ℕ → List (List ℕ)
table_of t first len msize = laid (planned (length t) first len msize) t (most_data msize) first len

-- what the planner leaves of a table, and answers
pub record Planned (t : List (List ℕ)) (first len msize : ℕ) (t' : List (List ℕ)) (r : Place) : Type 0 where
  pub table : t' ≡ table_of t first len msize
  pub answer : r ≡ planned (length t) first len msize
