-- Rows of a table of 64, by their keys.
use Prim.Native.Nat.{ℕ, zero, suc, ◌+◌, ◌<◌, ◌≤◌}
use Rattle.std.specs.Prelude.{◌≡◌, Bool, List, Option, Some, None, ltb}
use Rattle.std.proofs.Math.Bool.{cond}
use Rattle.std.proofs.Math.ListN.{get_or}
use Rattle.std.proofs.Math.Dec.{eqb}

-- the first of the n rows from i on that has the key; the row after them where none has
unfoldable pub row_from : ℕ → List ℕ → ℕ → ℕ → ℕ
row_from k xs i zero = i
row_from k xs i (suc n) = cond (eqb (get_or xs i 0) k) i (row_from k xs (i + 1) n)

unfoldable pub row_of : ℕ → List ℕ → ℕ
row_of k xs = row_from k xs 0 64

-- a row that was found, by its number; 64 is none
abbrev pub IsRow : ℕ → Option ℕ → Type 0
IsRow n (Some i) = (i ≡ n) × (i < 64)
IsRow n None = 64 ≤ n

-- whether one has it
abbrev pub has : ℕ → List ℕ → Bool
has k xs = ltb (row_of k xs) 64
