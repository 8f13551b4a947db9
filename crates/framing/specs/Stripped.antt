-- Demand 3, of one frame and over any table: a stripped frame gives the same record, and is written back byte for byte; a cut one is refused as short.
use Rattle.std.specs.Prelude.{ℕ, cond, ltb}
use mathlib.Core.List.{List, ◌++◌}
use Rattle.std.proofs.Math.ListN.{take, drop}
use Rattle.numbers.specs.Numbers.{to_le}

-- the first n bytes, with their number as the size
unfoldable pub resized : ℕ → List ℕ → List ℕ
resized n s = to_le 4 n ++ drop 4 (take n s)

-- ---- a cut frame is refused as short

-- the first j bytes, with the size lowered to match where it is still held
unfoldable pub cut_at : ℕ → List ℕ → List ℕ
cut_at j s = cond (ltb j 4) (take j s) (resized j s)
