-- Which of the 256 numbers are known in each direction (F3.3), computed.
use Rattle.std.specs.Prelude.{ℕ, zero, suc, Bool, true, false, cond, List, [], ◌∷◌, ◌++◌, ltb}
use Rattle.std.proofs.Math.Option.{Option, none, some}
use Rattle.fields.specs.Layouts.{Layout}
use Rattle.layouts.specs.Tables.{Row, row, lookup}

-- the numbers below n that have a row
abbrev kept : Option Layout → ℕ → List ℕ
kept none k = []
kept (some l) k = k ∷ []

unfoldable pub known_below : ℕ → List Row → List ℕ
known_below zero rs = []
known_below (suc n) rs = known_below n rs ++ kept (lookup rs n) n

-- every row's number has one byte
abbrev pub below : List Row → Bool
below [] = true
below (row k l ∷ rs) = cond (ltb k 256) (below rs) false
