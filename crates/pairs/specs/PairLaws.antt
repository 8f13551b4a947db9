-- Which types a table knows, and which replies answer, for each way through the code.
use Rattle.std.specs.Prelude.{ℕ, List, [], ◌∷◌}
use Rattle.layouts.specs.Tables.{Row, row}

abbrev pub keys : List Row → List ℕ
keys [] = []
keys (row k l ∷ rs) = k ∷ keys rs
