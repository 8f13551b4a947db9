-- The two ways of a body: a row of the table, and a number that has none.
use Rattle.std.specs.Prelude.{ℕ, ◌≡◌, List, [], ◌∷◌}
use Rattle.layouts.specs.Tables.{Row, row}

-- what the last arm of a match knows: that it is not one of the numbers
abbrev pub Nots : Type 0 → List Row → ℕ → Type 0
Nots N [] ty = N
Nots N (row k l ∷ rs) ty = Nots (N × (ty ≡ k → ⊥)) rs ty
