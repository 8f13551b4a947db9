-- Tables of 64 keys: which row has a key, after a row is set; and that no two rows have one.
use Rattle.std.specs.Prelude.{ℕ, ◌<◌, ◌≡◌, List, length, get_or}
use Rattle.session.specs.Rules.{free}

-- ---- no two rows have one key, but that many are free

pub record Distinct (xs : List ℕ) : Type 0 where
  pub rows : length xs ≡ 64
  pub one : (i j : ℕ) → i < 64 → j < 64 → get_or xs i 0 ≡ get_or xs j 0 → (get_or xs i 0 ≡ free → ⊥) → i ≡ j
