-- A frame that stands at a position, by its header; over any table.
use Rattle.std.specs.Prelude.{◌≡◌, Result, Err}
use Rattle.numbers.specs.declared.Refusal.{Refusal}
use Rattle.framing.specs.declared.Head.{Head}

-- the refusal of a header that can't be read
pub record Why (h : Result Head Refusal) (k : Refusal) : Type 0 where
  pub is : (j : Refusal) → h ≡ Err j → k ≡ j
