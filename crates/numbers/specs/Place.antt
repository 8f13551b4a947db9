-- Where a reading or a writing stands: at a position, or refused.
use Rattle.std.specs.Prelude.{ℕ, Result}
use Rattle.numbers.specs.declared.Fault.{Fault}

abbrev pub Place : Type 0
Place = Result ℕ Fault
