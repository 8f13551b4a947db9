-- The invariant: with the bytes that are still to come, the part is what it shall be.
use Rattle.std.specs.Prelude.{◌-◌, ◌≡◌}
use Rattle.std.proofs.Math.Seq.{sets}
use Rattle.numbers.specs.Numbers.{to_le}
use Rattle.numbers.proofs.put_le.Given as goal

abbrev pub invariant-loop-b : goal.invariant-loop-b
invariant-loop-b l = sets l.b-items l.b-index (to_le (l.width - l.b-index) l.v) ≡ to_le l.width l.x
