-- The invariant: the number is what the bytes hold that are left, and what was taken of it, which stands above them.
use Rattle.std.specs.Prelude.{take, drop}
use Rattle.numbers.specs.Numbers.{from_le}
use Rattle.numbers.proofs.Loops.{Taken}
use Rattle.numbers.proofs.le_at.Given as goal

abbrev pub invariant-loop-b : goal.invariant-loop-b
invariant-loop-b l = Taken l.width l.b-iterator.iter.rest.now l.v (from_le (take l.width (drop l.at l.s)))
