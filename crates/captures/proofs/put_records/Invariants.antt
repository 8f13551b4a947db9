-- The invariant is Putting.
use Prim.Native.Nat.{◌-◌}
use lib.ListN.{length}
use Rattle.captures.proofs.Loops.{Putting}
use Rattle.captures.proofs.put_records.Given as goal

abbrev pub invariant-loop-at : goal.invariant-loop-at
invariant-loop-at l = Putting l.stretch l.times l.initial.out l.out l.at l.to l.i

abbrev pub decreases-loop-at : goal.decreases-loop-at
decreases-loop-at l = length l.stretch - l.at
