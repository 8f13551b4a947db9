-- The invariant is Counting.
use Prim.Native.Nat.{◌-◌}
use lib.ListN.{length}
use Rattle.captures.proofs.StretchLaws.{Counting}
use Rattle.captures.proofs.count.Given as goal

abbrev pub invariant-loop-at : goal.invariant-loop-at
invariant-loop-at l = Counting l.stretch l.at l.frames l.fit

abbrev pub decreases-loop-at : goal.decreases-loop-at
decreases-loop-at l = length l.stretch - l.at
