-- The invariant is Taking.
use Prim.Native.Nat.{◌-◌}
use lib.ListN.{length}
use Rattle.captures.specs.Steps.{is_big}
use Rattle.captures.proofs.Loops.{Taking}
use Rattle.captures.proofs.take_packets.Given as goal

abbrev pub invariant-loop-at : goal.invariant-loop-at
invariant-loop-at l = Taking (is_big l.order) l.file l.initial.out l.initial.times l.out l.times l.at l.to l.i

abbrev pub decreases-loop-at : goal.decreases-loop-at
decreases-loop-at l = length l.file - l.at
