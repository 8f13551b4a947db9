-- The invariant: what is left of the plan runs on from here exactly if all of it does from the first offset.
use Rattle.std.proofs.Common.{◌≡◌, ◌+◌, drop}
use Rattle.planning.specs.Plans.{runs_on}
use Rattle.planning.proofs.accepts.Given as goal

abbrev pub invariant-loop-offset : goal.invariant-loop-offset
invariant-loop-offset l =
    (l.at + l.left ≡ l.first + l.len) × (runs_on l.msize l.at (l.first + l.len) (drop l.offset-index l.pieces) ≡ runs_on l.msize l.first (l.first + l.len) l.pieces)
