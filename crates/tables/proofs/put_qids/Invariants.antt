-- The first i qids are placed, in an output that is as long as it was.
use Rattle.std.specs.Prelude.{◌≡◌, length}
use Rattle.tables.specs.Qids.{placed}
use Rattle.tables.proofs.put_qids.Given as goal

abbrev pub invariant-loop-i : goal.invariant-loop-i
invariant-loop-i l = (length l.out ≡ length l.initial.out) × (l.out ≡ placed l.initial.out l.at l.qids l.i)
