-- The invariant: the lines before the position are put, whoever puts the others, and the session is the one that their frames leave.
use Rattle.replaying.specs.ReplayLaws.{Upto}
use lib.ListN.{length}
use mathlib.Core.Path.{◌≡◌}
use Prim.Native.Nat.{◌≤◌, ◌-◌}
use Rattle.replaying.proofs.put_lines.Given as goal

abbrev pub invariant-loop-l : goal.invariant-loop-l
invariant-loop-l l = (l.at ≤ length l.stretch) × (l.n ≤ l.at) × (length l.out ≡ length l.initial.out) × Upto l.stretch l.initial.out l.initial.p l.s l.at l.n l.out l.p

abbrev pub decreases-loop-l : goal.decreases-loop-l
decreases-loop-l l = length l.stretch - l.at
