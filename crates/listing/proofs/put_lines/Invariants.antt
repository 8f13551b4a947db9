-- The invariant: the lines before the position are put, whoever puts the others; and there are no more of them than bytes before it.
use Prim.Native.Nat.{◌≤◌, ◌-◌}
use mathlib.Core.Path.{◌≡◌}
use lib.ListN.{length}
use Rattle.listing.specs.ListLaws.{Upto}
use Rattle.listing.proofs.put_lines.Given as goal

abbrev pub invariant-loop-l : goal.invariant-loop-l
invariant-loop-l l = (l.at ≤ length l.bytes) × (l.n ≤ l.at) × (length l.out ≡ length l.initial.out) × Upto l.bytes l.initial.out l.initial.p l.at l.n l.out l.p

abbrev pub decreases-loop-l : goal.decreases-loop-l
decreases-loop-l l = length l.bytes - l.at
