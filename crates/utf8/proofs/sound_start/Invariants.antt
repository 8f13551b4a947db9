-- The invariant: the start that is passed, and that of what is left, are that of all. The measure is how many bytes are left.
use Prim.Native.Nat.{◌≤◌, ◌-◌, ◌+◌}
use mathlib.Core.Path.{◌≡◌}
use lib.ListN.{length, drop}
use Rattle.utf8.specs.Utf8.{sound_start}
use Rattle.utf8.proofs.sound_start.Given as goal

abbrev pub invariant-loop-i : goal.invariant-loop-i
invariant-loop-i l = (l.i ≤ length l.s) × (l.i + sound_start (drop l.i l.s) ≡ sound_start l.s)

abbrev pub decreases-loop-i : goal.decreases-loop-i
decreases-loop-i l = length l.s - l.i
