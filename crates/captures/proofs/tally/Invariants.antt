-- The invariant: what is told so far and what the rest holds are what all records hold.
use Prim.Native.Nat.{◌≤◌, ◌-◌}
use mathlib.Core.Path.{◌≡◌}
use lib.ListN.{length}
use Rattle.captures.specs.Captures.{tallied}
use Rattle.captures.specs.Steps.{is_big, from}
use Rattle.captures.proofs.tally.Given as goal

abbrev pub invariant-loop-at : goal.invariant-loop-at
invariant-loop-at l = (l.at ≤ length l.file) × (l.bytes ≤ l.at) × (l.frames ≤ l.at) × (tallied l.bytes l.frames (from (is_big l.order) l.file l.at) ≡ tallied 0 0 (from (is_big l.order) l.file 24))

abbrev pub decreases-loop-at : goal.decreases-loop-at
decreases-loop-at l = length l.file - l.at
