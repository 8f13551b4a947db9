-- The blocks so far are copied. The measure is how many bytes are to come.
use Rattle.std.specs.Prelude.{◌≤◌, ◌-◌, ◌≡◌, length, take, drop}
use Rattle.numbers.specs.Places.{over}
use Rattle.strings.proofs.copy_blocks.Given as goal

abbrev pub invariant-loop-done : goal.invariant-loop-done
invariant-loop-done l =
    (l.done ≤ l.len) × (length l.out ≡ length l.initial.out) × (l.out ≡ over l.initial.out l.at (take l.done (drop l.start l.lent)))

abbrev pub decreases-loop-done : goal.decreases-loop-done
decreases-loop-done l = l.len - l.done
