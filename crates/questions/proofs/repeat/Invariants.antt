-- The invariant: with the bytes that are still to come, the front is what it shall be.
use Rattle.std.proofs.Common.{◌≡◌, ◌-◌, ◌≤◌, max, take, drop}
use Rattle.questions.specs.Questions.{grown}
use Rattle.questions.proofs.repeat.Given as goal

abbrev pub invariant-loop-i : goal.invariant-loop-i
invariant-loop-i l =
    (l.i ≤ max l.count l.end) × (grown (l.end - l.i) l.back (take l.i l.out) ≡ grown (l.end - l.count) l.back (take l.count l.initial.out)) × (drop l.i l.out ≡ drop l.i l.initial.out)
