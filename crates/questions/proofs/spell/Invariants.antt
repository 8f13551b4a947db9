-- The invariant: with the bytes that are still to come, the output is what it shall be.
use Rattle.std.proofs.Common.{◌≡◌, ◌+◌, length, take}
use lib.Seq.{sets}
use Rattle.questions.specs.Questions.{spelt}
use Rattle.questions.proofs.Loops.{rest}
use Rattle.questions.proofs.spell.Given as goal

abbrev pub invariant-loop-i : goal.invariant-loop-i
invariant-loop-i l =
    (sets l.out l.i (rest l.hex (length l.initial.out) l.i) ≡ sets l.initial.out 0 (take (length l.initial.out) (spelt l.hex)))
    × (l.i + length (rest l.hex (length l.initial.out) l.i) ≡ length (take (length l.initial.out) (spelt l.hex)))
