-- The ways out, in the order in which the record is looked at.
use native.Mathlib.Omega.{arith}
use Rattle.numbers.proofs.PlaceLaws.{inside, outside}
use Rattle.captures.proofs.FileLaws.{size_cut, size_unlike, size_out, size_long, size_other, size_held}
use Rattle.captures.proofs.frame_size.Goals as goal

pub returns-then-not-within : goal.returns-then-not-within
returns-then-not-within c = size_cut _ _ _ (outside c.within.ensures (c.if-not-within.true))

pub returns-then-captured-number : goal.returns-then-captured-number
returns-then-captured-number c =
    size_unlike _ _ _ (inside c.within.ensures (c.if-not-within.false)) c.number-captured.ensures c.number.ensures c.if-captured-number.true

pub returns-then-captured-lt-LEAST : goal.returns-then-captured-lt-LEAST
returns-then-captured-lt-LEAST c =
    size_out _ _ _ (inside c.within.ensures (c.if-not-within.false)) c.number-captured.ensures c.number.ensures c.if-captured-number.false c.then-captured-lt-LEAST.either

pub returns-then-not-within-2 : goal.returns-then-not-within-2
returns-then-not-within-2 c =
    size_long _ _ _ (inside c.within.ensures (c.if-not-within.false)) c.number-captured.ensures c.number.ensures c.if-captured-number.false (omega arith) (omega arith) (outside c.within-2.ensures (c.if-not-within-2.true))

pub returns-then-number-captured : goal.returns-then-number-captured
returns-then-number-captured c =
    size_other _ _ _ (inside c.within.ensures (c.if-not-within.false)) c.number-captured.ensures c.number.ensures c.if-captured-number.false (omega arith) (omega arith) (inside c.within-2.ensures (c.if-not-within-2.false)) c.number-2.ensures c.if-number-captured.true

pub returns : goal.returns
returns c =
    size_held _ _ _ (inside c.within.ensures (c.if-not-within.false)) c.number-captured.ensures c.number.ensures c.if-captured-number.false (omega arith) (omega arith) (inside c.within-2.ensures (c.if-not-within-2.false)) c.number-2.ensures c.if-number-captured.false
