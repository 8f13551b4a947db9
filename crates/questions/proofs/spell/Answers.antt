use Rattle.std.proofs.Common.{◌≡◌, length, refl, ap, arith}
use Rattle.questions.proofs.Loops.{rest_turn, rest_stops, rest_over, spell_turn, spell_over}
use Rattle.questions.proofs.spell.Goals as goal

pub returns-then-byte-gt255 : goal.returns-then-byte-gt255
returns-then-byte-gt255 c =
    let a = c.args in
    let l = c.loop-i in
    let z = rest_stops a.hex.now (length a.out.now) l.i (omega arith) (omega arith) c.digit.ensures.0 c.digit-in-loop-i.ensures.0 c.if-byte-gt255.true in
    spell_over a.out.now l.out l.i _ a.hex.now z refl l.invariant.0 l.invariant.1

pub loop-i-preserved : goal.loop-i-preserved
loop-i-preserved c =
    let a = c.args in
    let l = c.loop-i in
    let t = rest_turn a.hex.now (length a.out.now) l.i (omega arith) (omega arith) c.digit.ensures.0 c.digit-in-loop-i.ensures.0 c.if-byte-gt255.false in
    (spell_turn l.out l.i _ t l.invariant.0, omega (arith, ap length t))

pub returns : goal.returns
returns c =
    let a = c.args in
    let l = c.loop-i in
    let e : l.i ≡ c.min-end.result = omega arith in
    rw (← e) (spell_over a.out.now l.out l.i _ a.hex.now (rest_over a.hex.now _ l.i (omega arith)) refl l.invariant.0 l.invariant.1)
