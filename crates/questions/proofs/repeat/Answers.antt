use Rattle.std.proofs.Common.{◌≡◌, ◌-◌, take, ap, ◌∙◌, arith}
use Rattle.questions.specs.Questions.{grown}
use Rattle.questions.proofs.Loops.{grown_turn, grown_over, after_turn, laid_front}
use Rattle.questions.proofs.repeat.Goals as goal

pub loop-i-preserved : goal.loop-i-preserved
loop-i-preserved c =
    let a = c.args in
    let l = c.loop-i in (
      omega arith,
      grown_turn l.out l.i a.back _ _ (omega arith) (omega arith) c.earlier.ensures l.invariant.1,
      after_turn a.out.now l.out l.i _ l.invariant.2,
    )

pub returns : goal.returns
returns c =
    let a = c.args in
    let l = c.loop-i in
    let i : l.i ≡ c.max.result = omega arith in
    let e = grown_over l.i a.back c.min-end.result (take l.i l.out) (omega arith) l.invariant.1 in
    rw (← i) (laid_front a.out.now l.out _ l.i (omega arith) (e ∙ ap (λ n. grown (n - a.count) a.back (take a.count a.out.now)) c.min-end.ensures) l.invariant.2)
