use native.Mathlib.Omega.{arith}
use Rattle.std.proofs.lemmas.Result.{err_from_is_err_and}
use Rattle.captures.proofs.StretchLaws.{next, stopped, count_begins, count_long, count_short, count_refused, count_stops, count_unfit, count_fit}
use Rattle.captures.proofs.count.Goals as goal
use Rattle.captures.proofs.count.Goals.{then-is_ok+then-next-at, else-is_ok, else-is_ok-via-then-is_ok+else-next-at, else-is_ok-via-else-is_ok}

pub loop-at-init : goal.loop-at-init
loop-at-init c = count_begins _

pub returns-in_err-next : goal.returns-in_err-next
returns-in_err-next c =
    let l = c.loop-at in
    let e = err_from_is_err_and c.from_residual.result c.from_residual.ensures.1 in
    rw (e.1, e.2) (count_stops l.invariant (stopped _ _ c.loop-at-test.true c.frame_end.ensures c.in_err-next.was))

pub overflow_sub-next : goal.overflow_sub-next
overflow_sub-next c =
    let x = next c.args.stretch.now c.loop-at.at c.loop-at.invariant.within c.frame_end.ensures c.in_ok-next.was in omega (arith, x.on)

pub loop-at-smaller : goal.loop-at-smaller
loop-at-smaller c =
    let x = next c.args.stretch.now c.loop-at.at c.loop-at.invariant.within c.frame_end.ensures c.in_ok-next.was in
    omega (arith, x.held, x.on, x.seven)

pub loop-at-preserved : goal.loop-at-preserved
loop-at-preserved c =
    let w = c.loop-at.invariant in
    let x = next c.args.stretch.now c.loop-at.at w.within c.frame_end.ensures c.in_ok-next.was in
    elim c.if-is_ok.branch [
      | then-is_ok+then-next-at v ↦ rw v.fit-is (count_long w x v.if-is_ok.ensures.value v.if-next-at.true)
      | else-is_ok v ↦
          rw v.fit-is (elim v.else-is_ok.branch [
            | else-is_ok-via-then-is_ok+else-next-at u ↦ count_short w x u.if-next-at.false
            | else-is_ok-via-else-is_ok u ↦ count_refused w x u.if-is_ok.ensures.value
          ])
    ]

pub returns-in_err-fit : goal.returns-in_err-fit
returns-in_err-fit c =
    let e = err_from_is_err_and c.from_residual-in_err-fit.result c.from_residual-in_err-fit.ensures.1 in
    rw (e.1, e.2) (count_unfit c.loop-at.invariant (omega arith) c.in_err-fit.was)

pub returns : goal.returns
returns c = count_fit c.loop-at.invariant (omega arith) c.in_ok-fit.was
