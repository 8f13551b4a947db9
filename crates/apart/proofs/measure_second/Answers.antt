-- The place is refused already, the string is too long, or it is measured alone: a law of SecondLaws for each way out.
use native.Mathlib.Omega.{arith}
use Rattle.std.proofs.lemmas.Result.{err_from_is_err_and}
use Rattle.apart.proofs.SecondLaws.{second_stays, second_long, second_good, second_lies, second_bad, first_short}
use Rattle.apart.proofs.measure_second.Goals as goal

pub returns-in_err-p : goal.returns-in_err-p
returns-in_err-p c =
    let e = err_from_is_err_and c.from_residual.result c.from_residual.ensures.1 in
    rw (e.1, e.2) (second_stays _ _ c.in_err-p.was)

pub returns-then-second-gt-LONGEST : goal.returns-then-second-gt-LONGEST
returns-then-second-gt-LONGEST c = second_long _ _ c.in_ok-p.was c.if-second-gt-LONGEST.true

pub returns-in-Ok : goal.returns-in-Ok
returns-in-Ok c = second_good _ _ c.in_ok-p.was c.if-second-gt-LONGEST.false c.measure.ensures c.in-Ok.is

pub overflow_add-result : goal.overflow_add-result
overflow_add-result c =
    let n = second_lies c.args.first.now c.args.second.now c.in_ok-p.was c.if-second-gt-LONGEST.false c.measure.ensures c.in-Err.is in
    let l = first_short _ c.in_ok-p.was c.requires in
    omega (arith, c.if-second-gt-LONGEST.false)

pub returns-in-Err : goal.returns-in-Err
returns-in-Err c = second_bad _ _ c.in_ok-p.was c.if-second-gt-LONGEST.false c.measure.ensures c.in-Err.is
