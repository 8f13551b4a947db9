-- The part is refused; else the number is below the count, or it is not.
use Rattle.std.proofs.lemmas.Result.{err_from_is_err_and}
use Rattle.laying.proofs.ElementLaws.{asked_outside, asked_below, asked_past}
use Rattle.laying.proofs.elements.asked.Goals as goal

pub returns-in_err-at : goal.returns-in_err-at
returns-in_err-at c = let e = err_from_is_err_and c.from_residual.result c.from_residual.ensures.1 in rw (e.1, e.2) (asked_outside c.check_part.ensures c.in_err-at.was)

pub returns-then-v-i : goal.returns-then-v-i
returns-then-v-i c = asked_past c.check_part.ensures c.in_ok-at.was c.if-v-i.true

pub returns : goal.returns
returns c = asked_below c.check_part.ensures c.in_ok-at.was c.if-v-i.false
