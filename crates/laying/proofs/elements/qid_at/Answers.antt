-- Once all checks are passed, the qid stands after 13 bytes for each before it.
use Rattle.std.proofs.lemmas.Result.{err_from_is_err_and}
use Rattle.std.proofs.Common.{arith}
use Rattle.laying.specs.Elements.{view_element}
use Rattle.laying.proofs.ElementLaws.{element, element_refused, qid_found}
use Rattle.laying.proofs.elements.qid_at.Goals as goal

pub returns-in_err-check_qids : goal.returns-in_err-check_qids
unfolding view_element
returns-in_err-check_qids c = let e = err_from_is_err_and c.from_residual.result c.from_residual.ensures.1 in rw (e.1, e.2) (element_refused c.asked-p.ensures c.check_qids.ensures c.in_err-check_qids.was)

pub overflow_mul-result : goal.overflow_mul-result
overflow_mul-result c =
    let l = (qid_found (element c.asked-p.ensures c.check_qids.ensures c.in_ok-check_qids.was)).lies in omega (arith, l)

pub overflow_add-result : goal.overflow_add-result
overflow_add-result c =
    let l = (qid_found (element c.asked-p.ensures c.check_qids.ensures c.in_ok-check_qids.was)).lies in omega (arith, l)

pub returns : goal.returns
unfolding view_element
returns c =
    (qid_found (element c.asked-p.ensures c.check_qids.ensures c.in_ok-check_qids.was)).is
