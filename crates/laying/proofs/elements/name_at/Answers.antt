-- Once all checks are passed, the name stands after those before it.
use Rattle.std.proofs.lemmas.Result.{err_from_is_err_and}
use Rattle.std.proofs.Common.{arith, length-take-le}
use Rattle.std.proofs.Math.Path.{sym}
use Rattle.numbers.proofs.Numbers.{bytes_all}
use Rattle.laying.specs.Elements.{view_element}
use Rattle.laying.proofs.ElementLaws.{element, element_lies, element_refused, name_found}
use Rattle.laying.proofs.elements.name_at.Goals as goal

pub returns-in_err-check_names : goal.returns-in_err-check_names
unfolding view_element
returns-in_err-check_names c = let e = err_from_is_err_and c.from_residual.result c.from_residual.ensures.1 in rw (e.1, e.2) (element_refused c.asked-p.ensures c.check_names.ensures c.in_err-check_names.was)

pub overflow_add-part : goal.overflow_add-part
overflow_add-part c =
    omega (arith, element_lies (element c.asked-p.ensures c.check_names.ensures c.in_ok-check_names.was))

pub slice_bounds-part-end : goal.slice_bounds-part-end
slice_bounds-part-end c =
    sym (length-take-le _ _ (element_lies (element c.asked-p.ensures c.check_names.ensures c.in_ok-check_names.was)))

pub overflow_cast-i : goal.overflow_cast-i
overflow_cast-i c =
    let l = (element c.asked-p.ensures c.check_names.ensures c.in_ok-check_names.was).below in omega (arith, l)

pub returns : goal.returns
unfolding view_element
returns c =
    let b = bytes_all c.args.lent.now (λ i. (c.type_inv.lent i).fits) in
    let l = element c.asked-p.ensures c.check_names.ensures c.in_ok-check_names.was in
    name_found b l c.scan-before.ensures c.read_str.ensures
