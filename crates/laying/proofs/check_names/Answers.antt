-- The part is refused, or its elements are scanned in place.
use Rattle.std.proofs.lemmas.Result.{err_from_is_err_and}
use native.Mathlib.Omega.{arith}
use mathlib.Core.Path.{sym}
use lib.Seq.{length-take-le}
use Rattle.numbers.proofs.Numbers.{bytes_all}
use Rattle.laying.proofs.LayingLaws.{part_lies}
use Rattle.laying.proofs.Lays.{strs_outside, strs_scanned}
use Rattle.laying.proofs.check_names.Goals as goal

pub returns-in_err-at : goal.returns-in_err-at
returns-in_err-at c = let e = err_from_is_err_and c.from_residual.result c.from_residual.ensures.1 in rw (e.1, e.2) (strs_outside c.check_part.ensures c.in_err-at.was)

pub overflow_add-stop : goal.overflow_add-stop
overflow_add-stop c = omega (arith, part_lies c.check_part.ensures c.in_ok-at.was)

pub slice_bounds-scan-end : goal.slice_bounds-scan-end
slice_bounds-scan-end c =
    sym (length-take-le _ _ (part_lies c.check_part.ensures c.in_ok-at.was))

pub returns : goal.returns
returns c =
    let b = bytes_all c.args.lent.now (λ i. (c.type_inv.lent i).fits) in
    strs_scanned b c.check_part.ensures c.in_ok-at.was c.scan-end.ensures c.filled.ensures
