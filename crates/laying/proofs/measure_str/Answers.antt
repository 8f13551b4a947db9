-- Checked, then the count and the bytes.
use Rattle.numbers.proofs.Numbers.{bytes_all}
use Rattle.laying.proofs.Lays.{check_measured, sized, str_check}
use Rattle.laying.proofs.measure_str.Goals as goal

pub returns : goal.returns
returns c =
    let b = bytes_all c.args.lent.now (λ i. (c.type_inv.lent i).fits) in
    check_measured (sized tt b) (str_check c.check_str-q.ensures) c.advanced.ensures c.advanced-2.ensures
