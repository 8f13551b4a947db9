-- The count is cut off, a name is refused, or the part ends where the scan does.
use Rattle.numbers.proofs.Numbers.{bytes_all}
use Rattle.fields.proofs.Ways.{count_lies, strs_cut, strs_bad, strs_on, strs_good}
use Rattle.fields.proofs.read_names.Goals as goal

pub returns-in_default : goal.returns-in_default
returns-in_default c = strs_cut c.read_count-c.ensures c.in_default.is c.no_part.ensures

pub scan_names-end-requires : goal.scan_names-end-requires
scan_names-end-requires c = count_lies c.read_count-c.ensures c.in-Ok.is

pub returns-in_default-end : goal.returns-in_default-end
returns-in_default-end c =
    strs_bad c.read_count-c.ensures c.in-Ok.is c.scan_names-end.ensures c.in_default-end.is c.no_part-in_default-end.ensures

pub overflow_sub-result : goal.overflow_sub-result
overflow_sub-result c =
    let b = bytes_all c.args.s.now (λ i. (c.type_inv.s i).fits) in
    strs_on b c.read_count-c.ensures c.in-Ok.is c.scan_names-end.ensures c.in-Ok-end.is

pub returns : goal.returns
returns c =
    let b = bytes_all c.args.s.now (λ i. (c.type_inv.s i).fits) in
    strs_good b c.read_count-c.ensures c.in-Ok.is c.scan_names-end.ensures c.in-Ok-end.is
