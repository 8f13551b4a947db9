-- Measured, settled, then put: one law over the field.
use Rattle.numbers.proofs.Numbers.{bytes_all}
use Rattle.fields.specs.Layouts.{strs}
use Rattle.laying.proofs.WritingLaws.{counted_written}
use Rattle.laying.proofs.write_names.Goals as goal

pub returns : goal.returns
returns c =
    let b = bytes_all c.args.lent.now (λ i. (c.type_inv.lent i).fits) in
    counted_written strs tt b c.measure_names-end.ensures c.begun-start.ensures c.put_u16-q.ensures c.put_bytes.ensures
