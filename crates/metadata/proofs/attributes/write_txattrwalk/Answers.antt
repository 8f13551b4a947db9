-- Written by tools/messages from its table of messages.
-- Each field measured, then each field put, by the law of every writer.
use mathlib.Core.List.{[], ◌∷◌}
use Rattle.numbers.proofs.Numbers.{bytes_all}
use Rattle.fields.specs.Layouts.{str}
use Rattle.laying.proofs.LayingLaws.{measure_numbers, measure, measured_none, put_number, put_counted, put_done}
use Rattle.laying.proofs.WritingLaws.{written}
use Rattle.metadata.proofs.attributes.write_txattrwalk.Goals as goal

pub returns : goal.returns
returns c =
    let b = bytes_all c.args.lent.now (λ i. (c.type_inv.lent i).fits) in
    written b (measure_numbers 4 (4 ∷ []) c.advanced-p1.ensures (measure c.measure_str-end.ensures measured_none)) c.begun-start.ensures
    (put_number c.put_u32-q1.ensures (put_number c.put_u32-q2.ensures (put_counted str tt c.put_num-q3.ensures c.put_bytes.ensures put_done)))
