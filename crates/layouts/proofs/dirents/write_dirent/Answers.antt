-- Each field measured, settled, then each field put.
use mathlib.Core.List.{[], ◌∷◌}
use Rattle.numbers.proofs.Numbers.{bytes_all}
use Rattle.fields.specs.Layouts.{str}
use Rattle.laying.proofs.LayingLaws.{measure_numbers, measure, measured_none, put_number, put_counted, put_done}
use Rattle.laying.proofs.WritingLaws.{written}
use Rattle.layouts.proofs.dirents.write_dirent.Goals as goal

pub returns : goal.returns
returns c =
    let b = bytes_all c.args.lent.now (λ i. (c.type_inv.lent i).fits) in
    written b (measure_numbers 1 (4 ∷ 8 ∷ 8 ∷ 1 ∷ []) c.advanced-p1.ensures (measure c.measure_str-end.ensures measured_none)) c.begun-start.ensures
    (put_number c.put_u8-q1.ensures (put_number c.put_u32-q2.ensures (put_number c.put_u64-q3.ensures (put_number c.put_u64-q4.ensures (put_number c.put_u8-q5.ensures (put_counted str tt c.put_num-q6.ensures c.put_bytes.ensures put_done))))))
