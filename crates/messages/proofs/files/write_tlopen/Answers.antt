-- Written by tools/messages from its table of messages.
-- Each field measured, then each field put, by the law of every writer.
use mathlib.Core.List.{[], ◌∷◌}
use Rattle.numbers.proofs.Numbers.{bytes_all}
use Rattle.laying.proofs.LayingLaws.{measure_numbers, measured_none, put_number, put_done}
use Rattle.laying.proofs.WritingLaws.{written}
use Rattle.messages.proofs.files.write_tlopen.Goals as goal

pub returns : goal.returns
returns c =
    let b = bytes_all c.args.lent.now (λ i. (c.type_inv.lent i).fits) in
    written b (measure_numbers 4 (4 ∷ []) c.advanced-end.ensures measured_none) c.begun-start.ensures
    (put_number c.put_u32-q1.ensures (put_number c.put_u32.ensures put_done))
