-- The three numbers measured, settled, then put.
use mathlib.Core.List.{[], ◌∷◌}
use Rattle.laying.proofs.LayingLaws.{measure_numbers, measured_none, put_number, put_done}
use Rattle.laying.proofs.WritingLaws.{written}
use Rattle.layouts.proofs.qids.write_qid.Goals as goal

pub returns : goal.returns
returns c =
    written tt (measure_numbers 1 (4 ∷ 8 ∷ []) c.advanced-end.ensures measured_none) c.begun-start.ensures
    (put_number c.put_u8-q1.ensures (put_number c.put_u32-q2.ensures (put_number c.put_u64.ensures put_done)))
