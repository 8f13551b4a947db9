-- Written by tools/messages from its table of messages.
-- Each field measured, then each field put, by the law of every writer.
use Rattle.numbers.proofs.Numbers.{bytes_all}
use Rattle.fields.specs.Layouts.{quids}
use Rattle.laying.proofs.LayingLaws.{measure, measured_none, put_counted, put_done}
use Rattle.laying.proofs.WritingLaws.{written}
use Rattle.common.proofs.walking.write_rwalk.Goals as goal

pub returns : goal.returns
returns c =
    let b = bytes_all c.args.lent.now (λ i. (c.type_inv.lent i).fits) in
    written b (measure c.measure_qids-end.ensures measured_none) c.begun-start.ensures
    (put_counted quids tt c.put_u16-q1.ensures c.put_bytes.ensures put_done)
