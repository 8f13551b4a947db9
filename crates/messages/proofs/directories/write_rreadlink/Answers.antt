-- Written by tools/messages from its table of messages.
-- Each field measured, then each field put, by the law of every writer.
use Rattle.numbers.proofs.Numbers.{bytes_all}
use Rattle.fields.specs.Layouts.{str}
use Rattle.laying.proofs.LayingLaws.{measure, measured_none, put_counted, put_done}
use Rattle.laying.proofs.WritingLaws.{written}
use Rattle.messages.proofs.directories.write_rreadlink.Goals as goal

pub returns : goal.returns
returns c =
    let b = bytes_all c.args.lent.now (λ i. (c.type_inv.lent i).fits) in
    written b (measure c.measure_str-end.ensures measured_none) c.begun-start.ensures
    (put_counted str tt c.put_num-q1.ensures c.put_bytes.ensures put_done)
