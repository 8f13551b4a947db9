-- Written by tools/messages from crates/request_exports/proofs/sheafsledge_write_tframe/Answers.antt.
-- It holds a refusal, or its body is written at 7 and the header put in front of it.
use Rattle.exports.specs.FrameWriting.{holds_refusal, frame_wrote}
use Rattle.unix_exports.proofs.sheafsledge_unix_write_tframe.Goals as goal

pub returns-then-refusal-ne0 : goal.returns-then-refusal-ne0
returns-then-refusal-ne0 c = holds_refusal c.if-refusal-ne0.true c.ended.ensures

pub returns : goal.returns
returns c =
    frame_wrote c.if-refusal-ne0.false c.write_flat-end.ensures c.put_header.ensures c.ended-2.ensures
