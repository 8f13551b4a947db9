-- Written by tools/messages from crates/frames/proofs/write_rframe/Answers.antt.
-- Its body, then its header in front.
use Rattle.framing.proofs.WritingLaws.{frame_as}
use Rattle.unix_frames.proofs.write_rframe.Goals as goal

pub returns : goal.returns
returns c =
    frame_as c.type_of.ensures c.write_rmessage-end.ensures c.put_header.ensures
