-- Written by tools/messages from crates/frames/proofs/write_tframe/Answers.antt.
-- A frame that holds a refusal, or its message and then the header in front.
use Rattle.framing.proofs.WritingLaws.{frame_as}
use Rattle.unix_frames.specs.RequestLaws.{request_written, request_refused}
use Rattle.unix_frames.proofs.write_tframe.Goals as goal

pub returns-in_default : goal.returns-in_default
returns-in_default c = record { is = request_refused _ _ _ _ c.in_default.is }

pub returns : goal.returns
returns c =
    record { is = request_written _ _ _ c.in-Ok.is (frame_as c.type_of.ensures c.write_tmessage-end.ensures c.put_header.ensures) }
