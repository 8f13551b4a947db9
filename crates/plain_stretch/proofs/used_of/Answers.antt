-- Written by tools/messages from crates/stretch/proofs/used_of/Answers.antt.
-- In each direction: the bytes used, or the size where the body is refused.
use Rattle.plain_stretch.specs.StepLaws.{leaves_request, leaves_no_request, leaves_reply, leaves_no_reply}
use Rattle.plain_stretch.proofs.used_of.Goals as goal

pub returns-in-Ok : goal.returns-in-Ok
returns-in-Ok c = leaves_request c.in-Request.is c.in-Ok.is

pub returns-in-Err : goal.returns-in-Err
returns-in-Err c = leaves_no_request c.in-Request.is c.in-Err.is

pub returns-in-Ok-b : goal.returns-in-Ok-b
returns-in-Ok-b c = leaves_reply c.in-Reply.is c.in-Ok-b.is

pub returns-in-Err-b : goal.returns-in-Err-b
returns-in-Err-b c = leaves_no_reply c.in-Reply.is c.in-Err-b.is
