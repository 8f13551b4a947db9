-- A request or a reply, read or refused.
use Rattle.events.proofs.Ways.{a_request, no_request, a_reply, no_reply}
use Rattle.events.proofs.what_in.Goals as goal

pub returns-in-Ok : goal.returns-in-Ok
returns-in-Ok c = a_request c.in-Request.is c.in-Ok.is c.asked_by.ensures

pub returns-in-Err : goal.returns-in-Err
returns-in-Err c = no_request c.in-Request.is c.in-Err.is

pub returns-in-Ok-b : goal.returns-in-Ok-b
returns-in-Ok-b c = a_reply c.in-Reply.is c.in-Ok-b.is c.qids_in.ensures

pub returns-in-Err-b : goal.returns-in-Err-b
returns-in-Err-b c = no_reply c.in-Reply.is c.in-Err-b.is
