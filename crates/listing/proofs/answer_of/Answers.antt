-- In each direction: 0 for a message, else the number of the refusal.
use Rattle.listing.specs.AnswerLaws.{number_of_request, number_of_no_request, number_of_reply, number_of_no_reply}
use Rattle.listing.proofs.answer_of.Goals as goal

pub returns-in-Ok : goal.returns-in-Ok
returns-in-Ok c = number_of_request c.in-Request.is c.in-Ok.is

pub returns-in-Err : goal.returns-in-Err
returns-in-Err c = number_of_no_request c.in-Request.is c.in-Err.is c.number.ensures

pub returns-in-Ok-b : goal.returns-in-Ok-b
returns-in-Ok-b c = number_of_reply c.in-Reply.is c.in-Ok-b.is

pub returns-in-Err-b : goal.returns-in-Err-b
returns-in-Err-b c = number_of_no_reply c.in-Reply.is c.in-Err-b.is c.number-in-Err-b.ensures
