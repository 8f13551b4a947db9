-- Written by tools/messages from crates/requests/proofs/finish/Answers.antt.
-- The place after the fields says which case it is.
use Rattle.std.proofs.lemmas.Result.{err_from_is_err_and}
use Rattle.unix_requests.specs.Views.{view_t}
use Rattle.unix_requests.proofs.finish.Goals as goal

pub returns-in_err-end : goal.returns-in_err-end
unfolding view_t
returns-in_err-end c = let e = err_from_is_err_and c.from_residual.result c.from_residual.ensures.1 in rw (e.1, e.2) (rw c.in_err-end.was)

pub returns : goal.returns
unfolding view_t
returns c = rw c.in_ok-end.was
