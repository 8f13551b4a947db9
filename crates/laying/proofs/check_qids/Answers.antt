-- The part is refused, its length is not 13 for each qid, or it is.
use Rattle.std.proofs.lemmas.Result.{err_from_is_err_and}
use Rattle.laying.proofs.Lays.{quids_outside, quids_fine, quids_malformed}
use Rattle.laying.proofs.check_qids.Goals as goal

pub returns-in_err-at : goal.returns-in_err-at
returns-in_err-at c = let e = err_from_is_err_and c.from_residual.result c.from_residual.ensures.1 in rw (e.1, e.2) (quids_outside c.check_part.ensures c.in_err-at.was)

pub returns-then-v : goal.returns-then-v
returns-then-v c = quids_malformed c.check_part.ensures c.in_ok-at.was c.if-v.true

pub returns : goal.returns
returns c = quids_fine c.check_part.ensures c.in_ok-at.was c.if-v.false
