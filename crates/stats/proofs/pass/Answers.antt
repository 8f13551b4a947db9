-- The count is cut off; or its bytes are; or all are held.
use Rattle.std.proofs.lemmas.Result.{err_from_is_err_and}
use Rattle.stats.specs.Following.{pass_cut, pass_end, pass_out}
use Rattle.stats.proofs.pass.Goals as goal

pub returns-in_err-start : goal.returns-in_err-start
returns-in_err-start c =
    let e = err_from_is_err_and c.from_residual.result c.from_residual.ensures.1 in
    rw (e.1, e.2) (pass_cut c.read_u16-count.ensures c.in_err-start.was)

pub returns-then-not-within : goal.returns-then-not-within
returns-then-not-within c = pass_out c.read_u16-count.ensures c.in_ok-start.was c.within.ensures c.if-not-within.true

pub returns : goal.returns
returns c = pass_end c.read_u16-count.ensures c.in_ok-start.was c.within.ensures c.if-not-within.false
