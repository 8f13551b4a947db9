-- Refused already, no room, or put.
use Rattle.std.proofs.lemmas.Result.{err_from_is_err_and}
use Rattle.numbers.proofs.Numbers.{length_to_le}
use Rattle.numbers.proofs.PlaceLaws.{put_refuses, put_done, put_full}
use Rattle.numbers.proofs.put_num.Goals as goal

pub returns-in_err-at : goal.returns-in_err-at
returns-in_err-at c =
    let p = err_from_is_err_and c.from_residual.result c.from_residual.ensures.1 in rw (p.1, p.2) (put_refuses c.in_err-at.was)

pub returns-then-not-within : goal.returns-then-not-within
returns-then-not-within c =
    put_full (length_to_le _ _) c.in_ok-at.was c.within.ensures c.if-not-within.true

pub returns : goal.returns
returns c =
    put_done (length_to_le _ _) c.in_ok-at.was c.within.ensures c.if-not-within.false c.put_le.ensures
