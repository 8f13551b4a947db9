-- The check refuses, there is no room for count and bytes, or both are put.
use Rattle.std.proofs.lemmas.Result.{err_from_is_err_and}
use Rattle.std.proofs.Common.{arith}
use Rattle.strings.proofs.Ways.{string_small, string_refused, string_full, string_done}
use Rattle.strings.proofs.put_str.Goals as goal

pub returns-in_err-at : goal.returns-in_err-at
returns-in_err-at c = let e = err_from_is_err_and c.from_residual.result c.from_residual.ensures.1 in rw (e.1, e.2) (string_refused c.check_str.ensures c.in_err-at.was)

pub returns-then-not-within : goal.returns-then-not-within
returns-then-not-within c = string_full c.check_str.ensures c.in_ok-at.was c.within.ensures c.if-not-within.true

pub overflow_add-v : goal.overflow_add-v
overflow_add-v c = omega (arith, string_small c.check_str.ensures c.in_ok-at.was)

pub overflow_cast-v : goal.overflow_cast-v
overflow_cast-v c = omega (arith, string_small c.check_str.ensures c.in_ok-at.was)

pub returns : goal.returns
returns c = string_done c.check_str.ensures c.in_ok-at.was c.within.ensures c.if-not-within.false c.put_u16-text.ensures c.put_bytes.ensures
