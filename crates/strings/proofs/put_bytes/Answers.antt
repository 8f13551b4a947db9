-- The check refuses, there is no room, or the bytes are put.
use Rattle.std.proofs.lemmas.Result.{err_from_is_err_and}
use Rattle.numbers.proofs.PlaceLaws.{inside}
use Rattle.strings.proofs.SpanLaws.{span_lies}
use Rattle.strings.proofs.Ways.{bytes_refused, bytes_full, bytes_done}
use Rattle.strings.proofs.put_bytes.Goals as goal

pub returns-in_err-at : goal.returns-in_err-at
returns-in_err-at c = let e = err_from_is_err_and c.from_residual.result c.from_residual.ensures.1 in rw (e.1, e.2) (bytes_refused c.check_span.ensures c.in_err-at.was)

pub returns-then-not-within : goal.returns-then-not-within
returns-then-not-within c = bytes_full c.check_span.ensures c.in_ok-at.was c.within.ensures c.if-not-within.true

pub copy-requires : goal.copy-requires
copy-requires c = (inside c.within.ensures c.if-not-within.false, span_lies c.check_span.ensures c.in_ok-at.was)

pub returns : goal.returns
returns c = bytes_done c.check_span.ensures c.in_ok-at.was c.within.ensures c.if-not-within.false c.copy.ensures
