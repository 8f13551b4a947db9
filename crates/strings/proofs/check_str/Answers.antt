-- The span lies outside, it is too long, or its text says.
use Rattle.std.proofs.lemmas.Result.{err_from_is_err_and}
use Rattle.strings.proofs.SpanLaws.{span_lies}
use Rattle.strings.proofs.Ways.{str_span, str_long, str_text}
use Rattle.strings.proofs.check_str.Goals as goal

pub returns-in_err-at : goal.returns-in_err-at
returns-in_err-at c = let e = err_from_is_err_and c.from_residual.result c.from_residual.ensures.1 in rw (e.1, e.2) (str_span c.check_span.ensures c.in_err-at.was)

pub returns-then-v-gt-LONGEST : goal.returns-then-v-gt-LONGEST
returns-then-v-gt-LONGEST c = str_long c.check_span.ensures c.in_ok-at.was c.if-v-gt-LONGEST.true

pub check_text-requires : goal.check_text-requires
check_text-requires c = span_lies c.check_span.ensures c.in_ok-at.was

pub returns : goal.returns
returns c = str_text c.check_span.ensures c.in_ok-at.was c.if-v-gt-LONGEST.false c.check_text.ensures
