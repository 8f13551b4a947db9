-- The span lies outside, or within.
use Rattle.strings.proofs.Ways.{span_in_lem, span_out}
use Rattle.strings.proofs.check_span.Goals as goal

pub returns-then-not-within : goal.returns-then-not-within
returns-then-not-within c = span_out c.in_ok-at.was c.within.ensures c.if-not-within.true

pub returns : goal.returns
returns c = span_in_lem c.in_ok-at.was c.within.ensures c.if-not-within.false
