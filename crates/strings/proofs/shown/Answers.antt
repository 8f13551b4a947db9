-- Nothing is shown, or the span lies within the lent bytes.
use Rattle.strings.proofs.Ways.{part_in, part_out}
use Rattle.strings.proofs.shown.Goals as goal

pub returns-then-not-within : goal.returns-then-not-within
returns-then-not-within c = part_out c.within.ensures c.if-not-within.true

pub returns : goal.returns
returns c = part_in c.within.ensures c.if-not-within.false
