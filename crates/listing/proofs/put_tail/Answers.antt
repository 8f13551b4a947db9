-- The tail of a frame that is accepted, or the sign of one that is not.
use Rattle.listing.specs.TextLaws.{tail_none}
use Rattle.listing.proofs.put_tail.Goals as goal

pub returns : goal.returns
returns c = tail_none c.if-answer-eq0.false c.put_text.ensures
