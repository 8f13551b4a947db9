-- The count is cut off, the qids are, or all are held.
use Rattle.fields.proofs.Ways.{quids_cut, quids_short, quids_good}
use Rattle.fields.proofs.read_qids.Goals as goal

pub returns-in_default : goal.returns-in_default
returns-in_default c = quids_cut c.read_count-c.ensures c.in_default.is c.no_part.ensures

pub returns-then-not-within : goal.returns-then-not-within
returns-then-not-within c =
    quids_short c.read_count-c.ensures c.in-Ok.is c.within.ensures c.if-not-within.true c.no_part-then-not-within.ensures

pub returns : goal.returns
returns c = quids_good c.read_count-c.ensures c.in-Ok.is c.within.ensures c.if-not-within.false
