-- The fid, and the afid unless it is none.
use Rattle.events.proofs.Ways.{attach_is}
use Rattle.events.proofs.attach.Goals as goal

pub returns : goal.returns
returns c = let a = c.args in attach_is a.m c.unless_none.ensures c.request.ensures
