-- The fids and the names.
use Rattle.events.proofs.Ways.{walk_is}
use Rattle.events.proofs.walk.Goals as goal

pub returns : goal.returns
returns c = let a = c.args in walk_is a.m c.unless_same-new.ensures c.request.ensures
