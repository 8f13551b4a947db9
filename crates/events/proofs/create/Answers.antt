-- The fid and the name.
use Rattle.events.proofs.Ways.{create_is}
use Rattle.events.proofs.create.Goals as goal

pub returns : goal.returns
returns c = let a = c.args in create_is a.m c.request.ensures
