-- The fid, and the newfid unless it is the same.
use Rattle.events.proofs.Ways.{xattr_is}
use Rattle.events.proofs.xattr_walk.Goals as goal

pub returns : goal.returns
returns c = let a = c.args in xattr_is a.m c.unless_same-new.ensures c.request.ensures
