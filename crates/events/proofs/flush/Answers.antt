-- The old tag.
use Rattle.events.proofs.Ways.{flush_is}
use Rattle.events.proofs.flush.Goals as goal

pub returns : goal.returns
returns c = let a = c.args in flush_is a.m c.request.ensures
