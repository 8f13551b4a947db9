-- By its body.
use Rattle.stretch.specs.Views.{view_body}
use Rattle.events.proofs.Ways.{event_is}
use Rattle.events.proofs.event_of.Goals as goal

pub returns : goal.returns
returns c = let a = c.args in event_is a.l.ty a.l.tag.0 (view_body a.l.body) c.what_in.ensures
