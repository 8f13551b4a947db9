-- A frame, the end, or a refusal.
use Rattle.std.specs.Prelude.{Ok}
use Rattle.std.proofs.Common.{ap, ◌∙◌}
use Rattle.session_exports.specs.Follows.{followed_frame, followed_end, followed_stop}
use Rattle.session_exports.proofs.sheafsledge_follow.Goals as goal

pub returns-in-Ok-Some : goal.returns-in-Ok-Some
returns-in-Ok-Some c = let a = c.args in followed_frame a.stretch.now a.s a.position c.frame_at.ensures (c.in-Ok-Some.is ∙ ap Ok c.in-Ok-Some.field-0-is) c.follow.ensures

pub returns-in-Ok-None : goal.returns-in-Ok-None
returns-in-Ok-None c = let a = c.args in followed_end a.stretch.now a.s a.position c.frame_at.ensures (c.in-Ok-None.is ∙ ap Ok c.in-Ok-None.field-0-is) c.passed.ensures

pub returns-in-Err : goal.returns-in-Err
returns-in-Err c =
    let a = c.args in
    followed_stop a.stretch.now a.s a.position c.frame_at.ensures c.in-Err.is c.number.ensures c.passed-in-Err.ensures
