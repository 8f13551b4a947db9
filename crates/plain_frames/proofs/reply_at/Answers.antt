-- Written by tools/messages from crates/frames/proofs/reply_at/Answers.antt.
-- The body is refused, or its end is counted from the frame's first byte.
use Rattle.std.proofs.lemmas.Result.{err_from_is_err_and}
use Rattle.plain_frames.specs.FrameLaws.{reply_message, reply_none}
use Rattle.plain_frames.proofs.reply_at.Goals as goal

pub returns-in_err-m : goal.returns-in_err-m
returns-in_err-m c =
    let e = err_from_is_err_and c.from_residual.result c.from_residual.ensures.1 in
    rw (e.1, e.2) (reply_none _ _ _ c.body_at.ensures _ c.read_rmessage.ensures c.in_err-m.was)

pub returns : goal.returns
returns c =
    reply_message _ _ _ c.body_at.ensures _ c.read_rmessage.ensures c.in_ok-m.was c.saturating_sub.ensures
