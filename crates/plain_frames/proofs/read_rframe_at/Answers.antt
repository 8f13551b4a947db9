-- Written by tools/messages from crates/frames/proofs/read_rframe_at/Answers.antt.
-- The header or the body is refused, or the body is read from where it stands.
use Rattle.std.proofs.lemmas.Result.{err_from_is_err_and}
use Rattle.std.proofs.Common.{arith, sym, length-take-le}
use Rattle.numbers.proofs.Numbers.{bytes_all}
use Rattle.framing.proofs.Standing.{own_held}
use Rattle.plain_frames.specs.FrameLaws.{rframe_no, rframe_yes, rframe_bad}
use Rattle.plain_frames.proofs.read_rframe_at.Goals as goal

pub returns-in_default : goal.returns-in_default
returns-in_default c = rframe_no _ _ c.min-at.ensures _ c.read_header-read.ensures c.unwrap_err.ensures

pub overflow_add-at : goal.overflow_add-at
overflow_add-at c =
    let a = c.args in
    omega (arith, (own_held a.s.now a.position c.min-at.ensures c.read_header-read.ensures c.in-Ok.is).1)

pub slice_bounds-reply_at-end : goal.slice_bounds-reply_at-end
slice_bounds-reply_at-end c =
    let a = c.args in
    sym (length-take-le _ _ (own_held a.s.now a.position c.min-at.ensures c.read_header-read.ensures c.in-Ok.is).1)

pub returns-in_err-msg : goal.returns-in_err-msg
returns-in_err-msg c =
    let b = bytes_all c.args.s.now (λ i. (c.type_inv.s i).fits) in
    let e = err_from_is_err_and c.from_residual.result c.from_residual.ensures.1 in
    rw (e.1, e.2) (rframe_bad _ _ c.min-at.ensures _ c.read_header-read.ensures b c.in-Ok.is _ c.reply_at.ensures c.in_err-msg.was)

pub returns : goal.returns
returns c =
    let b = bytes_all c.args.s.now (λ i. (c.type_inv.s i).fits) in
    rframe_yes _ _ c.min-at.ensures _ c.read_header-read.ensures b c.in-Ok.is _ c.reply_at.ensures _ _ c.in_ok-msg.was
