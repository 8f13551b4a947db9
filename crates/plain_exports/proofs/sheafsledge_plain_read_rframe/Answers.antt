-- Written by tools/messages from crates/reply_exports/proofs/sheafsledge_read_rframe/Answers.antt.
-- The header can't be read, the body is refused and the frame with it, or it is accepted.
use mathlib.Core.Path.{refl, sym}
use lib.Seq.{length-take-le}
use Rattle.numbers.proofs.Numbers.{bytes_all}
use Rattle.framing.proofs.HeaderLaws.{head_yes}
use Rattle.layouts.specs.Plain.{table_r}
use Rattle.exports.specs.FrameReading.{flat_replies, headless_read, frame_read, body_failed}
use Rattle.plain_exports.proofs.sheafsledge_plain_read_rframe.Goals as goal

pub slice_bounds-own-end : goal.slice_bounds-own-end
slice_bounds-own-end c = sym (length-take-le _ _ (head_yes _ c.read_header.ensures c.in-Ok.is).held)

pub returns-in-Ok-read_flat : goal.returns-in-Ok-read_flat
returns-in-Ok-read_flat c =
    let b = bytes_all c.args.bytes.now (λ i. (c.type_inv.bytes i).fits) in
    frame_read (flat_replies table_r) _ c.read_header.ensures b c.in-Ok.is c.read_flat.ensures c.in-Ok-read_flat.is c.outcome_of.ensures

pub returns-in-Err-read_flat : goal.returns-in-Err-read_flat
returns-in-Err-read_flat c =
    let b = bytes_all c.args.bytes.now (λ i. (c.type_inv.bytes i).fits) in
    body_failed (flat_replies table_r) _ c.read_header.ensures b c.in-Ok.is c.read_flat.ensures c.in-Err-read_flat.is c.ended.ensures

pub returns-in-Err : goal.returns-in-Err
returns-in-Err c =
    headless_read (flat_replies table_r) _ c.read_header.ensures c.in-Err.is c.ended-in-Err.ensures refl
