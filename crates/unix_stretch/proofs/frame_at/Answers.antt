-- Written by tools/messages from crates/stretch/proofs/frame_at/Answers.antt.
-- A whole frame, the end, or a refusal, as the cut says.
use Rattle.std.specs.Prelude.{Ok}
use Rattle.std.proofs.Common.{sym, ap, ◌∙◌}
use lib.Seq.{length-take-le}
use Rattle.numbers.proofs.Numbers.{bytes_all}
use Rattle.stats.specs.Unix.{table_t, table_r}
use Rattle.framing.proofs.CutLaws.{cut_whole, cut_end, cut_stop}
use Rattle.unix_stretch.specs.StepLaws.{at_frame, asked_end, asked_stop}
use Rattle.unix_stretch.proofs.frame_at.Goals as goal

pub slice_bounds-whole_frame-end : goal.slice_bounds-whole_frame-end
slice_bounds-whole_frame-end c =
    sym (length-take-le _ _ (cut_whole _ _ c.cut_at.ensures (c.in-Ok-Some.is ∙ ap Ok c.in-Ok-Some.field-0-is)).held)

pub returns-in-Ok-Some : goal.returns-in-Ok-Some
returns-in-Ok-Some c =
    let b = bytes_all c.args.bytes.now (λ i. (c.type_inv.bytes i).fits) in
    at_frame _ b (cut_whole _ _ c.cut_at.ensures (c.in-Ok-Some.is ∙ ap Ok c.in-Ok-Some.field-0-is)) c.whole_frame.ensures

pub returns-in-Ok-None : goal.returns-in-Ok-None
returns-in-Ok-None c = asked_end (cut_end _ _ c.cut_at.ensures (c.in-Ok-None.is ∙ ap Ok c.in-Ok-None.field-0-is) table_t table_r)

pub returns-in-Err : goal.returns-in-Err
returns-in-Err c = asked_stop (cut_stop _ _ c.cut_at.ensures c.in-Err.is table_t table_r)
