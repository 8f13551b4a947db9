use native.Mathlib.Omega.{arith}
use Rattle.listing.specs.TextLaws.{all_length}
use Rattle.listing.specs.ListLaws.{moved}
use Rattle.replaying.proofs.ReplayLaws.{upto_none, upto_next, upto_end, upto_stop}
use Rattle.std.specs.Prelude.{refl, Ok}
use Rattle.std.proofs.Common.{ap, ◌∙◌}
use Rattle.replaying.proofs.put_lines.Goals as goal

pub loop-l-init : goal.loop-l-init
loop-l-init c = (omega arith, omega arith, refl, upto_none c.fresh-s.ensures)

pub loop-l-smaller : goal.loop-l-smaller
loop-l-smaller c = let m = moved _ c.frame_at.ensures (c.in-Ok-Some.is ∙ ap Ok c.in-Ok-Some.field-0-is) in let x = m.seven in let y = m.on in let z = m.within in omega arith

pub loop-l-preserved : goal.loop-l-preserved
loop-l-preserved c = let m = moved _ c.frame_at.ensures (c.in-Ok-Some.is ∙ ap Ok c.in-Ok-Some.field-0-is) in let x = m.seven in let y = m.on in let z = m.within in let i = c.loop-l.invariant in let p = c.put_frame-p.ensures in (omega arith, omega arith, all_length p.is ∙ i.2, upto_next _ i.0 c.frame_at.ensures (c.in-Ok-Some.is ∙ ap Ok c.in-Ok-Some.field-0-is) c.event_of.ensures c.turn-d.ensures c.answer_of.ensures i.3 p)

pub returns-in-Ok-None : goal.returns-in-Ok-None
returns-in-Ok-None c = let i = c.loop-l.invariant in upto_end i.0 c.frame_at.ensures (c.in-Ok-None.is ∙ ap Ok c.in-Ok-None.field-0-is) i.3 c.put_end.ensures

pub returns-in-Err : goal.returns-in-Err
returns-in-Err c = let i = c.loop-l.invariant in upto_stop i.0 c.frame_at.ensures c.in-Err.is i.3 c.put_stop.ensures
