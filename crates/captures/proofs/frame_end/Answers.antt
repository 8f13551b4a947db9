-- A whole frame, the end, a refusal.
use Rattle.captures.proofs.StretchLaws.{end_whole, end_end, end_stop}
use Rattle.captures.proofs.frame_end.Goals as goal

pub returns-in-Ok-Some : goal.returns-in-Ok-Some
returns-in-Ok-Some c = end_whole _ _ c.cut_at.ensures (rw c.in-Ok-Some.field-0-is at c.in-Ok-Some.is)

pub returns-in-Ok-None : goal.returns-in-Ok-None
returns-in-Ok-None c = end_end _ _ c.cut_at.ensures (rw c.in-Ok-None.field-0-is at c.in-Ok-None.is)

pub returns-in-Err : goal.returns-in-Err
returns-in-Err c = end_stop _ _ c.cut_at.ensures c.in-Err.is
