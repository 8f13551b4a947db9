-- Too long, followed, or 19.
use Rattle.replaying.proofs.ReplayLaws.{text_long, text_followed}
use Rattle.replaying.proofs.put_replay.Goals as goal

pub returns-then-file-gt65536 : goal.returns-then-file-gt65536
returns-then-file-gt65536 c = text_long c.if-file-gt65536.true c.put_too_long.ensures

pub returns-then-sealed : goal.returns-then-sealed
returns-then-sealed c = text_followed c.if-file-gt65536.false c.sealed.ensures c.if-sealed.true c.saturating_sub-end.ensures c.put_header-p.ensures c.put_lines.ensures
