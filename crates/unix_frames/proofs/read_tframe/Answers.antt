-- Written by tools/messages from crates/frames/proofs/read_tframe/Answers.antt.
-- At 0, nothing is raised.
use mathlib.Core.Path.{◌∙◌}
use Rattle.framing.proofs.RaisedLaws.{single}
use Rattle.unix_frames.proofs.read_tframe.Goals as goal

pub returns : goal.returns
returns c = c.read_tframe_at.ensures ∙ single _ _
