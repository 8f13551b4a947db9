-- Written by tools/messages from crates/frames/proofs/read_rframe/Answers.antt.
-- At 0, nothing is raised.
use mathlib.Core.Path.{ap, ◌∙◌}
use Rattle.framing.proofs.RaisedLaws.{single}
use Rattle.framing.specs.Frames.{refused_whole}
use Rattle.plain_frames.proofs.read_rframe.Goals as goal

pub returns : goal.returns
returns c = c.read_rframe_at.ensures ∙ ap refused_whole (single _ _)
