-- Written by tools/messages from crates/stretch_exports/proofs/sheafsledge_read_tbody/Answers.antt.
-- Read flat where the body begins, and told by the bytes used.
use mathlib.Core.Path.{ap, ◌∙◌}
use Rattle.exports.specs.Answers.{ended}
use Rattle.exports.specs.FrameReading.{body_read}
use Rattle.unix_exports.proofs.sheafsledge_unix_read_tbody.Goals as goal

pub returns : goal.returns
returns c =
    body_read _ _ _ _ c.body_at-body.ensures c.read_flat-end.ensures (c.ended.ensures ∙ ap ended c.used.ensures)
