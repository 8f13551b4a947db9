-- Written by tools/messages from its table of messages.
-- Each arm is the row of its number, written by its record's writer; the rest is a number that has no row.
use mathlib.Core.Path.{refl}
use Rattle.laying.proofs.WritingLaws.{written_nothing}
use Rattle.flat.specs.FlatLaws.{written_known}
use Rattle.plain_flat_replies.proofs.write_flat.Goals as goal

pub returns-in-109 : goal.returns-in-109
returns-in-109 c = rw c.in-109.is (written_known refl (written_nothing c.begun.ensures))

pub returns-in-121 : goal.returns-in-121
returns-in-121 c = rw c.in-121.is (written_known refl (written_nothing c.begun-in-121.ensures))

pub returns-in-123 : goal.returns-in-123
returns-in-123 c = rw c.in-123.is (written_known refl (written_nothing c.begun-in-123.ensures))

pub returns-in-125 : goal.returns-in-125
returns-in-125 c =
    rw c.in-125.is (written_known {ns = c.args.values.now} c.rstat_of.ensures c.write_rstat.ensures)

pub returns-in-127 : goal.returns-in-127
returns-in-127 c = rw c.in-127.is (written_known refl (written_nothing c.begun-in-127.ensures))
