-- Written by tools/messages from its table of messages.
-- Each arm is the row of its number, written by its record's writer; the rest is a number that has no row.
use mathlib.Core.Path.{refl}
use Rattle.laying.proofs.WritingLaws.{written_nothing}
use Rattle.flat.specs.FlatLaws.{written_known}
use Rattle.flat_replies.proofs.write_flat.Goals as goal

pub returns-in-21 : goal.returns-in-21
returns-in-21 c = rw c.in-21.is (written_known refl (written_nothing c.begun.ensures))

pub returns-in-25 : goal.returns-in-25
returns-in-25 c =
    rw c.in-25.is (written_known {ns = c.args.values.now} c.rgetattr_of.ensures c.write_rgetattr.ensures)

pub returns-in-27 : goal.returns-in-27
returns-in-27 c = rw c.in-27.is (written_known refl (written_nothing c.begun-in-27.ensures))

pub returns-in-33 : goal.returns-in-33
returns-in-33 c = rw c.in-33.is (written_known refl (written_nothing c.begun-in-33.ensures))

pub returns-in-51 : goal.returns-in-51
returns-in-51 c = rw c.in-51.is (written_known refl (written_nothing c.begun-in-51.ensures))

pub returns-in-71 : goal.returns-in-71
returns-in-71 c = rw c.in-71.is (written_known refl (written_nothing c.begun-in-71.ensures))

pub returns-in-75 : goal.returns-in-75
returns-in-75 c = rw c.in-75.is (written_known refl (written_nothing c.begun-in-75.ensures))

pub returns-in-77 : goal.returns-in-77
returns-in-77 c = rw c.in-77.is (written_known refl (written_nothing c.begun-in-77.ensures))

pub returns-in-109 : goal.returns-in-109
returns-in-109 c = rw c.in-109.is (written_known refl (written_nothing c.begun-in-109.ensures))

pub returns-in-121 : goal.returns-in-121
returns-in-121 c = rw c.in-121.is (written_known refl (written_nothing c.begun-in-121.ensures))

pub returns-in-123 : goal.returns-in-123
returns-in-123 c = rw c.in-123.is (written_known refl (written_nothing c.begun-in-123.ensures))
