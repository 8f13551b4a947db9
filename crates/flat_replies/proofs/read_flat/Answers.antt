-- Written by tools/messages from its table of messages.
-- Each arm is the row of its number, read flat; the rest is a number that has no row.
use Rattle.flat.specs.FlatLaws.{flat_empty}
use Rattle.flat_replies.proofs.read_flat.Goals as goal

pub returns-in-21 : goal.returns-in-21
returns-in-21 c = rw c.in-21.is (flat_empty _)

pub returns-in-27 : goal.returns-in-27
returns-in-27 c = rw c.in-27.is (flat_empty _)

pub returns-in-33 : goal.returns-in-33
returns-in-33 c = rw c.in-33.is (flat_empty _)

pub returns-in-51 : goal.returns-in-51
returns-in-51 c = rw c.in-51.is (flat_empty _)

pub returns-in-71 : goal.returns-in-71
returns-in-71 c = rw c.in-71.is (flat_empty _)

pub returns-in-75 : goal.returns-in-75
returns-in-75 c = rw c.in-75.is (flat_empty _)

pub returns-in-77 : goal.returns-in-77
returns-in-77 c = rw c.in-77.is (flat_empty _)

pub returns-in-109 : goal.returns-in-109
returns-in-109 c = rw c.in-109.is (flat_empty _)

pub returns-in-121 : goal.returns-in-121
returns-in-121 c = rw c.in-121.is (flat_empty _)

pub returns-in-123 : goal.returns-in-123
returns-in-123 c = rw c.in-123.is (flat_empty _)
