-- Written by tools/messages from its table of messages.
-- Each arm is the row of its number, read flat; the rest is a number that has no row.
use Rattle.flat.specs.FlatLaws.{flat_empty}
use Rattle.plain_flat_replies.proofs.read_flat.Goals as goal

pub returns-in-109 : goal.returns-in-109
returns-in-109 c = rw c.in-109.is (flat_empty _)

pub returns-in-121 : goal.returns-in-121
returns-in-121 c = rw c.in-121.is (flat_empty _)

pub returns-in-123 : goal.returns-in-123
returns-in-123 c = rw c.in-123.is (flat_empty _)

pub returns-in-127 : goal.returns-in-127
returns-in-127 c = rw c.in-127.is (flat_empty _)
