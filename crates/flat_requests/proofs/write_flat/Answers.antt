-- Written by tools/messages from its table of messages.
-- Each arm is the row of its number, written by its record's writer; the rest is a number that has no row.
use Rattle.flat.specs.FlatLaws.{written_known}
use Rattle.flat_requests.proofs.write_flat.Goals as goal

pub returns-in-26 : goal.returns-in-26
returns-in-26 c =
    rw c.in-26.is (written_known {ns = c.args.values.now} c.tsetattr_of.ensures c.write_tsetattr.ensures)
