-- Written by tools/messages from its table of messages.
-- Each arm is the row of its number, written by its record's writer; the rest has the row of the dialect below.
use Rattle.flat.specs.FlatLaws.{written_known}
use Rattle.unix_flat_requests.proofs.write_flat.Goals as goal

pub returns-in-126 : goal.returns-in-126
returns-in-126 c =
    rw c.in-126.is (written_known {ns = c.args.values.now} c.twstat_of.ensures c.write_twstat.ensures)
