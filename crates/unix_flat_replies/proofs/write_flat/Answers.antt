-- Written by tools/messages from its table of messages.
-- Each arm is the row of its number, written by its record's writer; the rest has the row of the dialect below.
use Rattle.flat.specs.FlatLaws.{written_known}
use Rattle.unix_flat_replies.proofs.write_flat.Goals as goal

pub returns-in-125 : goal.returns-in-125
returns-in-125 c =
    rw c.in-125.is (written_known {ns = c.args.values.now} c.rstat_of.ensures c.write_rstat.ensures)
