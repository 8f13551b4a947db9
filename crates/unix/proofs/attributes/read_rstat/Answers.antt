-- Written by tools/messages from its table of messages.
-- Each field by what its reader ensures, one after another.
use Rattle.fields.proofs.FieldLaws.{field, done}
use Rattle.unix.proofs.attributes.read_rstat.Goals as goal

pub returns : goal.returns
returns c =
    field c.read_stat-stat.ensures done
