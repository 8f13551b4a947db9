-- Written by tools/messages from its table of messages.
-- Each field by what its reader ensures, one after another.
use Rattle.fields.proofs.FieldLaws.{field, done}
use Rattle.common.proofs.walking.read_rwalk.Goals as goal

pub returns : goal.returns
returns c =
    field c.read_qids-wqids.ensures done
