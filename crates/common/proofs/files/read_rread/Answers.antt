-- Written by tools/messages from its table of messages.
-- Each field by what its reader ensures, one after another.
use Rattle.fields.proofs.FieldLaws.{field, done}
use Rattle.common.proofs.files.read_rread.Goals as goal

pub returns : goal.returns
returns c =
    field c.read_data-data.ensures done
