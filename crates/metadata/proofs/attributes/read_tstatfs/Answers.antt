-- Written by tools/messages from its table of messages.
-- Each field by what its reader ensures, one after another.
use Rattle.fields.proofs.FieldLaws.{number_field, field, done}
use Rattle.metadata.proofs.attributes.read_tstatfs.Goals as goal

pub returns : goal.returns
returns c =
    field (number_field c.read_u32-fid.ensures) done
