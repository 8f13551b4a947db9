-- Written by tools/messages from its table of messages.
-- Each field by what its reader ensures, one after another.
use Rattle.fields.proofs.FieldLaws.{number_field, field, done}
use Rattle.metadata.proofs.attributes.read_rxattrwalk.Goals as goal

pub returns : goal.returns
returns c =
    field (number_field c.read_u64-size.ensures) done
