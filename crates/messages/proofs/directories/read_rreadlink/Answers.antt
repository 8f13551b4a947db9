-- Written by tools/messages from its table of messages.
-- Each field by what its reader ensures, one after another.
use Rattle.fields.proofs.FieldLaws.{string_field, field, done}
use Rattle.messages.proofs.directories.read_rreadlink.Goals as goal

pub returns : goal.returns
returns c =
    field (string_field c.read_str-target.ensures) done
