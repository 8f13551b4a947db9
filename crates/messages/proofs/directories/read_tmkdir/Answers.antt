-- Written by tools/messages from its table of messages.
-- Each field by what its reader ensures, one after another.
use Rattle.fields.proofs.FieldLaws.{number_field, string_field, field, done}
use Rattle.messages.proofs.directories.read_tmkdir.Goals as goal

pub returns : goal.returns
returns c =
    field (number_field c.read_u32-dfid.ensures) (field (string_field c.read_str-name.ensures) (field (number_field c.read_u32-mode.ensures) (field (number_field c.read_u32-gid.ensures) done)))
