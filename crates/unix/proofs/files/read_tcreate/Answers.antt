-- Written by tools/messages from its table of messages.
-- Each field by what its reader ensures, one after another.
use Rattle.fields.proofs.FieldLaws.{number_field, string_field, field, done}
use Rattle.unix.proofs.files.read_tcreate.Goals as goal

pub returns : goal.returns
returns c =
    field (number_field c.read_u32-fid.ensures) (field (string_field c.read_str-name.ensures) (field (number_field c.read_u32-perm.ensures) (field (number_field c.read_u8-mode.ensures) (field (string_field c.read_str-extension.ensures) done))))
