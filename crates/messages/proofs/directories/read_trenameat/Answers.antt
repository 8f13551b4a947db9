-- Written by tools/messages from its table of messages.
-- Each field by what its reader ensures, one after another.
use Rattle.fields.proofs.FieldLaws.{number_field, string_field, field, done}
use Rattle.messages.proofs.directories.read_trenameat.Goals as goal

pub returns : goal.returns
returns c =
    field (number_field c.read_u32-olddirfid.ensures) (field (string_field c.read_str-oldname.ensures) (field (number_field c.read_u32-newdirfid.ensures) (field (string_field c.read_str-newname.ensures) done)))
