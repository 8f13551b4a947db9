-- Written by tools/messages from its table of messages.
-- Each field by what its reader ensures, one after another.
use Rattle.fields.proofs.FieldLaws.{number_field, string_field, field, done}
use Rattle.unix.proofs.sessions.read_rerror.Goals as goal

pub returns : goal.returns
returns c =
    field (string_field c.read_str-ename.ensures) (field (number_field c.read_u32-errno.ensures) done)
