-- Written by tools/messages from its table of messages.
-- Each field by what its reader ensures, one after another.
use Rattle.fields.proofs.FieldLaws.{number_field, string_field, field, done}
use Rattle.metadata.proofs.locks.read_tlock.Goals as goal

pub returns : goal.returns
returns c =
    field (number_field c.read_u32-fid.ensures) (field (number_field c.read_u8-type_.ensures) (field (number_field c.read_u32-flags.ensures) (field (number_field c.read_u64-start.ensures) (field (number_field c.read_u64-length.ensures) (field (number_field c.read_u32-proc_id.ensures) (field (string_field c.read_str-client_id.ensures) done))))))
