-- Written by tools/messages from its table of messages.
-- Each field by what its reader ensures, one after another.
use Rattle.fields.proofs.FieldLaws.{number_field, field, done}
use Rattle.metadata.proofs.attributes.read_tsetattr.Goals as goal

pub returns : goal.returns
returns c =
    field (number_field c.read_u32-fid.ensures) (field (number_field c.read_u32-valid.ensures) (field (number_field c.read_u32-mode.ensures) (field (number_field c.read_u32-uid.ensures) (field (number_field c.read_u32-gid.ensures) (field (number_field c.read_u64-size.ensures) (field (number_field c.read_u64-atime_sec.ensures) (field (number_field c.read_u64-atime_nsec.ensures) (field (number_field c.read_u64-mtime_sec.ensures) (field (number_field c.read_u64-mtime_nsec.ensures) done)))))))))
