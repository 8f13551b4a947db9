-- Written by tools/messages from its table of messages.
-- Each field by what its reader ensures, one after another.
use Rattle.fields.proofs.FieldLaws.{number_field, field, done}
use Rattle.metadata.proofs.attributes.read_rstatfs.Goals as goal

pub returns : goal.returns
returns c =
    field (number_field c.read_u32-ty.ensures) (field (number_field c.read_u32-bsize.ensures) (field (number_field c.read_u64-blocks.ensures) (field (number_field c.read_u64-bfree.ensures) (field (number_field c.read_u64-bavail.ensures) (field (number_field c.read_u64-files.ensures) (field (number_field c.read_u64-ffree.ensures) (field (number_field c.read_u64-fsid.ensures) (field (number_field c.read_u32-namelen.ensures) done))))))))
