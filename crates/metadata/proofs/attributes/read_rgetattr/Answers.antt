-- Written by tools/messages from its table of messages.
-- Each field by what its reader ensures, one after another.
use Rattle.fields.proofs.FieldLaws.{number_field, field, qid_fields, done}
use Rattle.metadata.proofs.attributes.read_rgetattr.Goals as goal

pub returns : goal.returns
returns c =
    field (number_field c.read_u64-valid.ensures) (qid_fields c.read_qid-qid.ensures (field (number_field c.read_u32-mode.ensures) (field (number_field c.read_u32-uid.ensures) (field (number_field c.read_u32-gid.ensures) (field (number_field c.read_u64-nlink.ensures) (field (number_field c.read_u64-rdev.ensures) (field (number_field c.read_u64-size.ensures) (field (number_field c.read_u64-blksize.ensures) (field (number_field c.read_u64-blocks.ensures) (field (number_field c.read_u64-atime_sec.ensures) (field (number_field c.read_u64-atime_nsec.ensures) (field (number_field c.read_u64-mtime_sec.ensures) (field (number_field c.read_u64-mtime_nsec.ensures) (field (number_field c.read_u64-ctime_sec.ensures) (field (number_field c.read_u64-ctime_nsec.ensures) (field (number_field c.read_u64-btime_sec.ensures) (field (number_field c.read_u64-btime_nsec.ensures) (field (number_field c.read_u64-gen_.ensures) (field (number_field c.read_u64-data_version.ensures) done)))))))))))))))))))
