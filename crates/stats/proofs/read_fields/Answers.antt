-- Each field by what its reader ensures, one after another.
use Rattle.fields.proofs.FieldLaws.{number_field, string_field, field, qid_fields, done}
use Rattle.stats.proofs.read_fields.Goals as goal

pub returns : goal.returns
returns c =
    field (number_field c.read_u16-ty.ensures) (field (number_field c.read_u32-dev.ensures) (qid_fields c.read_qid-qid.ensures (field (number_field c.read_u32-mode.ensures) (field (number_field c.read_u32-atime.ensures) (field (number_field c.read_u32-mtime.ensures) (field (number_field c.read_u64-length.ensures) (field (string_field c.read_str-name.ensures) (field (string_field c.read_str-uid.ensures) (field (string_field c.read_str-gid.ensures) (field (string_field c.read_str-muid.ensures) done))))))))))
