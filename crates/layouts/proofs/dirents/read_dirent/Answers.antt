-- Each field by what its reader ensures, one after another.
use Rattle.fields.proofs.FieldLaws.{number_field, string_field, field, qid_fields, done}
use Rattle.layouts.proofs.dirents.read_dirent.Goals as goal

pub returns : goal.returns
returns c =
    qid_fields c.read_qid-r1.ensures (field (number_field c.read_u64-r2.ensures) (field (number_field c.read_u8-r3.ensures) (field (string_field c.read_str-r4.ensures) done)))
