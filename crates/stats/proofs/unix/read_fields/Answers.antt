-- The fields of 9P2000's stat, then those after them.
use Rattle.fields.proofs.FieldLaws.{number_field, string_field, field, done}
use Rattle.stats.specs.Appending.{fields_then}
use Rattle.stats.proofs.unix.read_fields.Goals as goal

pub returns : goal.returns
returns c =
    fields_then c.read_fields-plain.ensures (field (string_field c.read_str-extension.ensures) (field (number_field c.read_u32-n_uid.ensures) (field (number_field c.read_u32-n_gid.ensures) (field (number_field c.read_u32-n_muid.ensures) done))))
