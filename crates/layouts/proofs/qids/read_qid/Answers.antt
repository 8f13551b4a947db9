-- Each field by what its reader ensures, one after another.
use Rattle.fields.proofs.FieldLaws.{number_field, field, done}
use Rattle.layouts.proofs.qids.read_qid.Goals as goal

pub returns : goal.returns
returns c =
    field (number_field c.read_u8-r1.ensures) (field (number_field c.read_u32-r2.ensures) (field (number_field c.read_u64-r3.ensures) done))
