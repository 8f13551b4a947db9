-- Written by tools/messages from its table of messages.
-- Each field by what its reader ensures, one after another.
use Rattle.fields.proofs.FieldLaws.{number_field, field, qid_fields, done}
use Rattle.plain.proofs.files.read_ropen.Goals as goal

pub returns : goal.returns
returns c =
    qid_fields c.read_qid-qid.ensures (field (number_field c.read_u32-iounit.ensures) done)
