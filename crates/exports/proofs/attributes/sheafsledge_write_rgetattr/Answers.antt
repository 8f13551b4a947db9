-- Its record is made of the values and written at 7, and the header put in front of it.
use mathlib.Core.Path.{refl}
use Rattle.layouts.specs.Tables.{table_r}
use Rattle.flat.specs.FlatLaws.{written_known}
use Rattle.exports.specs.FrameWriting.{frame_wrote}
use Rattle.exports.proofs.attributes.sheafsledge_write_rgetattr.Goals as goal

pub returns : goal.returns
returns c =
    frame_wrote {rows = table_r} refl (written_known {ns = c.args.values.now} c.rgetattr_of-attr.ensures c.write_rgetattr-end.ensures) c.put_header.ensures c.ended.ensures
