-- Its body is written at 7, and the header put in front of it.
use Rattle.request_exports.specs.Two.{two_wrote}
use Rattle.request_exports.proofs.sheafsledge_write_two.Goals as goal

pub returns : goal.returns
returns c =
    two_wrote c.write_flat-end.ensures c.put_header.ensures c.ended.ensures
