-- The count, then all of the slice.
use Rattle.fields.specs.Layouts.{str}
use Rattle.laying.proofs.LayingLaws.{put_counted, put_done}
use Rattle.apart.proofs.put.Goals as goal

pub returns : goal.returns
returns c =
    put_counted str tt c.put_num-q.ensures c.put_bytes.ensures put_done
