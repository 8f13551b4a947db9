-- Each field put, one after another.
use Rattle.fields.specs.Layouts.{str}
use Rattle.laying.proofs.LayingLaws.{put_number, put_counted, put_done}
use Rattle.blocks.proofs.put_dirent.Goals as goal

pub returns : goal.returns
returns c =
    put_number c.put_u8-q1.ensures (put_number c.put_u32-q2.ensures (put_number c.put_u64-q3.ensures (put_number c.put_u64-q4.ensures (put_number c.put_u8-q5.ensures (put_counted str tt c.put_num-q6.ensures c.put_bytes.ensures put_done)))))
