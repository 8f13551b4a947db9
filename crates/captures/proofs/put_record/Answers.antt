-- Four numbers, and the frame.
use native.Mathlib.Omega.{arith}
use Rattle.captures.proofs.PutLaws.{record_put}
use Rattle.captures.proofs.put_record.Goals as goal

pub returns : goal.returns
returns c =
    let a = c.args in
    record_put a.stretch.now a.to _ _ a.frame.start a.frame.len (omega arith) (omega arith) c.put_u32-a.ensures c.put_u32-b.ensures c.put_num-c.ensures c.put_num-d.ensures c.put_bytes.ensures
