-- Seven numbers, one after another.
use native.Mathlib.Omega.{arith}
use Rattle.captures.proofs.PutLaws.{head_put}
use Rattle.captures.proofs.put_head.Goals as goal

pub returns : goal.returns
returns c = head_put (omega arith) c.put_u32-a.ensures c.put_u16-b.ensures c.put_u16-c.ensures c.put_u32-d.ensures c.put_u32-e.ensures c.put_u32-f.ensures c.put_u32.ensures
