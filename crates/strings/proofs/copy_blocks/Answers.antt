use Rattle.std.proofs.Common.{arith}
use Rattle.strings.proofs.Ways.{next_block, copy_more}
use Rattle.strings.proofs.copy_blocks.Goals as goal

pub loop-done-preserved : goal.loop-done-preserved
loop-done-preserved c =
    let l = c.loop-done in
    let a = c.args in
    let n = next_block c.min-n.ensures (omega arith) in (
      omega arith,
      omega arith,
      copy_more a.out.now a.lent.now a.at a.start a.len l.done c.min-n.result (omega arith) (omega arith) (omega arith) l.invariant.2 c.copy_block.ensures,
    )
