-- Two blocks of eight, or all of the blocks.
use Rattle.std.proofs.Common.{arith}
use Rattle.strings.proofs.Ways.{copy_eights}
use Rattle.strings.proofs.copy.Goals as goal

pub returns-then-len-le16 : goal.returns-then-len-le16
returns-then-len-le16 c =
    let a = c.args in
    copy_eights a.out.now a.lent.now a.at a.start a.len (omega arith) (omega arith) (omega arith) (omega arith) c.copy_block.ensures c.copy_block-then-len-le16.ensures
