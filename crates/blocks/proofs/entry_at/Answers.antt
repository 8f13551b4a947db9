-- The end; or what the reader of entries says in place.
use Rattle.numbers.proofs.Numbers.{bytes_all}
use Rattle.blocks.proofs.StepLaws.{asked_end, asked_entry, asked_stop}
use Rattle.blocks.proofs.entry_at.Goals as goal

pub returns-then-position-block : goal.returns-then-position-block
returns-then-position-block c = asked_end _ _ c.if-position-block.true

pub returns-in-Err : goal.returns-in-Err
returns-in-Err c =
    let b = bytes_all c.args.block.now (λ i. (c.type_inv.block i).fits) in
    asked_stop _ _ b c.if-position-block.false c.read_dirent-read.ensures c.in-Err.is

pub returns-in-Ok : goal.returns-in-Ok
returns-in-Ok c =
    let b = bytes_all c.args.block.now (λ i. (c.type_inv.block i).fits) in
    asked_entry _ _ b c.if-position-block.false c.read_dirent-read.ensures c.in-Ok.is
