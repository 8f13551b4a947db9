-- Put where there is room, which there is.
use Rattle.numbers.proofs.Numbers.{bytes_all}
use Rattle.numbers.proofs.PlaceLaws.{outside}
use Rattle.blocks.proofs.PackLaws.{put_row, no_entry}
use Rattle.blocks.proofs.put_entry.Goals as goal

pub returns-then-within : goal.returns-then-within
returns-then-within c =
    let b = bytes_all c.args.names.now (λ i. (c.type_inv.names i).fits) in
    put_row b c.requires c.dirent_of.ensures c.put_dirent.ensures

pub returns-else-within : goal.returns-else-within
returns-else-within c = no_entry c.requires (outside c.within.ensures c.if-within.false)
