-- Three numbers, then the names.
use Rattle.tables.specs.TableLaws.{walk_put}
use Rattle.tables.proofs.put_twalk.Goals as goal

pub returns : goal.returns
returns c =
    walk_put c.args.names.now c.put_u32-a.ensures c.put_u32-b.ensures c.put_u16-c.ensures c.put_names.ensures
