-- Three numbers, one after another.
use Rattle.tables.specs.QidLaws.{qid_put}
use Rattle.tables.proofs.put_qid.Goals as goal

pub returns : goal.returns
returns c =
    let a = c.args in
    qid_put a.at a.i a.q c.requires c.put_u8-version.ensures c.put_u32-path.ensures c.put_u64.ensures
