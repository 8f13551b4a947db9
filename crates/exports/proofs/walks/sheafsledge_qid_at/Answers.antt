-- What the element's function found, and that it lies within the lent bytes.
use native.Mathlib.Omega.{arith}
use Rattle.numbers.proofs.Numbers.{bytes_all}
use Rattle.exports.specs.Elements.{qid_lies}
use Rattle.exports.proofs.walks.sheafsledge_qid_at.Goals as goal

pub spanned-requires : goal.spanned-requires
spanned-requires c =
    let b = bytes_all c.args.lent.now (λ i. (c.type_inv.lent i).fits) in
    qid_lies _ _ _ _ _ b (omega arith) _ c.qid_at.ensures
