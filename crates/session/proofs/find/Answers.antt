-- The closure asks each row for the key.
use native.Mathlib.Omega.{arith}
use lib.Dec.{eqb}
use Rattle.std.proofs.Common.{rules, tests}
use Rattle.std.proofs.lemmas.Iterator.{YieldsList-from_slice}
use Rattle.std.proofs.lemmas.Iterator.Search.{position_from_yields_List}
use Rattle.session.proofs.Rows.{found}
use Rattle.session.proofs.find.Goals as goal

pub returns : goal.returns
returns c =
    let a = c.args in
    found a.key a.keys.now (omega arith)
    (position_from_yields_List (λ k. eqb k a.key) _ _ c.position.result c.position.ensures.ran (YieldsList-from_slice a.keys.now (cc)) (λ x b q k. search (rules, tests)))
