use Rattle.std.proofs.Common.{◌==◌, rules, ap, ◌∙◌, unwrap_or, length}
use Rattle.std.proofs.lemmas.Iterator.{YieldsList-from_slice}
use Rattle.std.proofs.lemmas.Iterator.Search.{position_from_yields_List}
use borrow.Author.Tests.{tests}
use Rattle.utf8.proofs.StartLaws.{zero_at_is}
use Rattle.utf8.proofs.zero_at.Goals as goal

pub returns : goal.returns
returns c =
    let s = c.args.s.now in
    let e = position_from_yields_List (λ b. b == 0) _ _ c.position.result c.position.ensures.ran (YieldsList-from_slice s cc) (λ x b q k. search (rules, tests)) in
    c.unwrap_or.ensures ∙ ap (λ p. unwrap_or p (length s)) e ∙ zero_at_is s
