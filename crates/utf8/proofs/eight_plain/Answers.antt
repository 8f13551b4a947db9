-- The bytes are there, and the fold over them is that of the definition.
use Rattle.std.proofs.Common.{◌+◌, ◌-◌, ◌&&◌, ◌≤◌, ◌∙◌, length, take, drop, rules, arith}
use Rattle.std.proofs.lemmas.Bool.Decides.{nat_tests}
use Rattle.std.proofs.lemmas.Iterator.{YieldsList-from_slice}
use Rattle.std.proofs.lemmas.Iterator.Consumers.{fold_from_yields_List}
use borrow.Author.Tests.{tests}
use Rattle.utf8.specs.Utf8.{◌to◌, in_range}
use Rattle.utf8.proofs.Plain.{plain_folded}
use Rattle.utf8.proofs.eight_plain.Goals as goal

pub returns-then-i-s : goal.returns-then-i-s
returns-then-i-s c =
    let a = c.args in
    let e =
    fold_from_yields_List _ (λ t b. t && in_range (1 to 127) b) _ c.fold.result c.fold.ensures.ran
    (YieldsList-from_slice (take (a.i + 8 - a.i) (drop a.i a.s.now)) cc) (λ t x u q k. search (rules, tests)) in
    let h : a.i + 8 ≤ length a.s.now = grind (arith, nat_tests) in
    e ∙ plain_folded a.s.now a.i 8 h
