-- Each byte is tested with its range.
use Rattle.std.proofs.Common.{rules, arith, ◌∙◌}
use Rattle.std.proofs.lemmas.Iterator.{YieldsList-from_slice, YieldsList-from_zip}
use Rattle.std.proofs.lemmas.Iterator.Search.{all_from_yields_List}
use borrow.Author.Tests.{tests}
use Rattle.utf8.specs.Utf8.{in_range}
use Rattle.utf8.proofs.Rows.{range_of, tested_in_order}
use Rattle.utf8.proofs.begins.Goals as goal

pub returns-then-ranges-s : goal.returns-then-ranges-s
returns-then-ranges-s c =
    let a = c.args in
    let e =
    all_from_yields_List (λ p. in_range (range_of p.1) p.0) c.all.new.self _ c.all.result c.all.ensures.ran
    (YieldsList-from_zip (YieldsList-from_slice a.s.now cc) (YieldsList-from_slice a.ranges.now cc)) (λ x b q k. search (rules, tests)) in
    e ∙ tested_in_order a.s.now a.ranges.now (omega arith)
