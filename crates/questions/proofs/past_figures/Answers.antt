use Rattle.std.proofs.Common.{◌+◌, ◌∙◌, ap, drop, rules}
use Rattle.std.proofs.lemmas.Iterator.{YieldsList-from_slice}
use Rattle.std.proofs.lemmas.Iterator.Search.{YieldsList-from_take_while}
use Rattle.std.proofs.lemmas.Iterator.Consumers.{count_from_yields_List}
use borrow.Author.Tests.{tests}
use Rattle.questions.specs.Questions.{is_figure}
use Rattle.questions.proofs.Loops.{run_is}
use Rattle.questions.proofs.past_figures.Goals as goal

pub returns : goal.returns
returns c =
    let figures = drop 1 c.args.line.now in
    let e =
    count_from_yields_List _ c.count.result c.count.ensures.ran
    (YieldsList-from_take_while _ is_figure (YieldsList-from_slice figures cc) c.take_while.ensures.closure c.take_while.ensures.done (λ x b q k. search (rules, tests))) in
    ap (λ n. 1 + n) (e ∙ run_is figures)
