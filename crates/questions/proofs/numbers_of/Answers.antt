use Rattle.questions.proofs.Loops.{numbers_turn, numbers_over}
use Rattle.questions.proofs.numbers_of.Goals as goal

pub loop-c-preserved : goal.loop-c-preserved
loop-c-preserved c =
    let l = c.loop-c in
    (c.next_at-at.ensures.1, numbers_turn c.args.figures.now l.numbers l.c-index l.at _ _ c.loop-c-test.true c.next_at-at.ensures.0 c.more.ensures l.invariant.1)

pub returns : goal.returns
returns c = let l = c.loop-c in numbers_over c.args.figures.now l.numbers l.c-index l.at c.loop-c-test.false l.invariant.1
