use Rattle.std.proofs.Common.{arith, ◌∙◌}
use Rattle.numbers.proofs.Loops.{put_begins, put_turn, put_ends, part_length}
use Rattle.numbers.proofs.put_le.Goals as goal

pub loop-b-init : goal.loop-b-init
loop-b-init c =
    let a = c.args in put_begins _ a.width a.x (part_length a.out.now a.at a.width c.requires)

pub loop-b-preserved : goal.loop-b-preserved
loop-b-preserved c =
    let a = c.args in
    let l = c.loop-b in
    let p = part_length a.out.now a.at a.width c.requires in
    let t = c.loop-b-test.true in
    put_turn l.b-items a.width l.b-index l.v (omega (arith, p, t)) ∙ l.invariant

pub returns : goal.returns
returns c =
    let a = c.args in
    let l = c.loop-b in
    let p = part_length a.out.now a.at a.width c.requires in
    let t = c.loop-b-test.false in
    put_ends a.out.now l.b-items a.at a.width l.b-index l.v a.x (omega (arith, p, t)) c.requires l.invariant
