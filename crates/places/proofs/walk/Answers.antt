use native.Mathlib.Omega.{arith}
use mathlib.Core.Path.{◌∙◌}
use Rattle.places.proofs.PlaceLaws.{walk_turn, walk_end}
use Rattle.places.proofs.walk.Goals as goal

pub loop-preserved : goal.loop-preserved
loop-preserved c =
    let a = c.args in
    let l = c.loop in
    walk_turn a.stretch.now a.count l.counter l.place l.r c.loop-test.true c.read_str-name.ensures c.onward-r.ensures ∙ l.invariant

pub returns : goal.returns
returns c = let a = c.args in let l = c.loop in walk_end a.stretch.now a.count l.counter l.place l.r (omega arith) ∙ l.invariant
