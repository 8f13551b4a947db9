use native.Mathlib.Omega.{arith}
use mathlib.Core.Path.{◌∙◌}
use Rattle.framing.proofs.CutLaws.{cut_whole}
use Rattle.sealing.specs.TrailerLaws.{extent_start, extent_on, extent_end, extent_stop}
use Rattle.sealing.proofs.measure.Goals as goal

pub loop-cut-init : goal.loop-cut-init
loop-cut-init c = (omega arith, omega arith, extent_start _)

pub loop-cut-smaller : goal.loop-cut-smaller
loop-cut-smaller c =
    let w = cut_whole _ _ c.cut_at.ensures (rw c.in-Ok-Some.field-0-is at c.in-Ok-Some.is) in
    let x = w.seven in
    let y = w.held in
    omega arith

pub loop-cut-preserved : goal.loop-cut-preserved
loop-cut-preserved c =
    let l = c.loop-cut in
    let e = rw c.in-Ok-Some.field-0-is at c.in-Ok-Some.is in
    let w = cut_whole _ _ c.cut_at.ensures e in
    let x = w.seven in
    let y = w.held in
    (omega arith, omega arith, extent_on _ l.invariant.0 c.cut_at.ensures l.frames l.last e ∙ l.invariant.2)

pub returns-in-Ok-None : goal.returns-in-Ok-None
returns-in-Ok-None c =
    let l = c.loop-cut in
    extent_end _ l.invariant.0 c.cut_at.ensures l.frames l.last (rw c.in-Ok-None.field-0-is at c.in-Ok-None.is) ∙ l.invariant.2

pub returns-in-Err : goal.returns-in-Err
returns-in-Err c = let l = c.loop-cut in extent_stop _ l.invariant.0 c.cut_at.ensures l.frames l.last c.in-Err.is ∙ l.invariant.2
