use Rattle.std.proofs.Common.{arith}
use Rattle.tables.specs.TableLaws.{measured_to_next, measured_to_all}
use Rattle.tables.proofs.measure_names.Goals as goal

pub loop-start-preserved : goal.loop-start-preserved
loop-start-preserved c =
    let l = c.loop-start in
    let f = c.measure_str-at.ensures in
    measured_to_next c.loop-start-test.true l.invariant f

pub returns : goal.returns
returns c = let l = c.loop-start in let t = c.loop-start-test.false in measured_to_all (omega (arith, t, l.auto)) l.invariant
