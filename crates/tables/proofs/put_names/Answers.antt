use Rattle.std.proofs.Common.{arith}
use Rattle.tables.specs.TableLaws.{put_to_next, put_to_all}
use Rattle.tables.proofs.put_names.Goals as goal

pub loop-start-preserved : goal.loop-start-preserved
loop-start-preserved c =
    let l = c.loop-start in put_to_next c.loop-start-test.true l.invariant c.put_num-text.ensures c.put_bytes-at.ensures

pub returns : goal.returns
returns c = let l = c.loop-start in let t = c.loop-start-test.false in put_to_all (omega (arith, t, l.auto)) l.invariant
