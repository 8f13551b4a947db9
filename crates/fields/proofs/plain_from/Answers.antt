-- Eight bytes, the last eight, or one of a shorter text; or none.
use native.Mathlib.Omega.{arith}
use Rattle.fields.proofs.Names.{eight_plain, some_run}
use Rattle.fields.proofs.plain_from.Goals as goal

pub returns-then-eight_plain : goal.returns-then-eight_plain
returns-then-eight_plain c = some_run (eight_plain c.eight_plain.ensures c.if-eight_plain.true) (omega arith) (omega arith) (omega arith)

pub returns-then-eight_plain-2 : goal.returns-then-eight_plain-2
returns-then-eight_plain-2 c = some_run (eight_plain c.eight_plain-2.ensures c.if-eight_plain-2.true) (omega arith) (omega arith) (omega arith)
