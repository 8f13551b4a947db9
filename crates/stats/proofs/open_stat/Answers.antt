-- The count is cut off; or its bytes are; or they do not agree; or the fields are between their size and their end.
use native.Mathlib.Omega.{arith}
use Rattle.numbers.proofs.PlaceLaws.{inside, num_holds}
use Rattle.stats.specs.StatLaws.{open_cut, open_short, open_wrong, open_well}
use Rattle.stats.proofs.open_stat.Goals as goal

pub returns-in_default : goal.returns-in_default
returns-in_default c = open_cut c.read_u16-count.ensures c.in_default.is

pub returns-then-not-within : goal.returns-then-not-within
returns-then-not-within c =
    open_short _ (num_holds (omega arith) c.read_u16-count.ensures c.in-Ok.is) c.within.ensures c.if-not-within.true

pub returns-then-not-agree : goal.returns-then-not-agree
returns-then-not-agree c =
    open_wrong _ (num_holds (omega arith) c.read_u16-count.ensures c.in-Ok.is) (inside c.within.ensures c.if-not-within.false) c.agree.ensures c.if-not-agree.true

pub returns : goal.returns
returns c =
    open_well _ (num_holds (omega arith) c.read_u16-count.ensures c.in-Ok.is) (inside c.within.ensures c.if-not-within.false) c.agree.ensures c.if-not-agree.false
