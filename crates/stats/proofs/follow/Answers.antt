-- Its numbers together, then its four strings; and what the longer one has after them.
use Rattle.stats.specs.StatLaws.{stat_followed, unix_followed}
use Rattle.stats.proofs.follow.Goals as goal

pub returns-then-not-longer : goal.returns-then-not-longer
returns-then-not-longer c =
    rw c.if-not-longer.true (stat_followed c.skip-numbers.ensures c.pass-name.ensures c.pass-uid.ensures c.pass-gid.ensures c.pass-muid.ensures)

pub returns : goal.returns
returns c =
    rw c.if-not-longer.false
    (unix_followed (stat_followed c.skip-numbers.ensures c.pass-name.ensures c.pass-uid.ensures c.pass-gid.ensures c.pass-muid.ensures) c.pass-extension.ensures c.skip.ensures)
