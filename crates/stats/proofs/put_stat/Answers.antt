-- Its count, its size, its fields.
use Rattle.stats.specs.StatLaws.{stat_put}
use Rattle.stats.proofs.put_stat.Goals as goal

pub returns : goal.returns
returns c = stat_put c.size_of-size.ensures c.put_num-count.ensures c.put_num-start.ensures c.put_fields.ensures
