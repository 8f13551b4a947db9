-- Its fields as those of any layout, then its count.
use Rattle.stats.specs.StatLaws.{stat_measured}
use Rattle.stats.proofs.measure_stat.Goals as goal

pub returns : goal.returns
returns c = stat_measured c.advanced-start.ensures c.measure_fields-end.ensures c.size_of.ensures c.counted.ensures
