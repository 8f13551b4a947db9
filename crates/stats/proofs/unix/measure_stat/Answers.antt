-- As a stat of 9P2000, and the fields after it; then its count.
use mathlib.Core.List.{[], ◌∷◌}
use mathlib.Core.Path.{refl}
use Rattle.laying.proofs.LayingLaws.{measure_numbers, measure, measured_none}
use Rattle.stats.specs.Appending.{measured_then}
use Rattle.stats.specs.StatLaws.{stat_measured}
use Rattle.stats.proofs.unix.measure_stat.Goals as goal

pub returns : goal.returns
returns c =
    stat_measured c.advanced-start.ensures
    (measured_then refl c.measure_fields-plain.ensures (measure c.measure_str-extension.ensures (measure_numbers 4 (4 ∷ 4 ∷ []) c.advanced-end.ensures measured_none)))
    c.size_of.ensures c.counted.ensures
