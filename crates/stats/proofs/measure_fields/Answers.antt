-- Its numbers together, then each string.
use mathlib.Core.List.{[], ◌∷◌}
use Rattle.laying.proofs.LayingLaws.{measure_numbers, measure, measured_none}
use Rattle.stats.proofs.measure_fields.Goals as goal

pub returns : goal.returns
returns c =
    measure_numbers 2 (4 ∷ 1 ∷ 4 ∷ 8 ∷ 4 ∷ 4 ∷ 4 ∷ 8 ∷ []) c.advanced-numbers.ensures
    (measure c.measure_str-name.ensures (measure c.measure_str-uid.ensures (measure c.measure_str-gid.ensures (measure c.measure_str.ensures measured_none))))
