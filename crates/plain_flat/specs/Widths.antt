-- How many values a direction of 9P2000 and of 9P2000.u needs.
use Rattle.std.specs.Prelude.{max, ◌≡◌, refl}
use Rattle.layouts.specs.Plain.{table_t, table_r}
use Rattle.stats.specs.Unix as U
use Rattle.flat.specs.Flat.{widest}

-- so many values hold any request and any reply of either, and no fewer would
pub older_enough : (max (widest table_t) (widest U.table_t) ≡ 23) × (max (widest table_r) (widest U.table_r) ≡ 22)
older_enough = (refl, refl)
