-- Over any layout: reading what was written gives the items back, whatever stands after; fields cut anywhere are short; writing what was read gives those bytes.
use Rattle.std.specs.Prelude.{ℕ, ◌-◌, ◌≤◌, ◌≡◌, true, List, length, take, drop}
use Rattle.numbers.specs.Numbers.{from_le}
use Rattle.fields.specs.Layouts.{Shape, follow, at_end}

-- what agrees, and is read, is written so
pub record Agreed (fs : List Shape) (bs : List ℕ) : Type 0 where
  pub two : 2 ≤ length bs
  pub size : from_le (take 2 bs) ≡ length bs - 2
  pub ends : at_end (follow fs (drop 2 bs)) ≡ true
