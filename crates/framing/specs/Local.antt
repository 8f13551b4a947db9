-- No byte after the frame's own changes its answer (F4.1).
use Rattle.std.specs.Prelude.{ℕ, List, take}
use Rattle.numbers.specs.Numbers.{from_le}

-- the size that the first four bytes hold
abbrev pub size_in : List ℕ → ℕ
size_in s = from_le (take 4 s)
