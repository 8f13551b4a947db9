-- The second of two strings: measured alone it is refused or not as where the two slices are one, and a place in its text is as far on as the
-- first is long.
use Rattle.numbers.specs.Place.{Place}
use Rattle.std.specs.Prelude.{ℕ, ◌≤◌, List, length, Ok, Err}

-- ---- what is known of the first where the second is measured

-- it is no longer than a string may be, unless it was refused
abbrev pub Passed : List ℕ → Place → Type 0
Passed s (Ok a) = length s ≤ 65535
Passed s (Err f) = Unit {0}
