-- Which path a place has (F15.4), and what alters none.
use Prim.Native.Nat.{ℕ, ◌+◌, ◌<◌, ◌≤◌}
use Rattle.std.specs.Prelude.{length, get_or}
use mathlib.Core.List.{List}
use Rattle.places.specs.declared.Places.{Places}

-- ---- bytes put after the stretch alter no path

-- every name lies within the stretch
abbrev pub Named : List ℕ → Places → Type 0
Named s p = (i : ℕ) → i < p.used → get_or p.starts i 0 + get_or p.lens i 0 ≤ length s
