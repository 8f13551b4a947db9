-- An entry read in place, or refused, is what the definition finds there.
use Rattle.numbers.specs.Place.{Place}
use Rattle.std.specs.Prelude.{ℕ, Ok, Err}
use mathlib.Core.List.{List}
use Rattle.fields.specs.Values.{Value}
use Rattle.blocks.specs.Blocks.{Found, entry, stop}

-- the answer of a reader of entries, by the place after it
abbrev pub found_at : ℕ → List Value → Place → Found
found_at p vs (Ok e) = entry p vs e
found_at p vs (Err f) = stop f.0 f.1 p
