-- A walk whose names can be read is refused for want of a place alone.
use Rattle.numbers.specs.Place.{Place}
use Rattle.std.specs.Prelude.{ℕ, zero, suc, ◌≡◌, List, Result, Ok, Err}
use Rattle.numbers.specs.declared.Refusal.{Refusal}
use Rattle.numbers.specs.declared.Refusal.TheVariants as R
use Rattle.strings.specs.Spans.{past_str}

abbrev pub IsAt : Place → Type 0
IsAt (Ok e) = Unit {0}
IsAt (Err f) = ⊥

-- so many strings are read, one after the other
unfoldable pub NamesRead : List ℕ → ℕ → Place → Type 0
NamesRead s zero q = Unit {0}
NamesRead s (suc n) q = IsAt (past_str s q) × NamesRead s n (past_str s q)

abbrev pub OnlyFull : Result ℕ Refusal → Type 0
OnlyFull (Ok i) = Unit {0}
OnlyFull (Err k) = k ≡ R.TableFull
