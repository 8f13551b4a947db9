-- The places of a session: each is a root, or was reached from an older place by a name (F15.3, F15.4).
use Rattle.numbers.specs.Place.{Place}
use Rattle.std.specs.Prelude.{ℕ, zero, suc, ◌+◌, Bool, false, cond, List, [], ◌∷◌, ◌++◌, length, get_or, set, replicate, ltb, eqb, Result, Ok, Err}
use Rattle.numbers.specs.declared.Refusal.{Refusal}
use Rattle.numbers.specs.declared.Refusal.TheVariants as R
use Rattle.strings.specs.Spans.{bytes_in, show_span, str_start, str_len, past_str}
use Rattle.places.specs.declared.Places.{Places}
use Rattle.places.specs.declared.Reached.{Reached}

-- ---- a new place

abbrev pub unused : Places
unused = record { older = replicate 256 0; starts = replicate 256 0; lens = replicate 256 0; used = 0 }

-- the next row: the older place, and the span of the name
abbrev pub rowed : Places → ℕ → ℕ → ℕ → Places
rowed p o x y = record { older = set p.older p.used o; starts = set p.starts p.used x; lens = set p.lens p.used y; used = p.used + 1 }

-- a new place is the next row; 24 where all 256 are used
unfoldable pub added : Places → ℕ → ℕ → ℕ → Reached
added p o x y = cond (ltb p.used 256) (record { places = rowed p o x y; at = Ok p.used }) (record { places = p; at = Err R.TableFull })

-- a root's older place is itself
abbrev pub root : Places → Reached
root p = added p p.used 0 0

abbrev pub child : Places → ℕ → ℕ → ℕ → Reached
child p from x y = added p from x y

-- ---- a walk

-- the name that a span of the stretch shows
abbrev pub name_in : List ℕ → ℕ → ℕ → List ℕ
name_in s x y = bytes_in (show_span s x y)

-- it is ".."
abbrev pub is_up : List ℕ → Bool
is_up bs = cond (eqb (length bs) 2) (cond (eqb (get_or bs 0 0) 46) (eqb (get_or bs 1 0) 46) false) false

-- up is the older place, and makes none; else a child
unfoldable pub step : List ℕ → Places → ℕ → ℕ → ℕ → Reached
step s p from x y = cond (is_up (name_in s x y)) (record { places = p; at = Ok (get_or p.older from 0) }) (child p from x y)

-- one step more, by the string that was read; a refused walk stays refused
abbrev pub named : List ℕ → Places → ℕ → ℕ → ℕ → Place → Reached
named s p from x y (Ok q) = step s p from x y
named s p from x y (Err f) = record { places = p; at = Err f.0 }

abbrev pub stepped : List ℕ → ℕ → ℕ → Place → Reached → Result ℕ Refusal → Reached
stepped s x y q r (Ok from) = named s r.places from x y q
stepped s x y q r (Err k) = r

unfoldable pub onward : List ℕ → ℕ → ℕ → Place → Reached → Reached
onward s x y q r = stepped s x y q r r.at

-- by so many strings (F4.9), one after the other from a position on
unfoldable pub walked : List ℕ → ℕ → Place → Reached → Reached
walked s zero q r = r
walked s (suc n) q r = walked s n (past_str s q) (onward s (str_start s q) (str_len s q) (past_str s q) r)

-- ---- a path

-- that of the older place, a '/' and the name; a root's is empty. The place's number falls, so that so many steps as it says, and one, are enough
unfoldable pub path_within : ℕ → List ℕ → List ℕ → List ℕ → List ℕ → ℕ → List ℕ
path_within zero s os xs ys i = []
path_within (suc n) s os xs ys i = cond (ltb (get_or os i 0) i) (path_within n s os xs ys (get_or os i 0) ++ (47 ∷ name_in s (get_or xs i 0) (get_or ys i 0))) []

abbrev pub path_in : List ℕ → List ℕ → List ℕ → List ℕ → ℕ → List ℕ
path_in s os xs ys i = path_within (suc i) s os xs ys i

abbrev pub path : List ℕ → Places → ℕ → List ℕ
path s p i = path_in s p.older p.starts p.lens i
