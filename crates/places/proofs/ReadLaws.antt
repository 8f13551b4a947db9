-- What holds of the definitions in specs/Reads.antt.
use Rattle.numbers.specs.Place.{Place}
use Rattle.std.specs.Prelude.{ℕ, zero, suc, ◌≡◌, refl, Bool, true, false, cond, List, get_or, ltb, Result, Ok, Err}
use Rattle.numbers.specs.declared.Refusal.{Refusal}
use Rattle.numbers.specs.declared.Refusal.TheVariants as R
use Rattle.strings.specs.Spans.{str_start, str_len, past_str}
use Rattle.places.specs.declared.Places.{Places}
use Rattle.places.specs.declared.Reached.{Reached}
use Rattle.places.specs.Places.{rowed, added, child, name_in, is_up, step, stepped, onward, walked}
use Rattle.places.specs.Reads.{IsAt, NamesRead, OnlyFull}

pub added_only_full : (p : Places) (o x y : ℕ) → OnlyFull (added p o x y).at
unfolding added
added_only_full p o x y = go (ltb p.used 256)
  where
    go : (b : Bool) → OnlyFull (cond {A = Reached} b (record { places = rowed p o x y; at = Ok p.used }) (record { places = p; at = Err R.TableFull })).at
    go true = tt
    go false = refl

step_only_full : (s : List ℕ) (p : Places) (from x y : ℕ) → OnlyFull (step s p from x y).at
unfolding step
step_only_full s p from x y = go (is_up (name_in s x y))
  where
    go : (b : Bool) → OnlyFull (cond {A = Reached} b (record { places = p; at = Ok (get_or p.older from 0) }) (child p from x y)).at
    go true = tt
    go false = added_only_full p from x y

onward_only_full : (s : List ℕ) (x y : ℕ) (q : Place) (r : Reached) → IsAt q → OnlyFull r.at → OnlyFull (onward s x y q r).at
unfolding onward
onward_only_full s x y q r i f = go r.at refl q i
  where
    go : (t : Result ℕ Refusal) → r.at ≡ t → (q : Place) → IsAt q → OnlyFull (stepped s x y q r t).at
    go (Err k) e q i = f
    go (Ok from) e (Ok n) i = step_only_full s r.places from x y
    go (Ok from) e (Err f) i = absurd i

pub walked_only_full : (s : List ℕ) (n : ℕ) (q : Place) (r : Reached) → NamesRead s n q → OnlyFull r.at → OnlyFull (walked s n q r).at
unfolding walked NamesRead
walked_only_full s zero q r w f = f
walked_only_full s (suc n) q r w f = walked_only_full s n (past_str s q) (onward s (str_start s q) (str_len s q) (past_str s q) r) w.1 (onward_only_full s (str_start s q) (str_len s q) (past_str s q) r w.0 f)
