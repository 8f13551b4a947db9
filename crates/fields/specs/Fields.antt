-- Fields at places: what the readers' contracts cite.
use Rattle.numbers.specs.Place.{Place}
use Rattle.std.specs.Prelude.{ℕ, ◌≡◌, List, [], ◌∷◌, map, length, drop, Ok, Err}
use Rattle.numbers.specs.Reading.{Reading, ok, bad}
use Rattle.numbers.specs.Places.{read_from, rest_at, num_at, past_num}
use Rattle.strings.specs.Spans.{check_at}
use Rattle.fields.specs.Layouts.{Shape, fixed, worded, Field, num, str, dat, strs, quids, boxed, Layout, Item, ok_count, read_many, read_field}
use Rattle.fields.specs.Values.{Slot, slot, text, Value, val, span, part, block, place}

abbrev pub no_slot : Shape → Slot
no_slot (fixed w) = slot 0
no_slot worded = text 0 0

-- the value of a field that was refused
abbrev pub nothing : Field → Value
nothing (num w) = val 0
nothing str = span 0 0
nothing dat = span 0 0
nothing strs = part 0 0 0
nothing quids = part 0 0 0
nothing (boxed fs) = block (map no_slot fs)

-- the value of what was read at a place
abbrev pub placed_in : Field → Place → Reading Item → Value
placed_in f (Ok a) (ok i r) = place a i
placed_in f (Ok a) (bad k at) = nothing f
placed_in f (Err e) m = nothing f

unfoldable pub value_at : Field → List ℕ → Place → Value
value_at f s p = placed_in f p (read_from (read_field f) s p)

unfoldable pub past_field : Field → List ℕ → Place → Place
past_field f s p = rest_at (length s) (read_from (read_field f) s p)

-- what a field's reader answers at p of s: the value, and the place after it
pub record FieldRead (f : Field) (s : List ℕ) (p : Place) (v : Value) (e : Place) : Type 0 where
  pub value : v ≡ value_at f s p
  pub next : e ≡ past_field f s p

-- what the check of a vector's count answers at p
pub record CountCheck (n : ℕ) (p q : Place) : Type 0 where
  pub is : q ≡ check_at (ok_count n) p

-- what the reader of a vector's count answers at p of s: the count, and the place after it, checked
pub record CountRead (s : List ℕ) (p : Place) (n : ℕ) (e : Place) : Type 0 where
  pub value : n ≡ num_at 2 s p
  pub next : e ≡ check_at (ok_count n) (past_num 2 s p)

-- so many strings from a position on: the place after them
pub record ManyRead (n : ℕ) (s : List ℕ) (a : ℕ) (e : Place) : Type 0 where
  pub next : e ≡ rest_at (length s) (read_many n a (drop a s))

-- the part of a vector that was refused, and the place that says why
pub record Nowhere (v : Value) (e k : Place) : Type 0 where
  pub value : v ≡ part 0 0 0
  pub next : e ≡ k

-- field after field; once one is refused, so are all after it
unfoldable pub values_at : Layout → List ℕ → Place → List Value
values_at [] s p = []
values_at (f ∷ fs) s p = value_at f s p ∷ values_at fs s (past_field f s p)

unfoldable pub past_fields : Layout → List ℕ → Place → Place
past_fields [] s p = p
past_fields (f ∷ fs) s p = past_fields fs s (past_field f s p)

-- what a reader of a layout answers: the values of its fields, and the place after them
pub record Fields (fs : Layout) (s : List ℕ) (p : Place) (vs : List Value) (e : Place) : Type 0 where
  pub values : vs ≡ values_at fs s p
  pub next : e ≡ past_fields fs s p
