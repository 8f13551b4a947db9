-- A record's values one after the other, and a layout's values taken from such a run of numbers.
use Rattle.numbers.specs.Place.{Place}
use Rattle.std.specs.Prelude.{ℕ, suc, ◌+◌, ◌^◌, ◌%◌, max, ◌≡◌, cond, List, [], ◌∷◌, ◌++◌, length, get_or, set, leb, ltb, Ok, Err}
use Rattle.std.proofs.Math.Option.{Option, none, some}
use Rattle.fields.specs.Layouts.{Shape, fixed, worded, num, str, dat, strs, quids, boxed, Layout, Item}
use Rattle.fields.specs.Values.{Slot, slot, text, Value, val, span, part, block, shows}
use Rattle.fields.specs.Fields.{values_at, past_fields}
use Rattle.laying.specs.Laying.{written_out, written_past}
use Rattle.layouts.specs.Tables.{Row, row}
use Rattle.numbers.specs.Reading.{Reading, bad}
use Rattle.numbers.specs.declared.Refusal.TheVariants as R

-- ---- out of the values

abbrev pub slot_numbers : List Slot → List ℕ
slot_numbers [] = []
slot_numbers (slot n ∷ l) = n ∷ slot_numbers l
slot_numbers (text x y ∷ l) = x ∷ y ∷ slot_numbers l

abbrev pub numbers_of : Value → List ℕ
numbers_of (val n) = n ∷ []
numbers_of (span x y) = x ∷ y ∷ []
numbers_of (part c x y) = c ∷ x ∷ y ∷ []
numbers_of (block l) = slot_numbers l

abbrev pub flat_values : List Value → List ℕ
flat_values [] = []
flat_values (v ∷ vs) = numbers_of v ++ flat_values vs

-- numbers over the lent ones, from the i-th on
abbrev pub stored : List ℕ → ℕ → List ℕ → List ℕ
stored ns i [] = ns
stored ns i (x ∷ xs) = stored (set ns i x) (suc i) xs

-- what the lent numbers are once values were read: at the front those of the values, after them as they were; refused, all are as they were
abbrev pub laid : Place → List Value → List ℕ → List ℕ
laid (Ok e) vs ns = stored ns 0 (flat_values vs)
laid (Err f) vs ns = ns

-- ---- and back

-- the lowest w bytes of a number of eight
abbrev pub low : ℕ → ℕ → ℕ
low w n = cond (ltb w 8) (n % 256 ^ w) n

-- how many numbers the fields of a box have
abbrev pub shape_numbers : List Shape → ℕ
shape_numbers [] = 0
shape_numbers (fixed w ∷ fs) = 1 + shape_numbers fs
shape_numbers (worded ∷ fs) = 2 + shape_numbers fs

abbrev pub slots_from : ℕ → List Shape → List ℕ → List Slot
slots_from i [] ns = []
slots_from i (fixed w ∷ fs) ns = slot (low w (get_or ns i 0)) ∷ slots_from (i + 1) fs ns
slots_from i (worded ∷ fs) ns = text (get_or ns i 0) (get_or ns (i + 1) 0) ∷ slots_from (i + 2) fs ns

-- the values of a layout, of the numbers from the i-th on
abbrev pub values_from : ℕ → Layout → List ℕ → List Value
values_from i [] ns = []
values_from i (num w ∷ fs) ns = val (low w (get_or ns i 0)) ∷ values_from (i + 1) fs ns
values_from i (str ∷ fs) ns = span (get_or ns i 0) (get_or ns (i + 1) 0) ∷ values_from (i + 2) fs ns
values_from i (dat ∷ fs) ns = span (get_or ns i 0) (get_or ns (i + 1) 0) ∷ values_from (i + 2) fs ns
values_from i (strs ∷ fs) ns = part (low 2 (get_or ns i 0)) (get_or ns (i + 1) 0) (get_or ns (i + 2) 0) ∷ values_from (i + 3) fs ns
values_from i (quids ∷ fs) ns = part (low 2 (get_or ns i 0)) (get_or ns (i + 1) 0) (get_or ns (i + 2) 0) ∷ values_from (i + 3) fs ns
values_from i (boxed b ∷ fs) ns = block (slots_from i b ns) ∷ values_from (i + shape_numbers b) fs ns

abbrev pub field_values : Layout → List ℕ → List Value
field_values l ns = values_from 0 l ns

-- ---- a body read flat, by the layout of the type's row: 3 where it has none

abbrev pub row_values : Option Layout → List ℕ → Place → List Value
row_values none s p = []
row_values (some l) s p = values_at l s p

abbrev pub row_past : Option Layout → List ℕ → Place → Place
row_past none s p = Err (R.UnknownType, 0)
row_past (some l) s p = past_fields l s p

pub record FlatRead (l : Option Layout) (s : List ℕ) (p : Place) (before after : List ℕ) (q : Place) : Type 0 where
  pub values : after ≡ laid (row_past l s p) (row_values l s p) before
  pub next : q ≡ row_past l s p

-- ---- a body of numbers alone

-- the place n bytes on; 1 where they are not all held
abbrev pub skipped : ℕ → List ℕ → Place → Place
skipped n s (Ok a) = cond (leb (a + n) (length s)) (Ok (a + n)) (Err (R.Short, 0))
skipped n s (Err f) = Err f

pub record Skipped (n : ℕ) (s : List ℕ) (p q : Place) : Type 0 where
  pub is : q ≡ skipped n s p

-- ---- a body written from such a run of numbers, by the layout of the type's row: 3 where it has none

abbrev pub shows_from : Option Layout → List ℕ → List ℕ → Reading (List Item)
shows_from none lent ns = bad R.UnknownType 0
shows_from (some l) lent ns = shows l lent (field_values l ns)

abbrev pub out_in : Option Layout → List ℕ → List ℕ → List ℕ → Place → List ℕ
out_in none lent ns o p = o
out_in (some l) lent ns o p = written_out (shows l lent (field_values l ns)) o p

abbrev pub end_in : Option Layout → List ℕ → List ℕ → List ℕ → Place → Place
end_in none lent ns o p = Err (R.UnknownType, 0)
end_in (some l) lent ns o p = written_past (shows l lent (field_values l ns)) o p

pub record FlatWritten (l : Option Layout) (lent ns o : List ℕ) (p : Place) (o' : List ℕ) (q : Place) : Type 0 where
  pub bytes : o' ≡ out_in l lent ns o p
  pub next : q ≡ end_in l lent ns o p

-- ---- how many numbers there are, for any request and for any reply

abbrev pub width_t : ℕ
width_t = 10

abbrev pub width_r : ℕ
width_r = 22

abbrev pub numbers_in : Layout → ℕ
numbers_in [] = 0
numbers_in (num w ∷ fs) = 1 + numbers_in fs
numbers_in (str ∷ fs) = 2 + numbers_in fs
numbers_in (dat ∷ fs) = 2 + numbers_in fs
numbers_in (strs ∷ fs) = 3 + numbers_in fs
numbers_in (quids ∷ fs) = 3 + numbers_in fs
numbers_in (boxed b ∷ fs) = shape_numbers b + numbers_in fs

abbrev pub widest : List Row → ℕ
widest [] = 0
widest (row k l ∷ rs) = max (numbers_in l) (widest rs)
