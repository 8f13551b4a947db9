-- Writing fields at places: they are all checked and measured first, which touches no output; then their bytes are put. What the contracts cite.
use Rattle.numbers.specs.Place.{Place}
use Rattle.std.specs.Prelude.{ℕ, ◌+◌, min, ◌≡◌, cond, List, [], ◌∷◌, length, eqb, leb, ltb, Ok, Err}
use Rattle.numbers.specs.Numbers.{to_le}
use Rattle.numbers.specs.Reading.{Reading, ok, bad}
use Rattle.numbers.specs.Places.{put_at, past_put}
use Rattle.numbers.specs.declared.Refusal.TheVariants as R
use Rattle.strings.specs.Spans.{bytes_in, show_span, check_at}
use Rattle.fields.specs.Layouts.{Shape, fixed, worded, Field, num, str, dat, strs, quids, boxed, Layout, Item, item_bytes, items_bytes}
use Rattle.fields.specs.Values.{Slot, slot, slot_num, slot_start, slot_len, first_slot, other_slots, slots_of, Value, num_of, start_of, len_of, count_of, cut_off, show_part, show, first_of, others_of, shows}

-- ---- measuring

-- one more than the largest frame has bytes; it stands for every place past that, so that no sum wraps
abbrev pub limit : ℕ
limit = 4294967296

abbrev pub advance : ℕ → Place → Place
advance n (Ok a) = Ok (min (a + n) limit)
advance n (Err f) = Err f

-- how long an item is that a value shows
abbrev pub shown_size : Reading Item → ℕ
shown_size (ok i r) = length (item_bytes i)
shown_size (bad k at) = 0

unfoldable pub check_field : Field → List ℕ → Value → Place → Place
check_field f lent v p = advance (shown_size (show f lent v)) (check_at (show f lent v) p)

unfoldable pub check_fields : Layout → List ℕ → List Value → Place → Place
check_fields [] lent vs p = p
check_fields (f ∷ fs) lent vs p = check_fields fs lent (others_of vs) (check_field f lent (first_of vs) p)

-- ---- putting

-- a count of w bytes, then the bytes that a span shows
abbrev pub counted_out : ℕ → ℕ → List ℕ → ℕ → ℕ → List ℕ → Place → List ℕ
counted_out w n lent x y o p =
    put_at (bytes_in (show_span lent x y)) (put_at (to_le w n) o p) (check_at (show_span lent x y) (past_put (to_le w n) o p))

abbrev pub counted_past : ℕ → ℕ → List ℕ → ℕ → ℕ → List ℕ → Place → Place
counted_past w n lent x y o p =
    past_put (bytes_in (show_span lent x y)) (put_at (to_le w n) o p) (check_at (show_span lent x y) (past_put (to_le w n) o p))

-- the count that stands before the bytes of a field: of how many bytes it is, and what it says
abbrev pub head_width : Field → ℕ
head_width (num w) = w
head_width str = 2
head_width dat = 4
head_width strs = 2
head_width quids = 2
head_width (boxed fs) = 2

abbrev pub head_of : Field → Value → ℕ
head_of (num w) v = num_of v
head_of str v = len_of v
head_of dat v = len_of v
head_of strs v = count_of v
head_of quids v = count_of v
head_of (boxed fs) v = 0

abbrev pub counted_field : Field → List ℕ → Value → List ℕ → Place → List ℕ
counted_field f lent v o p = counted_out (head_width f) (head_of f v) lent (start_of v) (len_of v) o p

abbrev pub past_counted : Field → List ℕ → Value → List ℕ → Place → Place
past_counted f lent v o p = counted_past (head_width f) (head_of f v) lent (start_of v) (len_of v) o p

-- how long the fields of a box are; a string that may not be written counts for as much as refuses the box (F14.4)
abbrev pub cell_size : Shape → Slot → ℕ
cell_size (fixed w) v = w
cell_size worded v = 2 + min (slot_len v) 65536

abbrev pub cells_size : List Shape → List Slot → ℕ
cells_size [] vs = 0
cells_size (f ∷ fs) vs = cell_size f (first_slot vs) + cells_size fs (other_slots vs)

-- the fields of a box, put one after the other
unfoldable pub put_cell : Shape → List ℕ → Slot → List ℕ → Place → List ℕ
put_cell (fixed w) lent v o p = put_at (to_le w (slot_num v)) o p
put_cell worded lent v o p = counted_out 2 (slot_len v) lent (slot_start v) (slot_len v) o p

unfoldable pub past_put_cell : Shape → List ℕ → Slot → List ℕ → Place → Place
past_put_cell (fixed w) lent v o p = past_put (to_le w (slot_num v)) o p
past_put_cell worded lent v o p = counted_past 2 (slot_len v) lent (slot_start v) (slot_len v) o p

unfoldable pub put_cells : List Shape → List ℕ → List Slot → List ℕ → Place → List ℕ
put_cells [] lent vs o p = o
put_cells (f ∷ fs) lent vs o p = put_cells fs lent (other_slots vs) (put_cell f lent (first_slot vs) o p) (past_put_cell f lent (first_slot vs) o p)

unfoldable pub past_put_cells : List Shape → List ℕ → List Slot → List ℕ → Place → Place
past_put_cells [] lent vs o p = p
past_put_cells (f ∷ fs) lent vs o p = past_put_cells fs lent (other_slots vs) (put_cell f lent (first_slot vs) o p) (past_put_cell f lent (first_slot vs) o p)

-- its count and its size stand before them
abbrev pub with_sizes : List Shape → List Shape
with_sizes fs = fixed 2 ∷ fixed 2 ∷ fs

abbrev pub sized : List Shape → List Slot → List Slot
sized fs vs = slot (2 + cells_size fs vs) ∷ slot (cells_size fs vs) ∷ vs

unfoldable pub put_field : Field → List ℕ → Value → List ℕ → Place → List ℕ
put_field (num w) lent v o p = put_at (to_le w (num_of v)) o p
put_field str lent v o p = counted_field str lent v o p
put_field dat lent v o p = counted_field dat lent v o p
put_field strs lent v o p = counted_field strs lent v o p
put_field quids lent v o p = counted_field quids lent v o p
put_field (boxed fs) lent v o p = put_cells (with_sizes fs) lent (sized fs (slots_of v)) o p

unfoldable pub past_put_field : Field → List ℕ → Value → List ℕ → Place → Place
past_put_field (num w) lent v o p = past_put (to_le w (num_of v)) o p
past_put_field str lent v o p = past_counted str lent v o p
past_put_field dat lent v o p = past_counted dat lent v o p
past_put_field strs lent v o p = past_counted strs lent v o p
past_put_field quids lent v o p = past_counted quids lent v o p
past_put_field (boxed fs) lent v o p = past_put_cells (with_sizes fs) lent (sized fs (slots_of v)) o p

unfoldable pub put_fields : Layout → List ℕ → List Value → List ℕ → Place → List ℕ
put_fields [] lent vs o p = o
put_fields (f ∷ fs) lent vs o p =
    put_fields fs lent (others_of vs) (put_field f lent (first_of vs) o p) (past_put_field f lent (first_of vs) o p)

unfoldable pub past_put_fields : Layout → List ℕ → List Value → List ℕ → Place → Place
past_put_fields [] lent vs o p = p
past_put_fields (f ∷ fs) lent vs o p =
    past_put_fields fs lent (others_of vs) (put_field f lent (first_of vs) o p) (past_put_field f lent (first_of vs) o p)

-- ---- what the code answers

-- the place after a field, and after the fields of a layout, each of them checked; or the first refusal
pub record FieldMeasured (f : Field) (lent : List ℕ) (v : Value) (p q : Place) : Type 0 where
  pub is : q ≡ check_field f lent v p

pub record Measured (fs : Layout) (lent : List ℕ) (vs : List Value) (p q : Place) : Type 0 where
  pub is : q ≡ check_fields fs lent vs p

-- what putting the fields of a layout at p of the output o leaves and answers
pub record PutAll (fs : Layout) (lent : List ℕ) (vs : List Value) (o : List ℕ) (p : Place) (o' : List ℕ) (q : Place) : Type 0 where
  pub bytes : o' ≡ put_fields fs lent vs o p
  pub next : q ≡ past_put_fields fs lent vs o p

-- the same of the fields of a box
pub record CellsPut (fs : List Shape) (lent : List ℕ) (vs : List Slot) (o : List ℕ) (p : Place) (o' : List ℕ) (q : Place) : Type 0 where
  pub bytes : o' ≡ put_cells fs lent vs o p
  pub next : q ≡ past_put_cells fs lent vs o p

-- whether a count of n may stand before a box: its place, or 18
abbrev pub countable_at : ℕ → Place → Place
countable_at n (Ok a) = cond (leb n 65535) (Ok a) (Err (R.StatMalformed, 0))
countable_at n (Err f) = Err f

pub record Countable (n : ℕ) (p q : Place) : Type 0 where
  pub is : q ≡ countable_at n p

-- the place n bytes on
pub record Advanced (n : ℕ) (p q : Place) : Type 0 where
  pub is : q ≡ advance n p

-- the check of a value that is to be written: the place itself, or the refusal
pub record ShowCheck (f : Field) (lent : List ℕ) (v : Value) (p q : Place) : Type 0 where
  pub is : q ≡ check_at (show f lent v) p

-- the check of a part, before its elements are looked at: 17, 9
pub record PartCheck (lent : List ℕ) (n x y : ℕ) (p q : Place) : Type 0 where
  pub is : q ≡ check_at (show_part lent n x y) p

-- where the scan of a part of n bytes has ended: at its end, or it is malformed
abbrev pub filled_at : Place → ℕ → Place → Place
filled_at (Ok e) n p = cond (eqb e n) p (Err (R.PartMalformed, 0))
filled_at (Err f) n p = Err (cut_off f.0, f.1)

pub record Filled (e : Place) (n : ℕ) (p q : Place) : Type 0 where
  pub is : q ≡ filled_at e n p

-- ---- a whole layout written: its fields in order, then 10, then 11, and a refusal leaves the output as it was (F5.16)

abbrev pub written_out : Reading (List Item) → List ℕ → Place → List ℕ
written_out m o (Err f) = o
written_out (bad k at) o (Ok a) = o
written_out (ok is r) o (Ok a) = cond (ltb (a + length (items_bytes is)) limit) (put_at (items_bytes is) o (Ok a)) o

abbrev pub written_past : Reading (List Item) → List ℕ → Place → Place
written_past m o (Err f) = Err f
written_past (bad k at) o (Ok a) = Err (k, at)
written_past (ok is r) o (Ok a) =
    cond (ltb (a + length (items_bytes is)) limit) (past_put (items_bytes is) o (Ok a)) (Err (R.FrameTooLong, 0))

pub record Written (fs : Layout) (lent : List ℕ) (vs : List Value) (o : List ℕ) (p : Place) (o' : List ℕ) (q : Place) : Type 0 where
  pub bytes : o' ≡ written_out (shows fs lent vs) o p
  pub next : q ≡ written_past (shows fs lent vs) o p

-- the end that measuring found, in an output of n bytes
abbrev pub settled_at : Place → ℕ → Place
settled_at (Ok e) n = cond (ltb e limit) (cond (leb e n) (Ok e) (Err (R.NoRoom, 0))) (Err (R.FrameTooLong, 0))
settled_at (Err f) n = Err f

pub record Settled (e : Place) (n : ℕ) (q : Place) : Type 0 where
  pub is : q ≡ settled_at e n

-- where putting begins: where measuring did, unless that was refused
abbrev pub begun_at : Place → Place → Place
begun_at p (Ok n) = p
begun_at p (Err f) = Err f

pub record Begun (p e : Place) (n : ℕ) (q : Place) : Type 0 where
  pub is : q ≡ begun_at p (settled_at e n)
