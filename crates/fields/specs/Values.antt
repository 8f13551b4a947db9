-- Values: what a record holds of a field. Items show bytes; values say where they stand.
use Rattle.std.specs.Prelude.{ℕ, ◌+◌, ◌*◌, cond, List, [], ◌∷◌, length, eqb, leb}
use Rattle.numbers.specs.Reading.{Reading, ok, bad, after}
use Rattle.numbers.specs.Refusals.{number_of}
use Rattle.numbers.specs.declared.Refusal.{Refusal}
use Rattle.numbers.specs.declared.Refusal.TheVariants as R
use Rattle.strings.specs.Spans.{show_span, show_string}
use Rattle.fields.specs.Layouts.{Shape, fixed, worded, Field, num, str, dat, strs, quids, boxed, Layout, Cell, amount, words, Item, number, string, bytes, strings, qids, box, counted, read_many, many_bytes, cell_bytes, cells_bytes, item_bytes}

-- in a box: a number; a string's start and length
pub data Slot : Type 0 where
  slot : ℕ → Slot
  text : ℕ → ℕ → Slot

abbrev pub slot_num : Slot → ℕ
slot_num (slot n) = n
slot_num (text x y) = 0

abbrev pub slot_start : Slot → ℕ
slot_start (slot n) = 0
slot_start (text x y) = x

abbrev pub slot_len : Slot → ℕ
slot_len (slot n) = 0
slot_len (text x y) = y

-- a number; a span of the bytes, its start and length; a part of them with the count of its elements; what a box has, neither its count nor its size
pub data Value : Type 0 where
  val : ℕ → Value
  span : ℕ → ℕ → Value
  part : ℕ → ℕ → ℕ → Value
  block : List Slot → Value

-- what a value has; 0 where it has none
abbrev pub num_of : Value → ℕ
num_of (val n) = n
num_of (span x y) = 0
num_of (part c x y) = 0
num_of (block l) = 0

abbrev pub start_of : Value → ℕ
start_of (val n) = 0
start_of (span x y) = x
start_of (part c x y) = x
start_of (block l) = 0

abbrev pub len_of : Value → ℕ
len_of (val n) = 0
len_of (span x y) = y
len_of (part c x y) = y
len_of (block l) = 0

abbrev pub count_of : Value → ℕ
count_of (val n) = 0
count_of (span x y) = 0
count_of (part c x y) = c
count_of (block l) = 0

abbrev pub slots_of : Value → List Slot
slots_of (val n) = []
slots_of (span x y) = []
slots_of (part c x y) = []
slots_of (block l) = l

-- ---- where an item stands that begins at a: its bytes are after its count

abbrev pub place_cell : ℕ → Cell → Slot
place_cell a (amount w n) = slot n
place_cell a (words bs) = text (a + 2) (length bs)

unfoldable pub place_cells : ℕ → List Cell → List Slot
place_cells a [] = []
place_cells a (c ∷ cs) = place_cell a c ∷ place_cells (a + length (cell_bytes c)) cs

abbrev pub place : ℕ → Item → Value
place a (number w n) = val n
place a (string bs) = span (a + 2) (length bs)
place a (bytes bs) = span (a + 4) (length bs)
place a (strings l) = part (length l) (a + 2) (length (many_bytes l))
place a (qids n bs) = part n (a + 2) (length bs)
place a (box cs) = block (place_cells (a + 4) cs)

unfoldable pub places : ℕ → List Item → List Value
places a [] = []
places a (i ∷ is) = place a i ∷ places (a + length (item_bytes i)) is

-- ---- what a value shows of the lent bytes, with the writer's refusals. The rest of an `ok` is not used, and is []

-- the bytes of a vector's elements: the count first, then the span (F5.7)
abbrev pub show_part : List ℕ → ℕ → ℕ → ℕ → Reading (List ℕ)
show_part lent n x y = counted n (show_span lent x y)

-- an element that the part cuts off is 14 (F5.7)
abbrev pub cut_off : Refusal → Refusal
cut_off k = cond (eqb (number_of k) 1) R.PartMalformed k

-- bytes left over are 14 (F5.7)
abbrev pub whole_part : {A : Type 0} → Reading A → Reading A
whole_part (ok a []) = ok a []
whole_part (ok a (x ∷ r)) = bad R.PartMalformed 0
whole_part (bad k at) = bad (cut_off k) at

-- the fields of a box, in order
abbrev pub first_slot : List Slot → Slot
first_slot [] = slot 0
first_slot (v ∷ vs) = v

abbrev pub other_slots : List Slot → List Slot
other_slots [] = []
other_slots (v ∷ vs) = vs

unfoldable pub show_cell : Shape → List ℕ → Slot → Reading Cell
show_cell (fixed w) lent v = ok (amount w (slot_num v)) []
show_cell worded lent v = after (show_string lent (slot_start v) (slot_len v)) (λ bs r. ok (words bs) r)

unfoldable pub show_cells : List Shape → List ℕ → List Slot → Reading (List Cell)
show_cells [] lent vs = ok [] []
show_cells (f ∷ fs) lent vs = after (show_cell f lent (first_slot vs)) (λ c r. after (show_cells fs lent (other_slots vs)) (λ cs s. ok (c ∷ cs) s))

-- a field that is to be written (F5.5 to F5.9); of a box the strings, then 18 where its count would be above 65,535 (F14.4)
unfoldable pub show : Field → List ℕ → Value → Reading Item
show (num w) lent v = ok (number w (num_of v)) []
show str lent v = after (show_string lent (start_of v) (len_of v)) (λ bs r. ok (string bs) r)
show dat lent v = after (show_span lent (start_of v) (len_of v)) (λ bs r. ok (bytes bs) r)
show strs lent v =
    after (show_part lent (count_of v) (start_of v) (len_of v)) (λ bs r. after (whole_part (read_many (count_of v) (start_of v) bs)) (λ l s. ok (strings l) s))
show quids lent v =
    after (show_part lent (count_of v) (start_of v) (len_of v))
    (λ bs r. cond (eqb (len_of v) (13 * count_of v)) (ok (qids (count_of v) bs) r) (bad R.PartMalformed 0))
show (boxed fs) lent v =
    after (show_cells fs lent (slots_of v)) (λ cs r. cond (leb (2 + length (cells_bytes cs)) 65535) (ok (box cs) r) (bad R.StatMalformed 0))

-- the first of the values, and the others
abbrev pub first_of : List Value → Value
first_of [] = val 0
first_of (v ∷ vs) = v

abbrev pub others_of : List Value → List Value
others_of [] = []
others_of (v ∷ vs) = vs

-- fields in order (F5.2)
unfoldable pub shows : Layout → List ℕ → List Value → Reading (List Item)
shows [] lent vs = ok [] []
shows (f ∷ fs) lent vs = after (show f lent (first_of vs)) (λ i r. after (shows fs lent (others_of vs)) (λ is s. ok (i ∷ is) s))
