-- What holds of the definitions in specs/BoxLaws.antt.
use Rattle.numbers.specs.Place.{Place}
use Rattle.std.specs.Prelude.{ℕ, ◌+◌, ◌≤◌, ◌<◌, min, ◌≡◌, refl, Bool, true, false, cond, List, [], ◌∷◌, map, length, leb, Ok, Err}
use Rattle.std.proofs.Common.{arith, sym, ap, ap₂, ◌∙◌, length-append, le-leb}
use Rattle.std.proofs.lemmas.Bool.{lt-leb}
use Rattle.numbers.specs.Numbers.{to_le}
use Rattle.numbers.proofs.Numbers.{length_to_le}
use Rattle.numbers.specs.Reading.{Reading, ok, bad, after}
use Rattle.numbers.proofs.ReadingLaws.{after_inv}
use Rattle.numbers.specs.Places.{put_at, Put}
use Rattle.numbers.proofs.PlaceLaws.{length_put}
use Rattle.numbers.specs.declared.Refusal.{Refusal}
use Rattle.numbers.specs.declared.Refusal.TheVariants as R
use Rattle.strings.specs.Spans.{show_string, check_at, SpanPut}
use Rattle.fields.specs.Layouts.{Shape, fixed, worded, boxed, Layout, Cell, words, Item, string, box, cells_bytes, item_bytes, items_bytes}
use Rattle.fields.specs.BoxLaws.{plain_of, item_of}
use Rattle.fields.proofs.BoxLaws.{plain_bytes}
use Rattle.fields.specs.Values.{Slot, slot, text, slot_num, slot_len, first_slot, other_slots, Value, block, show_cell, show_cells, show, first_of, others_of, shows}
use Rattle.laying.specs.Laying.{limit, advance, shown_size, check_field, check_fields, cells_size, put_cell, past_put_cell, put_cells, past_put_cells, with_sizes, sized, put_field, past_put_field, put_fields, past_put_fields, FieldMeasured, Measured, PutAll, CellsPut, countable_at, Countable, Advanced}
use Rattle.laying.proofs.LayingLaws.{cells_size_lem}
use Rattle.laying.proofs.WritingLaws.{check_passed, stays, failed}
use Rattle.laying.specs.BoxLaws.{value_of}

abbrev items_of : Reading (List Cell) → Reading (List Item)
items_of m = after m (λ cs r. ok (map item_of cs) r)

one_shown : (f : Shape) (lent : List ℕ) (v : Slot) → show (plain_of f) lent (value_of v) ≡ after (show_cell f lent v) (λ c r. ok (item_of c) r)
unfolding show show_cell
one_shown (fixed w) lent (slot n) = refl
one_shown (fixed w) lent (text x y) = refl
one_shown worded lent v = from v
  where
    go : (m : Reading (List ℕ)) → after m (λ bs r. ok (string bs) r) ≡ after (after m (λ bs r. ok (words bs) r)) (λ c r. ok (item_of c) r)
    go (ok bs r) = refl
    go (bad k at) = refl

    from : (v : Slot) → show (plain_of worded) lent (value_of v) ≡ after (show_cell worded lent v) (λ c r. ok (item_of c) r)
    from (slot n) = go (show_string lent 0 0)
    from (text x y) = go (show_string lent x y)

first_value : (vs : List Slot) → first_of (map value_of vs) ≡ value_of (first_slot vs)
first_value [] = refl
first_value (v ∷ vs) = refl

other_values : (vs : List Slot) → others_of (map value_of vs) ≡ map value_of (other_slots vs)
other_values [] = refl
other_values (v ∷ vs) = refl

plain_shown : (fs : List Shape) (lent : List ℕ) (vs : List Slot) → shows (map plain_of fs) lent (map value_of vs) ≡ items_of (show_cells fs lent vs)
unfolding shows show_cells
plain_shown [] lent vs = refl
plain_shown (f ∷ fs) lent vs =
    ap₂ (λ m (n : Reading (List Item)). after m (λ i r. after n (λ is s. ok (i ∷ is) s))) (ap (show (plain_of f) lent) (first_value vs) ∙ one_shown f lent (first_slot vs))
    (ap (shows (map plain_of fs) lent) (other_values vs) ∙ plain_shown fs lent (other_slots vs))
    ∙ go (show_cell f lent (first_slot vs)) (show_cells fs lent (other_slots vs))
  where
    go : (m : Reading Cell) (n : Reading (List Cell)) → after (after m (λ c r. ok (item_of c) r)) (λ i r. after (items_of n) (λ is s. ok (i ∷ is) s)) ≡ items_of (after m (λ c r. after n (λ cs s. ok (c ∷ cs) s)))
    go (bad k at) n = refl
    go (ok c r) (bad k at) = refl
    go (ok c r) (ok cs s) = refl

-- ---- measured

-- fields that show something are passed by as many bytes
passed_all : (fs : Layout) (lent : List ℕ) (vs : List Value) (a : ℕ) {is : List Item} {r : List ℕ} → a ≤ limit → shows fs lent vs ≡ ok is r
    → check_fields fs lent vs (Ok a) ≡ Ok (min (a + length (items_bytes is)) limit)
unfolding shows items_bytes check_fields
passed_all [] lent vs a {is} l e = let f : [] ≡ is = cc e in rw (← f) (ap Ok (omega arith))
passed_all (f ∷ fs) lent vs a {is} l e =
    after_inv (show f lent (first_of vs)) _ e
    (λ i s e1 e2. after_inv (shows fs lent (others_of vs)) _ e2
    (λ js t e3 e4.
    let g : i ∷ js ≡ is = cc e4 in
    let n = length-append (item_bytes i) (items_bytes js) in
    rw (← g, check_passed f lent (first_of vs) a e1) (passed_all fs lent (others_of vs) (min (a + length (item_bytes i)) limit) (omega arith) e3 ∙ ap Ok (omega arith))))

pub countable : {n a : ℕ} {p : Place} → p ≡ Ok a → n ≤ 65535 → Countable n p p
countable {n} e h = record { is = rw (e, le-leb n 65535 h) }

pub uncountable : {n a : ℕ} {p : Place} → p ≡ Ok a → 65535 < n → Countable n p (Err (R.StatMalformed, 0))
uncountable {n} e h = record { is = rw (e, lt-leb n 65535 h) }

pub countable_refused : {n at : ℕ} {p : Place} {k : Refusal} → p ≡ Err (k, at) → Countable n p p
countable_refused e = record { is = rw e }

box_length : (cs : List Cell) → length (item_bytes (box cs)) ≡ 4 + length (cells_bytes cs)
unfolding item_bytes
box_length cs = simp (length-append, length_to_le) (omega arith)

abbrev box_of : Reading (List Cell) → Reading Item
box_of m = after m (λ cs r. cond (leb (2 + length (cells_bytes cs)) 65535) (ok (box cs) r) (bad R.StatMalformed 0))

-- after its count and its size the fields, then whether it may be counted
pub box_measured : {fs : List Shape} {lent : List ℕ} {vs : List Slot} {p a e q : Place} → Advanced 4 p a → Measured (map plain_of fs) lent (map value_of vs) a e → Countable (2 + cells_size fs vs) e q
    → FieldMeasured (boxed fs) lent (block vs) p q
unfolding check_field show
box_measured {fs} {lent} {vs} {p} x y z = record {
  is = z.is ∙ ap (countable_at (2 + cells_size fs vs)) (y.is ∙ ap (check_fields (map plain_of fs) lent (map value_of vs)) x.is) ∙ from p;
}
  where
    told : (n : ℕ) (cs : List Cell) (r : List ℕ) (t : Bool)
        → cond t (Ok (min (n + (4 + length (cells_bytes cs))) limit)) (Err (R.StatMalformed, 0))
        ≡ advance (shown_size (cond t (ok (box cs) r) (bad R.StatMalformed 0))) (check_at (cond t (ok (box cs) r) (bad R.StatMalformed 0)) (Ok n))
    told n cs r true = ap (λ m. Ok (min (n + m) limit)) (sym (box_length cs))
    told n cs r false = refl

    shown : (n : ℕ) (m : Reading (List Cell)) → show_cells fs lent vs ≡ m
        → countable_at (2 + cells_size fs vs) (check_fields (map plain_of fs) lent (map value_of vs) (advance 4 (Ok n))) ≡ advance (shown_size (box_of m)) (check_at (box_of m) (Ok n))
    shown n (bad k at) e = rw (failed (map plain_of fs) lent (map value_of vs) (min (n + 4) limit) (plain_shown fs lent vs ∙ ap items_of e))
    shown n (ok cs r) e =
        let g = passed_all (map plain_of fs) lent (map value_of vs) (min (n + 4) limit) (omega arith) (plain_shown fs lent vs ∙ ap items_of e) in
        let l = ap length (plain_bytes cs) in
        let k : min (min (n + 4) limit + length (items_bytes (map item_of cs))) limit ≡ min (n + (4 + length (cells_bytes cs))) limit = omega arith in
        rw (g, k, cells_size_lem fs lent vs e) (told n cs r (leb (2 + length (cells_bytes cs)) 65535))

    from : (x : Place) → countable_at (2 + cells_size fs vs) (check_fields (map plain_of fs) lent (map value_of vs) (advance 4 x))
        ≡ advance (shown_size (show (boxed fs) lent (block vs))) (check_at (show (boxed fs) lent (block vs)) x)
    from (Err f) = rw (stays (map plain_of fs) lent (map value_of vs) f.0 f.1)
    from (Ok n) = shown n (show_cells fs lent vs) refl

-- ---- put

cell_length : (f : Shape) (lent : List ℕ) (v : Slot) (o : List ℕ) (p : Place) → length (put_cell f lent v o p) ≡ length o
unfolding put_cell
cell_length (fixed w) lent v o p = length_put (to_le w (slot_num v)) o p
cell_length worded lent v o p = length_put _ (put_at (to_le 2 (slot_len v)) o p) _ ∙ length_put (to_le 2 (slot_len v)) o p

pub put_cells_length : (fs : List Shape) (lent : List ℕ) (vs : List Slot) (o : List ℕ) (p : Place) → length (put_cells fs lent vs o p) ≡ length o
unfolding put_cells
put_cells_length [] lent vs o p = refl
put_cells_length (f ∷ fs) lent vs o p =
    put_cells_length fs lent (other_slots vs) (put_cell f lent (first_slot vs) o p) (past_put_cell f lent (first_slot vs) o p) ∙ cell_length f lent (first_slot vs) o p

pub cells_done : {lent : List ℕ} {vs : List Slot} {o : List ℕ} {p : Place} → CellsPut [] lent vs o p o p
unfolding put_cells past_put_cells
cells_done = record { bytes = refl; next = refl }

pub put_amount : {w x : ℕ} {fs : List Shape} {lent : List ℕ} {vs : List Slot} {o o1 o2 : List ℕ} {p q e : Place} → Put (to_le w x) o p o1 q → CellsPut fs lent vs o1 q o2 e
    → CellsPut (fixed w ∷ fs) lent (slot x ∷ vs) o p o2 e
unfolding put_cells past_put_cells put_cell past_put_cell
put_amount a b = record { bytes = b.bytes ∙ rw (a.bytes, a.next); next = b.next ∙ rw (a.bytes, a.next) }

pub put_words : {x y : ℕ} {fs : List Shape} {lent : List ℕ} {vs : List Slot} {o o1 o2 o3 : List ℕ} {p q r e : Place} → Put (to_le 2 y) o p o1 q → SpanPut lent x y o1 q o2 r
    → CellsPut fs lent vs o2 r o3 e → CellsPut (worded ∷ fs) lent (text x y ∷ vs) o p o3 e
unfolding put_cells past_put_cells put_cell past_put_cell
put_words a b c = record { bytes = c.bytes ∙ rw (b.put.bytes, b.put.next, a.bytes, a.next); next = c.next ∙ rw (b.put.bytes, b.put.next, a.bytes, a.next) }

-- a box among other fields
pub put_box : {fs : List Shape} {gs : Layout} {lent : List ℕ} {us : List Slot} {vs : List Value} {o o1 o2 : List ℕ} {p q e : Place} → CellsPut (with_sizes fs) lent (sized fs us) o p o1 q
    → PutAll gs lent vs o1 q o2 e → PutAll (boxed fs ∷ gs) lent (block us ∷ vs) o p o2 e
unfolding put_fields past_put_fields put_field past_put_field
put_box a b = record { bytes = b.bytes ∙ rw (a.bytes, a.next); next = b.next ∙ rw (a.bytes, a.next) }
