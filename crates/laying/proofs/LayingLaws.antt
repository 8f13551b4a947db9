-- What holds of the definitions in specs/LayingLaws.antt.
use Rattle.numbers.specs.Place.{Place}
use Rattle.std.specs.Prelude.{ℕ, zero, suc, ◌+◌, ◌*◌, ◌≤◌, min, ◌≡◌, refl, List, [], ◌∷◌, ◌++◌, length, take, drop, eqb, leb, Ok, Err}
use Rattle.std.proofs.Common.{arith, sym, ap, ap₂, ◌∙◌, append-nil, length-append, take-append-drop, le-leb, leb-true}
use Rattle.std.proofs.Math.Seq.{take-nil}
use Rattle.numbers.specs.Numbers.{Bytes, to_le}
use Rattle.numbers.proofs.Numbers.{length_to_le, bytes_take, bytes_drop}
use Rattle.numbers.specs.Reading.{Reading, ok, bad}
use Rattle.numbers.proofs.ReadingLaws.{after_inv, cond_inv}
use Rattle.numbers.specs.Places.{put_at, past_put, Put}
use Rattle.numbers.proofs.PlaceLaws.{put_then, put_length}
use Rattle.numbers.specs.declared.Refusal.TheVariants as R
use Rattle.strings.specs.Strings.{string_bytes}
use Rattle.strings.specs.Spans.{show_span, show_string, SpanPut}
use Rattle.strings.proofs.SpanLaws.{check_inv, shown_in, shown_length, span_inv, string_inv, passing}
use Rattle.fields.specs.Layouts.{Shape, fixed, worded, Field, num, str, dat, strs, quids, boxed, Layout, Cell, amount, words, Item, number, string, bytes, strings, qids, box, read_many, many_bytes, cell_bytes, cells_bytes, item_bytes, items_bytes}
use Rattle.fields.proofs.LayoutLaws.{took_many}
use Rattle.fields.specs.Values.{Slot, slot_num, slot_start, slot_len, first_slot, other_slots, slots_of, show_cell, show_cells, Value, val, num_of, start_of, len_of, count_of, show_part, whole_part, show, first_of, others_of, shows}
use Rattle.laying.specs.Laying.{advance, check_field, check_fields, head_width, head_of, counted_field, past_counted, cell_size, cells_size, put_cell, past_put_cell, put_cells, past_put_cells, with_sizes, sized, put_field, past_put_field, put_fields, past_put_fields, FieldMeasured, Measured, PutAll, Advanced, PartCheck}
use Rattle.laying.specs.LayingLaws.{total, numbers, after_numbers, Unless, AfterCount, PartPassed}

-- a part of the bytes up to its end
pub drop_take : (k n : ℕ) (s : List ℕ) → drop k (take (k + n) s) ≡ take n (drop k s)
drop_take zero n s = let e : 0 + n ≡ n = omega arith in rw e
drop_take (suc k) n s = let e : suc k + n ≡ suc (k + n) = omega arith in rw e (go (λ l. drop_take k n l) s)
  where
    go : ((l : List ℕ) → drop k (take (k + n) l) ≡ take n (drop k l)) → (l : List ℕ) → drop (suc k) (take (suc (k + n)) l) ≡ take n (drop (suc k) l)
    go ih [] = sym (take-nil n)
    go ih (x ∷ xs) = ih xs

-- ---- measured one after another

pub measured_none : {lent : List ℕ} {vs : List Value} {p : Place} → Measured [] lent vs p p
unfolding check_fields
measured_none = record { is = refl }

pub measure : {f : Field} {fs : Layout} {lent : List ℕ} {v : Value} {vs : List Value} {p q e : Place} → FieldMeasured f lent v p q → Measured fs lent vs q e
    → Measured (f ∷ fs) lent (v ∷ vs) p e
unfolding check_fields
measure {fs = fs} {lent} {vs = vs} a b = record { is = b.is ∙ ap (check_fields fs lent vs) a.is }

pub advance_twice : (m n : ℕ) (p : Place) → advance n (advance m p) ≡ advance (m + n) p
advance_twice m n (Ok a) = ap Ok (omega arith)
advance_twice m n (Err f) = refl

size : (w x : ℕ) → length (item_bytes (number w x)) ≡ w
unfolding item_bytes
size w x = length_to_le w x

check_number : (w : ℕ) (lent : List ℕ) (v : Value) (p : Place) → check_field (num w) lent v p ≡ advance w p
unfolding check_field show
check_number w lent v (Ok a) = ap (λ n. Ok (min (a + n) 4294967296)) (size w (num_of v))
check_number w lent v (Err f) = refl

check_numbers : (w : ℕ) (ws : List ℕ) (fs : Layout) (lent : List ℕ) (vs : List Value) (p : Place)
    → check_fields fs lent (after_numbers (w ∷ ws) vs) (advance (total (w ∷ ws)) p) ≡ check_fields (numbers (w ∷ ws) fs) lent vs p
unfolding check_fields
check_numbers w [] fs lent vs p =
    let z : w + 0 ≡ w = omega arith in
    ap (check_fields fs lent (others_of vs)) (ap (λ n. advance n p) z ∙ sym (check_number w lent (first_of vs) p))
check_numbers w (v ∷ ws) fs lent vs p =
    ap (check_fields fs lent (after_numbers (v ∷ ws) (others_of vs))) (sym (advance_twice w (total (v ∷ ws)) p)) ∙ check_numbers v ws fs lent (others_of vs) (advance w p)
    ∙ ap (check_fields (numbers (v ∷ ws) fs) lent (others_of vs)) (sym (check_number w lent (first_of vs) p))

pub measure_numbers : (w : ℕ) (ws : List ℕ) {fs : Layout} {lent : List ℕ} {vs : List Value} {p q e : Place} → Advanced (total (w ∷ ws)) p q → Measured fs lent (after_numbers (w ∷ ws) vs) q e
    → Measured (numbers (w ∷ ws) fs) lent vs p e
measure_numbers w ws {fs} {lent} {vs} {p} a b =
    record { is = b.is ∙ ap (check_fields fs lent (after_numbers (w ∷ ws) vs)) a.is ∙ check_numbers w ws fs lent vs p }

-- ---- put one after another

pub put_done : {lent : List ℕ} {vs : List Value} {o : List ℕ} {p : Place} → PutAll [] lent vs o p o p
unfolding put_fields past_put_fields
put_done = record { bytes = refl; next = refl }

pub put_number : {w x : ℕ} {fs : Layout} {lent : List ℕ} {vs : List Value} {o o1 o2 : List ℕ} {p q e : Place} → Put (to_le w x) o p o1 q → PutAll fs lent vs o1 q o2 e
    → PutAll (num w ∷ fs) lent (val x ∷ vs) o p o2 e
unfolding put_fields past_put_fields put_field past_put_field
put_number a b = record { bytes = b.bytes ∙ rw (a.bytes, a.next); next = b.next ∙ rw (a.bytes, a.next) }

pub put_counted : (f : Field) {fs : Layout} {lent : List ℕ} {v : Value} {vs : List Value} {o o1 o2 o3 : List ℕ} {p q r e : Place} → Unless f
    → Put (to_le (head_width f) (head_of f v)) o p o1 q → SpanPut lent (start_of v) (len_of v) o1 q o2 r → PutAll fs lent vs o2 r o3 e → PutAll (f ∷ fs) lent (v ∷ vs) o p o3 e
unfolding put_fields past_put_fields put_field past_put_field
put_counted (num w) u a b c = absurd u
put_counted str u a b c = record { bytes = c.bytes ∙ rw (b.put.bytes, b.put.next, a.bytes, a.next); next = c.next ∙ rw (b.put.bytes, b.put.next, a.bytes, a.next) }
put_counted dat u a b c = record { bytes = c.bytes ∙ rw (b.put.bytes, b.put.next, a.bytes, a.next); next = c.next ∙ rw (b.put.bytes, b.put.next, a.bytes, a.next) }
put_counted strs u a b c = record { bytes = c.bytes ∙ rw (b.put.bytes, b.put.next, a.bytes, a.next); next = c.next ∙ rw (b.put.bytes, b.put.next, a.bytes, a.next) }
put_counted quids u a b c = record { bytes = c.bytes ∙ rw (b.put.bytes, b.put.next, a.bytes, a.next); next = c.next ∙ rw (b.put.bytes, b.put.next, a.bytes, a.next) }
put_counted (boxed fs) u a b c = absurd u

pub span_shown : (lent : List ℕ) (x y : ℕ) {bs r : List ℕ} → show_span lent x y ≡ ok bs r → (show_span lent x y ≡ ok bs []) × (length bs ≡ y) × (bs ≡ take y (drop x lent))
span_shown lent x y {bs} {r} e =
    let h = span_inv lent x y e in
    let g = shown_in lent x y h in
    let d = sym e ∙ g in
    let f : bs ≡ take y (drop x lent) = cc d in
    (g ∙ ap (λ z. ok z []) (sym f), rw f (shown_length lent x y h), f)

-- a part that is shown has few elements, and the bytes of its span
pub part_inv : (lent : List ℕ) (n x y : ℕ) {bs r : List ℕ} → show_part lent n x y ≡ ok bs r → (n ≤ 16) × (show_span lent x y ≡ ok bs r)
part_inv lent n x y e = let u = cond_inv (leb n 16) (show_span lent x y) R.TooManyElements 0 e in (leb-true n 16 u.0, u.1)

pub part_passed : {lent : List ℕ} {n x y a : ℕ} {p q : Place} → PartCheck lent n x y p q → q ≡ Ok a → PartPassed lent n x y p a
part_passed {lent} {n} {x} {y} {a} {p} c e =
    check_inv (show_part lent n x y) p (sym c.is ∙ e)
    (λ bs r f g.
    let i = (part_inv lent n x y f).1 in
    let h = span_inv lent x y i in
    record { place = g; lies = h; shows = f ∙ sym i ∙ shown_in lent x y h })

pub part_lies : {lent : List ℕ} {n x y a : ℕ} {p q : Place} → PartCheck lent n x y p q → q ≡ Ok a → x + y ≤ length lent
part_lies c e = (part_passed c e).lies

pub whole_inv : {A X : Type 0} (m : Reading A) {a : A} {r : List ℕ} → whole_part m ≡ ok a r → (m ≡ ok a [] → X) → X
whole_inv (ok a []) {a = b} e f = f (let g : a ≡ b = cc e in ap (λ x. ok x []) g)
whole_inv (ok a (x ∷ r)) e f = absurd (let z : ◌≡◌ {A = ℕ} 0 1 = cc e in omega arith)
whole_inv (bad k at) e f = absurd (let z : ◌≡◌ {A = ℕ} 0 1 = cc e in omega arith)

pub after_count : (f : Field) (lent : List ℕ) (v : Value) {i : Item} {r : List ℕ} → Unless f → Bytes lent → show f lent v ≡ ok i r → AfterCount f lent v i
unfolding show item_bytes string_bytes
after_count (num w) lent v u b e = absurd u
after_count str lent v {i} u b e =
    after_inv (show_string lent (start_of v) (len_of v)) _ e
    (λ bs s e1 e2.
    let k = string_inv lent (start_of v) (len_of v) e1 in
    let f : string bs ≡ i = cc e2 in
    let l : length bs ≡ len_of v = rw k.bytes (shown_length lent (start_of v) (len_of v) k.lies) in
    rw (← f)
    (record {
      tail = bs;
      shows = shown_in lent (start_of v) (len_of v) k.lies ∙ ap (λ z. ok z []) (sym k.bytes);
      size = l;
      item = ap (λ n. to_le 2 n ++ bs) l;
    }))
after_count dat lent v {i} u b e =
    after_inv (show_span lent (start_of v) (len_of v)) _ e
    (λ bs s e1 e2.
    let k = span_shown lent (start_of v) (len_of v) e1 in
    let f : bytes bs ≡ i = cc e2 in
    rw (← f) (record { tail = bs; shows = k.0; size = k.1; item = ap (λ n. to_le 4 n ++ bs) k.1 }))
after_count strs lent v {i} u b e =
    after_inv (show_part lent (count_of v) (start_of v) (len_of v)) _ e
    (λ bs s e1 e2. after_inv (whole_part (read_many (count_of v) (start_of v) bs)) _ e2
    (λ l t e3 e4. whole_inv (read_many (count_of v) (start_of v) bs) e3
    (λ e5.
    let k = span_shown lent (start_of v) (len_of v) (part_inv lent (count_of v) (start_of v) (len_of v) e1).1 in
    let f : strings l ≡ i = cc e4 in
    let h = took_many (count_of v) (start_of v) bs (rw k.2 (bytes_take (len_of v) (drop (start_of v) lent) (bytes_drop (start_of v) lent b))) e5 in
    let m : many_bytes l ≡ bs = sym (h.whole ∙ append-nil (many_bytes l)) in
    rw (← f) (record { tail = bs; shows = k.0; size = k.1; item = ap₂ (λ n z. to_le 2 n ++ z) h.good.0 m }))))
after_count quids lent v {i} u b e =
    after_inv (show_part lent (count_of v) (start_of v) (len_of v)) _ e
    (λ bs s e1 e2.
    let k = span_shown lent (start_of v) (len_of v) (part_inv lent (count_of v) (start_of v) (len_of v) e1).1 in
    let g = (cond_inv (eqb (len_of v) (13 * count_of v)) _ R.PartMalformed 0 e2).1 in
    let f : qids (count_of v) bs ≡ i = cc g in
    rw (← f) (record { tail = bs; shows = k.0; size = k.1; item = refl }))
after_count (boxed fs) lent v u b e = absurd u

-- ---- putting, where there is room

put_none : (o : List ℕ) (a : ℕ) → a ≤ length o → Put [] o (Ok a) o (Ok a)
unfolding put_at past_put
put_none o a h =
    let z : a + 0 ≡ a = omega arith in
    record { bytes = rw (z, le-leb a (length o) h, append-nil) (sym (take-append-drop a o)); next = rw (z, le-leb a (length o) h) }

put_self : (bs o : List ℕ) (p : Place) → Put bs o p (put_at bs o p) (past_put bs o p)
put_self bs o p = record { bytes = refl; next = refl }

put_after_count : (f : Field) (lent : List ℕ) (v : Value) (o : List ℕ) (a : ℕ) {i : Item} → AfterCount f lent v i → a + length (item_bytes i) ≤ length o
    → Put (item_bytes i) o (Ok a) (counted_field f lent v o (Ok a)) (past_counted f lent v o (Ok a))
put_after_count f lent v o a {i} k h =
    let hd : List ℕ = to_le (head_width f) (head_of f v) in
    let m : Place = past_put hd o (Ok a) in
    rw (k.item, k.shows, passing k.tail [] m)
    (put_then (put_self hd o (Ok a)) (put_self k.tail (put_at hd o (Ok a)) m) refl (rw (← k.item) h))

number_put : (w : ℕ) (lent : List ℕ) (v : Value) (o : List ℕ) (a : ℕ) {i : Item} {r : List ℕ} → show (num w) lent v ≡ ok i r
    → Put (item_bytes i) o (Ok a) (put_at (to_le w (num_of v)) o (Ok a)) (past_put (to_le w (num_of v)) o (Ok a))
unfolding show item_bytes
number_put w lent v o a {i} e =
    let f : number w (num_of v) ≡ i = cc e in rw (← f) (put_self (to_le w (num_of v)) o (Ok a))

put_next : {bs o o' : List ℕ} {a : ℕ} {q : Place} → Put bs o (Ok a) o' q → a + length bs ≤ length o → q ≡ Ok (a + length bs)
unfolding past_put
put_next {bs} {o} {o'} {a} f h = f.next ∙ rw (le-leb (a + length bs) (length o) h)

-- ---- the fields of a box

cell_put : (f : Shape) (lent : List ℕ) (v : Slot) (o : List ℕ) (a : ℕ) {i : Cell} {r : List ℕ} → show_cell f lent v ≡ ok i r → a + length (cell_bytes i) ≤ length o
    → Put (cell_bytes i) o (Ok a) (put_cell f lent v o (Ok a)) (past_put_cell f lent v o (Ok a))
unfolding show_cell cell_bytes string_bytes put_cell past_put_cell
cell_put (fixed w) lent v o a {i} e h = let f : amount w (slot_num v) ≡ i = cc e in rw (← f) (put_self (to_le w (slot_num v)) o (Ok a))
cell_put worded lent v o a {i} e h =
    after_inv (show_string lent (slot_start v) (slot_len v)) _ e
    (λ bs s e1 e2.
    let k = string_inv lent (slot_start v) (slot_len v) e1 in
    let f : words bs ≡ i = cc e2 in
    let l : length bs ≡ slot_len v = rw k.bytes (shown_length lent (slot_start v) (slot_len v) k.lies) in
    let g = shown_in lent (slot_start v) (slot_len v) k.lies ∙ ap (λ z. ok z []) (sym k.bytes) in
    let h' : a + length (to_le 2 (length bs) ++ bs) ≤ length o = rw (← f) at h in
    let hd : List ℕ = to_le 2 (slot_len v) in
    let m : Place = past_put hd o (Ok a) in
    rw (← f, l, g, passing bs [] m) (put_then (put_self hd o (Ok a)) (put_self bs (put_at hd o (Ok a)) m) refl (rw l at h')))

put_cells_lem : (fs : List Shape) (lent : List ℕ) (vs : List Slot) (o : List ℕ) (a : ℕ) {is : List Cell} {r : List ℕ} → show_cells fs lent vs ≡ ok is r
    → a + length (cells_bytes is) ≤ length o → Put (cells_bytes is) o (Ok a) (put_cells fs lent vs o (Ok a)) (past_put_cells fs lent vs o (Ok a))
unfolding show_cells cells_bytes put_cells past_put_cells
put_cells_lem [] lent vs o a {is} e h =
    let f : [] ≡ is = cc e in rw (← f) (put_none o a (let g = rw (← f) at h in omega arith))
put_cells_lem (f ∷ fs) lent vs o a {is} e h =
    after_inv (show_cell f lent (first_slot vs)) _ e
    (λ i s e1 e2. after_inv (show_cells fs lent (other_slots vs)) _ e2
    (λ js t e3 e4.
    let g : i ∷ js ≡ is = cc e4 in
    let l = length-append (cell_bytes i) (cells_bytes js) in
    let h' : a + length (cell_bytes i ++ cells_bytes js) ≤ length o = rw (← g) at h in
    let x = cell_put f lent (first_slot vs) o a e1 (omega arith) in
    let n = put_next x (omega arith) in
    let m = put_length x in
    let y = put_cells_lem fs lent (other_slots vs) (put_cell f lent (first_slot vs) o (Ok a)) (a + length (cell_bytes i)) e3 (omega arith) in
    rw (← g) (put_then x (rw (← n) at y) refl h')))

-- they are as long as they were said to be
cell_size_lem : (f : Shape) (lent : List ℕ) (v : Slot) {i : Cell} {r : List ℕ} → show_cell f lent v ≡ ok i r → cell_size f v ≡ length (cell_bytes i)
unfolding show_cell cell_bytes string_bytes
cell_size_lem (fixed w) lent v {i} e = let f : amount w (slot_num v) ≡ i = cc e in rw (← f) (sym (length_to_le w (slot_num v)))
cell_size_lem worded lent v {i} e =
    after_inv (show_string lent (slot_start v) (slot_len v)) _ e
    (λ bs s e1 e2.
    let k = string_inv lent (slot_start v) (slot_len v) e1 in
    let f : words bs ≡ i = cc e2 in
    let l : length bs ≡ slot_len v = rw k.bytes (shown_length lent (slot_start v) (slot_len v) k.lies) in
    let n = k.small in
    rw (← f) (simp (length-append, length_to_le) (omega arith)))

pub cells_size_lem : (fs : List Shape) (lent : List ℕ) (vs : List Slot) {is : List Cell} {r : List ℕ} → show_cells fs lent vs ≡ ok is r → cells_size fs vs ≡ length (cells_bytes is)
unfolding show_cells cells_bytes
cells_size_lem [] lent vs {is} e = let f : [] ≡ is = cc e in rw (← f)
cells_size_lem (f ∷ fs) lent vs {is} e =
    after_inv (show_cell f lent (first_slot vs)) _ e
    (λ i s e1 e2. after_inv (show_cells fs lent (other_slots vs)) _ e2
    (λ js t e3 e4.
    let g : i ∷ js ≡ is = cc e4 in
    let x = cell_size_lem f lent (first_slot vs) e1 in
    let y = cells_size_lem fs lent (other_slots vs) e3 in
    rw (← g, length-append (cell_bytes i) (cells_bytes js)) (omega arith)))

box_put : (fs : List Shape) (lent : List ℕ) (v : Value) (o : List ℕ) (a : ℕ) {i : Item} {r : List ℕ} → show (boxed fs) lent v ≡ ok i r → a + length (item_bytes i) ≤ length o
    → Put (item_bytes i) o (Ok a) (put_cells (with_sizes fs) lent (sized fs (slots_of v)) o (Ok a)) (past_put_cells (with_sizes fs) lent (sized fs (slots_of v)) o (Ok a))
unfolding show item_bytes show_cells show_cell cells_bytes cell_bytes
box_put fs lent v o a {i} e h =
    after_inv (show_cells fs lent (slots_of v)) _ e
    (λ cs s e1 e2.
    let u = cond_inv (leb (2 + length (cells_bytes cs)) 65535) _ R.StatMalformed 0 e2 in
    let d = u.1 in
    let f : box cs ≡ i = cc d in
    let k = cells_size_lem fs lent (slots_of v) e1 in
    let h' : a + length (to_le 2 (2 + length (cells_bytes cs)) ++ (to_le 2 (length (cells_bytes cs)) ++ cells_bytes cs)) ≤ length o = rw (← f) at h in
    let e' : show_cells (with_sizes fs) lent (sized fs (slots_of v)) ≡ ok (amount 2 (2 + cells_size fs (slots_of v)) ∷ amount 2 (cells_size fs (slots_of v)) ∷ cs) s = rw e1 in
    rw (← f, ← k) (put_cells_lem (with_sizes fs) lent (sized fs (slots_of v)) o a e' (rw (← k) at h')))

put_field_lem : (f : Field) (lent : List ℕ) (v : Value) (o : List ℕ) (a : ℕ) {i : Item} {r : List ℕ} → Bytes lent → show f lent v ≡ ok i r → a + length (item_bytes i) ≤ length o
    → Put (item_bytes i) o (Ok a) (put_field f lent v o (Ok a)) (past_put_field f lent v o (Ok a))
unfolding put_field past_put_field
put_field_lem (num w) lent v o a {i} b e h = number_put w lent v o a e
put_field_lem str lent v o a b e h = put_after_count str lent v o a (after_count str lent v tt b e) h
put_field_lem dat lent v o a b e h = put_after_count dat lent v o a (after_count dat lent v tt b e) h
put_field_lem strs lent v o a b e h = put_after_count strs lent v o a (after_count strs lent v tt b e) h
put_field_lem quids lent v o a b e h = put_after_count quids lent v o a (after_count quids lent v tt b e) h
put_field_lem (boxed fs) lent v o a b e h = box_put fs lent v o a e h

pub put_fields_lem : (fs : Layout) (lent : List ℕ) (vs : List Value) (o : List ℕ) (a : ℕ) {is : List Item} {r : List ℕ} → Bytes lent → shows fs lent vs ≡ ok is r
    → a + length (items_bytes is) ≤ length o → Put (items_bytes is) o (Ok a) (put_fields fs lent vs o (Ok a)) (past_put_fields fs lent vs o (Ok a))
unfolding shows items_bytes put_fields past_put_fields
put_fields_lem [] lent vs o a {is} b e h =
    let f : [] ≡ is = cc e in rw (← f) (put_none o a (let g = rw (← f) at h in omega arith))
put_fields_lem (f ∷ fs) lent vs o a {is} b e h =
    after_inv (show f lent (first_of vs)) _ e
    (λ i s e1 e2. after_inv (shows fs lent (others_of vs)) _ e2
    (λ js t e3 e4.
    let g : i ∷ js ≡ is = cc e4 in
    let l = length-append (item_bytes i) (items_bytes js) in
    let h' : a + length (item_bytes i ++ items_bytes js) ≤ length o = rw (← g) at h in
    let x = put_field_lem f lent (first_of vs) o a b e1 (omega arith) in
    let n = put_next x (omega arith) in
    let m = put_length x in
    let y = put_fields_lem fs lent (others_of vs) (put_field f lent (first_of vs) o (Ok a)) (a + length (item_bytes i)) b e3 (omega arith) in
    rw (← g) (put_then x (rw (← n) at y) refl h')))
