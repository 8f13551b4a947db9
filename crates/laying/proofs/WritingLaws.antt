-- A layout that is measured, settled and put is written as the definition says: once over any layout.
use Rattle.numbers.specs.Place.{Place}
use Rattle.std.specs.Prelude.{ℕ, ◌+◌, ◌≤◌, ◌<◌, min, ◌≡◌, refl, Bool, true, false, cond, List, [], ◌∷◌, ltb, Ok, Err}
use Rattle.std.proofs.Common.{arith, sym, ap, ◌∙◌, length-append}
use Rattle.std.proofs.Math.ListN.{length}
use borrow.Author.Tests.{le-leb, lt-leb, lt-ltb, le-ltb}
use Rattle.numbers.specs.Numbers.{Bytes, to_le}
use Rattle.numbers.specs.Reading.{Reading, ok, bad, after}
use Rattle.numbers.proofs.ReadingLaws.{or_else, after_inv}
use Rattle.numbers.specs.Places.{put_at, past_put, Put}
use Rattle.numbers.proofs.PlaceLaws.{one_answer, length_put}
use Rattle.numbers.specs.declared.Refusal.{Refusal}
use Rattle.numbers.specs.declared.Refusal.TheVariants as R
use Rattle.strings.specs.Spans.{SpanPut}
use Rattle.fields.proofs.FieldLaws.{others_bad}
use Rattle.fields.specs.Layouts.{Shape, fixed, worded, Field, num, str, dat, strs, quids, boxed, Layout, Item, item_bytes, items_bytes}
use Rattle.fields.specs.Values.{Slot, first_slot, other_slots, slots_of, Value, start_of, len_of, show, first_of, others_of, shows}
use Rattle.laying.specs.Laying.{limit, check_field, check_fields, put_fields, past_put_fields, head_width, head_of, FieldMeasured, Measured, PutAll, written_out, Written, settled_at, Settled, begun_at, Begun, put_cell, past_put_cell, put_cells, past_put_cells, with_sizes, sized, put_field, past_put_field}
use Rattle.laying.specs.LayingLaws.{Unless}
use Rattle.laying.proofs.LayingLaws.{put_fields_lem, measured_none, measure, put_done, put_counted}

pub written_one : {fs : Layout} {lent o o1 o2 : List ℕ} {vs : List Value} {p q q' : Place} → Written fs lent vs o p o1 q → Written fs lent vs o p o2 q' → (o1 ≡ o2) × (q ≡ q')
written_one a b = (one_answer a.bytes b.bytes, one_answer a.next b.next)

-- ---- what measuring finds

-- a place that is exact below the limit, and past it where the sum is
record Reaches (e : Place) (sum : ℕ) : Type 0 where
  pub at : ℕ
  pub is : e ≡ Ok at
  pub exact : at < limit → at ≡ sum
  pub over : limit ≤ at → limit ≤ sum

pub check_passed : (f : Field) (lent : List ℕ) (v : Value) (a : ℕ) {i : Item} {r : List ℕ} → show f lent v ≡ ok i r
    → check_field f lent v (Ok a) ≡ Ok (min (a + length (item_bytes i)) limit)
unfolding check_field
check_passed f lent v a e = rw e

check_failed : (f : Field) (lent : List ℕ) (v : Value) (a : ℕ) {k : Refusal} {at : ℕ} → show f lent v ≡ bad k at → check_field f lent v (Ok a) ≡ Err (k, at)
unfolding check_field
check_failed f lent v a e = rw e

pub stays : (fs : Layout) (lent : List ℕ) (vs : List Value) (k : Refusal) (n : ℕ) → check_fields fs lent vs (Err (k, n)) ≡ Err (k, n)
unfolding check_fields check_field
stays [] lent vs k n = refl
stays (f ∷ fs) lent vs k n = stays fs lent (others_of vs) k n

reaches : (fs : Layout) (lent : List ℕ) (vs : List Value) (a : ℕ) {is : List Item} {r : List ℕ} → shows fs lent vs ≡ ok is r
    → Reaches (check_fields fs lent vs (Ok a)) (a + length (items_bytes is))
unfolding shows items_bytes check_fields
reaches [] lent vs a {is} e =
    let f : [] ≡ is = cc e in rw (← f) (record { at = a; is = refl; exact = λ h. omega arith; over = λ h. omega arith })
reaches (f ∷ fs) lent vs a {is} e =
    after_inv (show f lent (first_of vs)) _ e
    (λ i s e1 e2. after_inv (shows fs lent (others_of vs)) _ e2
    (λ js t e3 e4.
    let g : i ∷ js ≡ is = cc e4 in
    let l = length-append (item_bytes i) (items_bytes js) in
    let m = reaches fs lent (others_of vs) (min (a + length (item_bytes i)) limit) e3 in
    rw (← g, check_passed f lent (first_of vs) a e1)
    (record {
      at = m.at;
      is = m.is;
      exact = λ h. (let k = m.exact h in omega arith);
      over = λ h. (let k = m.over h in omega arith);
    })))

pub failed : (fs : Layout) (lent : List ℕ) (vs : List Value) (a : ℕ) {k : Refusal} {at : ℕ} → shows fs lent vs ≡ bad k at → check_fields fs lent vs (Ok a) ≡ Err (k, at)
unfolding shows check_fields
failed [] lent vs a e = absurd (let z : ◌≡◌ {A = ℕ} 0 1 = cc e in omega arith)
failed (f ∷ fs) lent vs a {k} {at} e = go (show f lent (first_of vs)) refl e (λ n c. failed fs lent (others_of vs) n c)
  where
    go : (m : Reading Item) → show f lent (first_of vs) ≡ m → after m (λ i r. after (shows fs lent (others_of vs)) (λ is u. ok (i ∷ is) u)) ≡ bad k at
        → ((n : ℕ) → shows fs lent (others_of vs) ≡ bad k at → check_fields fs lent (others_of vs) (Ok n) ≡ Err (k, at))
        → check_fields fs lent (others_of vs) (check_field f lent (first_of vs) (Ok a)) ≡ Err (k, at)
    go (ok i t) d c ih = rw (check_passed f lent (first_of vs) a d) (ih (min (a + length (item_bytes i)) limit) (others_bad i (shows fs lent (others_of vs)) c))
    go (bad j b) d c ih = let g : j ≡ k = cc c in let l : b ≡ at = cc c in rw (check_failed f lent (first_of vs) a d, g, l) (stays fs lent (others_of vs) k at)

-- ---- and what is written

module _ (fs : Layout) (lent : List ℕ) (vs : List Value) (o : List ℕ) (a : ℕ) {is : List Item} {r : List ℕ} (m : shows fs lent vs ≡ ok is r) where
  over_limit : limit ≤ a + length (items_bytes is) → Written fs lent vs o (Ok a) o (Err (R.FrameTooLong, 0))
  over_limit h = let f = le-ltb (a + length (items_bytes is)) limit h in record { bytes = rw (m, f); next = rw (m, f) }

  no_room : a + length (items_bytes is) < limit → length o < a + length (items_bytes is) → Written fs lent vs o (Ok a) o (Err (R.NoRoom, 0))
  unfolding put_at past_put
  no_room h k =
      let f = lt-ltb (a + length (items_bytes is)) limit h in
      let g = lt-leb (a + length (items_bytes is)) (length o) k in
      record { bytes = rw (m, f, g); next = rw (m, f, g) }

  in_place : Bytes lent → a + length (items_bytes is) < limit → a + length (items_bytes is) ≤ length o
      → Written fs lent vs o (Ok a) (put_fields fs lent vs o (Ok a)) (past_put_fields fs lent vs o (Ok a))
  in_place b h k =
      let f = lt-ltb (a + length (items_bytes is)) limit h in
      let g = put_fields_lem fs lent vs o a b m k in
      record { bytes = rw (m, f) g.bytes; next = rw (m, f) g.next }

settled_over : (n l : ℕ) {q : Place} → q ≡ settled_at (Ok n) l → limit ≤ n → q ≡ Err (R.FrameTooLong, 0)
settled_over n l s h = s ∙ rw (le-ltb n limit h)

settled_full : (n l : ℕ) {q : Place} → q ≡ settled_at (Ok n) l → n < limit → l < n → q ≡ Err (R.NoRoom, 0)
settled_full n l s h k = s ∙ rw (lt-ltb n limit h, lt-leb n l k)

settled_fits : (n l : ℕ) {q : Place} → q ≡ settled_at (Ok n) l → n < limit → n ≤ l → q ≡ Ok n
settled_fits n l s h k = s ∙ rw (lt-ltb n limit h, le-leb n l k)

clash : {k : Refusal} {at : ℕ} {n : ℕ} {q : Place} → q ≡ Err (k, at) → q ≡ Ok n → ⊥
clash e f = let d = sym e ∙ f in let z : ◌≡◌ {A = ℕ} 0 1 = cc d in omega arith

-- refused once measured: the output is as it was
written_not : {fs : Layout} {lent o : List ℕ} {vs : List Value} {p e q : Place} {k : Refusal} {i : ℕ} → Measured fs lent vs p e → Settled e (length o) q → q ≡ Err (k, i)
    → Written fs lent vs o p o q
written_not {fs} {lent} {o} {vs} {p} {e} {q} {k} {i} c s h = go p (s.is ∙ ap (λ x. settled_at x (length o)) c.is)
  where
    at : (a : ℕ) → q ≡ settled_at (check_fields fs lent vs (Ok a)) (length o) → (m : Reading (List Item)) → shows fs lent vs ≡ m → Written fs lent vs o (Ok a) o q
    at a d (bad j b) m = record { bytes = rw m; next = d ∙ rw (failed fs lent vs a m, m) }
    at a d (ok is r) m =
        let w = reaches fs lent vs a m in
        let g = d ∙ ap (λ x. settled_at x (length o)) w.is in
        or_else limit w.at (λ l. rw (settled_over w.at (length o) g l) (over_limit fs lent vs o a m (w.over l)))
        (λ l.
        let x = w.exact l in
        or_else w.at (length o) (λ n. absurd (clash h (settled_fits w.at (length o) g l n)))
        (λ n. rw (settled_full w.at (length o) g l n) (no_room fs lent vs o a m (omega arith) (omega arith))))

    go : (p' : Place) → q ≡ settled_at (check_fields fs lent vs p') (length o) → Written fs lent vs o p' o q
    go (Err f) d = record { bytes = refl; next = d ∙ rw (stays fs lent vs f.0 f.1) }
    go (Ok a) d = at a d (shows fs lent vs) refl

-- settled, and put
written_put : {fs : Layout} {lent o o2 : List ℕ} {vs : List Value} {p e q r : Place} {n : ℕ} → Bytes lent → Measured fs lent vs p e → Settled e (length o) q → q ≡ Ok n
    → PutAll fs lent vs o p o2 r → Written fs lent vs o p o2 r
written_put {fs} {lent} {o} {o2} {vs} {p} {e} {q} {r} {n} b c s h l =
    rw (l.bytes, l.next) (go p (s.is ∙ ap (λ x. settled_at x (length o)) c.is))
  where
    at : (a : ℕ) → q ≡ settled_at (check_fields fs lent vs (Ok a)) (length o) → (m : Reading (List Item)) → shows fs lent vs ≡ m
        → Written fs lent vs o (Ok a) (put_fields fs lent vs o (Ok a)) (past_put_fields fs lent vs o (Ok a))
    at a d (bad j x) m = absurd (clash {k = j} {at = x} (d ∙ rw (failed fs lent vs a m)) h)
    at a d (ok is r) m =
        let w = reaches fs lent vs a m in
        let g = d ∙ ap (λ x. settled_at x (length o)) w.is in
        or_else limit w.at (λ l. absurd (clash (settled_over w.at (length o) g l) h))
        (λ l.
        let x = w.exact l in
        or_else w.at (length o) (λ n. in_place fs lent vs o a m b (omega arith) (omega arith)) (λ n. absurd (clash (settled_full w.at (length o) g l n) h)))

    go : (p' : Place) → q ≡ settled_at (check_fields fs lent vs p') (length o) → Written fs lent vs o p' (put_fields fs lent vs o p') (past_put_fields fs lent vs o p')
    go (Err f) d = absurd (clash {k = f.0} {at = f.1} (d ∙ rw (stays fs lent vs f.0 f.1)) h)
    go (Ok a) d = at a d (shows fs lent vs) refl

-- ---- both

cell_stays : (f : Shape) (lent : List ℕ) (v : Slot) (o : List ℕ) (k : Refusal) (n : ℕ) → (put_cell f lent v o (Err (k, n)) ≡ o) × (past_put_cell f lent v o (Err (k, n)) ≡ Err (k, n))
unfolding put_cell past_put_cell put_at past_put
cell_stays (fixed w) lent v o k n = (refl, refl)
cell_stays worded lent v o k n = (refl, refl)

cells_stay : (fs : List Shape) (lent : List ℕ) (vs : List Slot) (o : List ℕ) (k : Refusal) (n : ℕ) → (put_cells fs lent vs o (Err (k, n)) ≡ o) × (past_put_cells fs lent vs o (Err (k, n)) ≡ Err (k, n))
unfolding put_cells past_put_cells
cells_stay [] lent vs o k n = (refl, refl)
cells_stay (f ∷ fs) lent vs o k n = let c = cell_stays f lent (first_slot vs) o k n in rw (c.0, c.1) (cells_stay fs lent (other_slots vs) o k n)

put_stays_out : (f : Field) (lent : List ℕ) (v : Value) (o : List ℕ) (k : Refusal) (n : ℕ) → put_field f lent v o (Err (k, n)) ≡ o
unfolding put_field put_at past_put
put_stays_out (num w) lent v o k n = refl
put_stays_out str lent v o k n = refl
put_stays_out dat lent v o k n = refl
put_stays_out strs lent v o k n = refl
put_stays_out quids lent v o k n = refl
put_stays_out (boxed fs) lent v o k n = (cells_stay (with_sizes fs) lent (sized fs (slots_of v)) o k n).0

put_stays_refused : (f : Field) (lent : List ℕ) (v : Value) (o : List ℕ) (k : Refusal) (n : ℕ) → past_put_field f lent v o (Err (k, n)) ≡ Err (k, n)
unfolding past_put_field put_at past_put
put_stays_refused (num w) lent v o k n = refl
put_stays_refused str lent v o k n = refl
put_stays_refused dat lent v o k n = refl
put_stays_refused strs lent v o k n = refl
put_stays_refused quids lent v o k n = refl
put_stays_refused (boxed fs) lent v o k n = (cells_stay (with_sizes fs) lent (sized fs (slots_of v)) o k n).1

-- at a refused place nothing is put
nothing_put : (fs : Layout) (lent : List ℕ) (vs : List Value) (o : List ℕ) (k : Refusal) (n : ℕ) → (put_fields fs lent vs o (Err (k, n)) ≡ o) × (past_put_fields fs lent vs o (Err (k, n)) ≡ Err (k, n))
unfolding put_fields past_put_fields
nothing_put [] lent vs o k n = (refl, refl)
nothing_put (f ∷ fs) lent vs o k n =
    rw (put_stays_out f lent (first_of vs) o k n, put_stays_refused f lent (first_of vs) o k n) (nothing_put fs lent (others_of vs) o k n)

-- put from where measuring lets it begin
pub written : {fs : Layout} {lent o o2 : List ℕ} {vs : List Value} {p e q r : Place} → Bytes lent → Measured fs lent vs p e → Begun p e (length o) q → PutAll fs lent vs o q o2 r
    → Written fs lent vs o p o2 r
written {fs} {lent} {o} {o2} {vs} {p} {e} {q} {r} b c s l = go (settled_at e (length o)) refl
  where
    go : (x : Place) → settled_at e (length o) ≡ x → Written fs lent vs o p o2 r
    go (Ok n) f = let g : q ≡ p = s.is ∙ ap (begun_at p) f in written_put b c (record { is = sym f }) refl (rw g at l)
    go (Err e) f =
        let g : q ≡ Err e = s.is ∙ ap (begun_at p) f in
        let h : PutAll fs lent vs o (Err e) o2 r = rw g at l in
        let n = nothing_put fs lent vs o e.0 e.1 in
        rw (h.bytes ∙ n.0, h.next ∙ n.1) (written_not c (record { is = sym f }) refl)

-- the output keeps its length
pub written_length : {fs : Layout} {lent o o' : List ℕ} {vs : List Value} {p q : Place} → Written fs lent vs o p o' q → length o' ≡ length o
written_length {fs} {lent} {o} {o'} {vs} {p} w = ap length w.bytes ∙ go (shows fs lent vs) p
  where
    kept : (b : Bool) (bs : List ℕ) (a : ℕ) → length (cond b (put_at bs o (Ok a)) o) ≡ length o
    kept true bs a = length_put bs o (Ok a)
    kept false bs a = refl

    go : (m : Reading (List Item)) (p' : Place) → length (written_out m o p') ≡ length o
    go m (Err f) = refl
    go (bad k at) (Ok a) = refl
    go (ok is r) (Ok a) = kept (ltb (a + length (items_bytes is)) limit) (items_bytes is) a

-- of no fields there is nothing to put, but the place must be one
pub written_nothing : {lent o : List ℕ} {p q : Place} → Begun p p (length o) q → Written [] lent [] o p o q
unfolding shows
written_nothing s =
    let w = written {lent = []} {vs = []} tt measured_none s put_done in record { bytes = w.bytes; next = w.next }

-- one field of a count and bytes
pub counted_written : (f : Field) {lent o o1 o2 : List ℕ} {v : Value} {p e q r z : Place} → Unless f → Bytes lent → FieldMeasured f lent v p e → Begun p e (length o) q
    → Put (to_le (head_width f) (head_of f v)) o q o1 r → SpanPut lent (start_of v) (len_of v) o1 r o2 z → Written (f ∷ []) lent (v ∷ []) o p o2 z
counted_written f u b m s a c = written b (measure m measured_none) s (put_counted f u a c put_done)
