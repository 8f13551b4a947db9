-- What holds of the definitions in specs/BoxLaws.antt.
use Rattle.numbers.specs.Place.{Place}
use Rattle.std.specs.Prelude.{ℕ, ◌+◌, ◌≤◌, cond, take, drop, Ok, Err}
use Rattle.std.proofs.Common.{arith, ap₂, ◌∙◌, length-take-le}
use Rattle.std.proofs.Math.Path.{◌≡◌, refl, sym, ap}
use mathlib.Core.List.{List, [], ◌∷◌, ◌++◌, map}
use Rattle.std.proofs.Math.ListN.{length, length-append, length-drop}
use Rattle.numbers.specs.Numbers.{Bytes}
use Rattle.numbers.proofs.Numbers.{bytes_take, bytes_drop}
use Rattle.numbers.specs.Reading.{Reading, ok, bad, after, raw, read_num}
use Rattle.numbers.specs.Places.{rest_at}
use Rattle.numbers.specs.declared.Refusal.{Refusal}
use Rattle.numbers.specs.declared.Refusal.TheVariants as R
use Rattle.strings.specs.Strings.{read_string}
use Rattle.fields.specs.Layouts.{Shape, fixed, worded, Field, boxed, Cell, amount, words, Item, number, string, box, read_cell, read_cells, agrees, read_field, read_fields, cell_bytes, cells_bytes, item_bytes, items_bytes}
use Rattle.fields.proofs.LayoutLaws.{took_cells, agreed, whole_box}
use Rattle.fields.specs.Values.{Slot, Value, block, place_cell, place_cells, place, places}
use Rattle.fields.specs.Fields.{no_slot, nothing, placed_in, value_at, past_field, FieldRead, values_at, past_fields, Fields}
use Rattle.fields.proofs.FieldLaws.{stays, fields_accepted, fields_refused}
use Rattle.fields.specs.BoxLaws.{plain_of, item_of, slot_of, Box, Opened}

same_bytes : (c : Cell) → item_bytes (item_of c) ≡ cell_bytes c
unfolding item_bytes cell_bytes
same_bytes (amount w n) = refl
same_bytes (words bs) = refl

pub plain_bytes : (cs : List Cell) → items_bytes (map item_of cs) ≡ cells_bytes cs
unfolding items_bytes cells_bytes
plain_bytes [] = refl
plain_bytes (c ∷ cs) = ap₂ (λ (x y : List ℕ). x ++ y) (same_bytes c) (plain_bytes cs)

plain_place : (a : ℕ) (c : Cell) → slot_of (place a (item_of c)) ≡ place_cell a c
plain_place a (amount w n) = refl
plain_place a (words bs) = refl

plain_places : (cs : List Cell) (a : ℕ) → map slot_of (places a (map item_of cs)) ≡ place_cells a cs
unfolding places place_cells
plain_places [] a = refl
plain_places (c ∷ cs) a =
    ap₂ (λ (x : Slot) (y : List Slot). x ∷ y) (plain_place a c) (ap (λ (b : List ℕ). map slot_of (places (a + length b) (map item_of cs))) (same_bytes c) ∙ plain_places cs (a + length (cell_bytes c)))

-- ---- read as plain ones

abbrev items_of : Reading (List Cell) → Reading (List Item)
items_of m = after m (λ cs r. ok (map item_of cs) r)

one_plain : (f : Shape) (a : ℕ) (xs : List ℕ) → read_field (plain_of f) a xs ≡ after (read_cell f a xs) (λ c r. ok (item_of c) r)
unfolding read_field read_cell
one_plain (fixed w) a xs = go (read_num w xs)
  where
    go : (m : Reading ℕ) → after m (λ n r. ok (number w n) r) ≡ after (after m (λ n r. ok (amount w n) r)) (λ c r. ok (item_of c) r)
    go (ok n r) = refl
    go (bad k at) = refl
one_plain worded a xs = go (read_string a xs)
  where
    go : (m : Reading (List ℕ)) → after m (λ bs r. ok (string bs) r) ≡ after (after m (λ bs r. ok (words bs) r)) (λ c r. ok (item_of c) r)
    go (ok bs r) = refl
    go (bad k at) = refl

plain_read : (fs : List Shape) (a : ℕ) (xs : List ℕ) → read_fields (map plain_of fs) a xs ≡ items_of (read_cells fs a xs)
unfolding read_fields read_cells
plain_read [] a xs = refl
plain_read (f ∷ fs) a xs = ap (λ m. after m (λ i r. after (read_fields (map plain_of fs) (a + length (item_bytes i)) r) (λ is s. ok (i ∷ is) s))) (one_plain f a xs) ∙ first (read_cell f a xs) (λ b r. plain_read fs b r)
  where
    others : (c : Cell) (m : Reading (List Cell)) → after (items_of m) (λ is s. ok (item_of c ∷ is) s) ≡ items_of (after m (λ cs s. ok (c ∷ cs) s))
    others c (ok cs s) = refl
    others c (bad k at) = refl

    first : (m : Reading Cell) → ((b : ℕ) (r : List ℕ) → read_fields (map plain_of fs) b r ≡ items_of (read_cells fs b r))
        → after (after m (λ c r. ok (item_of c) r)) (λ i r. after (read_fields (map plain_of fs) (a + length (item_bytes i)) r) (λ is s. ok (i ∷ is) s))
        ≡ items_of (after m (λ c r. after (read_cells fs (a + length (cell_bytes c)) r) (λ cs s. ok (c ∷ cs) s)))
    first (ok c r) ih =
        ap (λ m. after m (λ is s. ok (item_of c ∷ is) s)) (ap (λ (b : List ℕ). read_fields (map plain_of fs) (a + length b) r) (same_bytes c) ∙ ih (a + length (cell_bytes c)) r)
        ∙ others c (read_cells fs (a + length (cell_bytes c)) r)
    first (bad k at) ih = refl

-- a field whose place says that it is refused has no value
unvalued : (f : Field) (s : List ℕ) (p : Place) {k : Refusal} {at : ℕ} → past_field f s p ≡ Err (k, at) → value_at f s p ≡ nothing f
unfolding past_field value_at
unvalued f s (Err w) e = refl
unvalued f s (Ok a) {k} {at} e = go (read_field f a (drop a s)) e
  where
    go : (m : Reading Item) → rest_at (length s) m ≡ Err (k, at) → placed_in f (Ok a) m ≡ nothing f
    go (ok i r) d = absurd (let z : ◌≡◌ {A = ℕ} 0 1 = cc d in omega arith)
    go (bad j b) d = refl

-- the box's own reading, once it is open
box_is : (fs : List Shape) (s : List ℕ) {p : Place} {m end : ℕ} (B : Box fs s p m end)
    → read_field (boxed fs) B.at (drop B.at s) ≡ after (read_cells fs m (drop m (take end s))) (λ cs u. ok (box cs) B.left)
unfolding read_field
box_is fs s {m = m} {end = end} B = go (read_num 2 (drop B.at s)) B.held
  where
    go : (x : Reading ℕ) → after x (λ n r. raw n r) ≡ ok B.bytes B.left
        → after x (λ n r. after (raw n r) (λ bs t. cond (agrees fs bs) (after (read_cells fs (B.at + 4) (drop 2 bs)) (λ cs u. ok (box cs) t)) (bad R.StatMalformed 0)))
        ≡ after (read_cells fs m (drop m (take end s))) (λ cs u. ok (box cs) B.left)
    go (ok n r) e = rw (e, B.agree, B.inner, B.start)
    go (bad k at) e = absurd (let z : ◌≡◌ {A = ℕ} 0 1 = cc e in omega arith)

module _ {fs : List Shape} {s : List ℕ} {p q : Place} {end : ℕ} (O : Opened fs s p q end) {vs : List Value} {e : Place} (b : Bytes s) (F : Fields (map plain_of fs) (take end s) q vs e) where
  short : length (take end s) ≡ end
  short = length-take-le end s O.lies

  -- read through to the end
  pub box_read : {n : ℕ} → e ≡ Ok n → FieldRead (boxed fs) s p (block (map slot_of vs)) e
  unfolding value_at past_field
  box_read {n} h = start q refl
    where
      there : (m : ℕ) → q ≡ Ok m → m ≤ end → (B : Box fs s p m end) → (x : Reading (List Cell)) → read_cells fs m (drop m (take end s)) ≡ x → FieldRead (boxed fs) s p (block (map slot_of vs)) e
      there m d l B (ok cs u) f =
          let g = plain_read fs m (drop m (take end s)) ∙ ap items_of f in
          let A = fields_accepted (map plain_of fs) (take end s) m (bytes_take end s b) (rw short l) g in
          let i = box_is fs s B ∙ ap (λ z. after z (λ ds t. ok (box ds) B.left)) f in
          let t = took_cells fs m (drop m (take end s)) (bytes_drop m (take end s) (bytes_take end s b)) f in
          let w : u ≡ [] = whole_box fs B.bytes cs (agreed fs B.bytes B.agree) (rw B.inner at t) in
          let y = ap length t.whole ∙ length-append (cells_bytes cs) u ∙ ap (λ (z : List ℕ). length (cells_bytes cs) + length z) w in
          let z = length-drop m (take end s) in
          let k = ap length (plain_bytes cs) in
          let o = short in
          record {
            value = rw (B.place, i) (ap (λ (z : List Slot). block z) (ap (map slot_of) (F.values ∙ ap (values_at (map plain_of fs) (take end s)) d ∙ A.values) ∙ plain_places cs m ∙ ap (λ j. place_cells j cs) B.start));
            next = rw (B.place, i) (F.next ∙ ap (past_fields (map plain_of fs) (take end s)) d ∙ A.next ∙ ap Ok (let j = B.ends in omega arith));
          }
      there m d l B (bad k at) f =
          absurd
          (let g = fields_refused (map plain_of fs) (take end s) m (bytes_take end s b) (rw short l) (plain_read fs m (drop m (take end s)) ∙ ap items_of f) in
          let c = sym h ∙ F.next ∙ ap (past_fields (map plain_of fs) (take end s)) d ∙ g in
          let z : ◌≡◌ {A = ℕ} 0 1 = cc c in
          omega arith)

      start : (x : Place) → q ≡ x → FieldRead (boxed fs) s p (block (map slot_of vs)) e
      start (Ok m) d = let o = O.opens m d in there m d o.0 o.1 (read_cells fs m (drop m (take end s))) refl
      start (Err f) d =
          absurd (let c = sym h ∙ F.next ∙ ap (past_fields (map plain_of fs) (take end s)) d ∙ stays (map plain_of fs) (take end s) f.0 f.1 in let z : ◌≡◌ {A = ℕ} 0 1 = cc c in omega arith)

  -- refused: by its box, or by the text of a string in it
  pub box_refused : {k : Refusal} {at : ℕ} → e ≡ Err (k, at) → FieldRead (boxed fs) s p (block (map no_slot fs)) e
  unfolding past_field
  box_refused {k} {at} h =
      let r = why in
      record { value = sym (unvalued (boxed fs) s p r); next = h ∙ sym r }
    where
      there : (m : ℕ) → q ≡ Ok m → m ≤ end → (B : Box fs s p m end) → (x : Reading (List Cell)) → read_cells fs m (drop m (take end s)) ≡ x → past_field (boxed fs) s p ≡ Err (k, at)
      there m d l B (ok cs u) f =
          absurd
          (let g = fields_accepted (map plain_of fs) (take end s) m (bytes_take end s b) (rw short l) (plain_read fs m (drop m (take end s)) ∙ ap items_of f) in
          let c = sym h ∙ F.next ∙ ap (past_fields (map plain_of fs) (take end s)) d ∙ g.next in
          let z : ◌≡◌ {A = ℕ} 0 1 = cc c in
          omega arith)
      there m d l B (bad j i) f =
          let g = fields_refused (map plain_of fs) (take end s) m (bytes_take end s b) (rw short l) (plain_read fs m (drop m (take end s)) ∙ ap items_of f) in
          let c = sym h ∙ F.next ∙ ap (past_fields (map plain_of fs) (take end s)) d ∙ g in
          rw (B.place, box_is fs s B, f) (sym c)

      go : (x : Place) → q ≡ x → past_field (boxed fs) s p ≡ Err (k, at)
      go (Ok m) d = let o = O.opens m d in there m d o.0 o.1 (read_cells fs m (drop m (take end s))) refl
      go (Err f) d = O.refuses f.0 f.1 d ∙ sym (sym h ∙ F.next ∙ ap (past_fields (map plain_of fs) (take end s)) d ∙ stays (map plain_of fs) (take end s) f.0 f.1)

      why : past_field (boxed fs) s p ≡ Err (k, at)
      why = go q refl
