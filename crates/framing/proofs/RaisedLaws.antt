-- What holds of the definitions in specs/RaisedLaws.antt.
use Rattle.numbers.specs.Place.{Place}
use Rattle.std.specs.Prelude.{ℕ, zero, suc, ◌+◌, ◌-◌, ◌*◌, ◌≤◌, ◌≡◌, refl, Bool, true, false, cond, List, [], ◌∷◌, map, length, take, drop, leb, eqb, Ok, Err}
use Rattle.std.proofs.Common.{arith, add-zero, sym, ap₂, ◌∙◌, length-drop, length-take-le, drop-drop, le-leb}
use Rattle.std.proofs.Math.Path.{ap}
use Rattle.std.proofs.Math.Option.{Option, none, some}
use Rattle.std.proofs.lemmas.Bool.{lt-leb}
use Rattle.numbers.specs.Numbers.{Bytes}
use Rattle.numbers.proofs.Numbers.{bytes_take}
use Rattle.numbers.specs.Reading.{Reading, ok, bad, after, raw, read_num}
use Rattle.numbers.specs.Refusals.{number_of}
use Rattle.numbers.specs.Places.{Within}
use Rattle.numbers.proofs.PlaceLaws.{inside, outside}
use Rattle.numbers.specs.declared.Refusal.{Refusal}
use Rattle.numbers.specs.declared.Refusal.TheVariants as R
use Rattle.utf8.specs.Utf8.{utf8, sound_start, no_zero, zero_at}
use Rattle.strings.specs.Strings.{ok_text, read_string, string_bytes}
use Rattle.fields.specs.Layouts.{Shape, fixed, worded, Field, num, str, dat, strs, quids, boxed, Layout, Cell, amount, words, Item, number, string, bytes, strings, qids, box, most, read_many, read_cell, read_cells, agrees, read_field, read_fields, many_bytes, cell_bytes, item_bytes}
use Rattle.fields.specs.Values.{Slot, slot, text, Value, val, span, part, block, place_cell, place_cells, place, places}
use Rattle.laying.proofs.LayingLaws.{drop_take}
use Rattle.layouts.specs.Tables.{Row, lookup}
use Rattle.layouts.specs.Bodies.{Answer, accepted, refused, items_at, body_of, read_body}
use Rattle.layouts.proofs.BodyLaws.{body_is}
use Rattle.framing.specs.Frames.{Frame, headless, framed, read_frame}
use Rattle.framing.specs.Headers.{Headed}
use Rattle.framing.specs.Raising.{raise_slot, raise_value, raise_place, raise, raise_frame, read_frame_at, body_place, since, used_since, body_from}
use Rattle.framing.specs.RaisedLaws.{raised}

-- ---- raised by nothing, all is as it was

slots_zero : (l : List Slot) → map (raise_slot 0) l ≡ l
slots_zero [] = refl
slots_zero (slot n ∷ l) = ap (λ (z : List Slot). slot n ∷ z) (slots_zero l)
slots_zero (text x y ∷ l) = ap₂ (λ u (z : List Slot). text u y ∷ z) (omega arith) (slots_zero l)

value_zero : (v : Value) → raise_value 0 v ≡ v
value_zero (val n) = refl
value_zero (span x y) = ap (λ z. span z y) (omega arith)
value_zero (part c x y) = ap (λ z. part c z y) (omega arith)
value_zero (block l) = ap block (slots_zero l)

values_zero : (vs : List Value) → map (raise_value 0) vs ≡ vs
values_zero [] = refl
values_zero (v ∷ vs) = ap₂ (λ (x : Value) (y : List Value). x ∷ y) (value_zero v) (values_zero vs)

place_zero : (k : Refusal) (at : ℕ) → raise_place 0 k at ≡ at
place_zero k at = go (eqb (number_of k) 5) (eqb (number_of k) 6)
  where
    go : (t u : Bool) → cond t (0 + at) (cond u (0 + at) at) ≡ at
    go true u = omega arith
    go false true = omega arith
    go false false = refl

pub raise_zero : (a : Answer) → raise 0 a ≡ a
raise_zero (accepted ty vs used) = ap (λ x. accepted ty x used) (values_zero vs)
raise_zero (refused k at) = ap (refused k) (place_zero k at)

frame_zero : (f : Frame) → raise_frame 0 f ≡ f
frame_zero (headless k at) = refl
frame_zero (framed at tag a) = ap₂ (λ x y. framed x tag y) (omega arith) (raise_zero a)

-- a single frame has position 0, and its spans as before
pub single : (rows : List Row) (s : List ℕ) → read_frame_at rows s 0 ≡ read_frame rows s
unfolding read_frame_at
single rows s = frame_zero (read_frame rows s)

-- ---- the places that code meets

pub since_refused : (p : ℕ) {e : Place} {k : Refusal} {at : ℕ} → e ≡ Err (k, at) → e ≡ since p e
since_refused p h = rw h

pub since_at : (p : ℕ) {m n : ℕ} {e : Place} → e ≡ Ok m → n ≡ m - p → Ok n ≡ since p e
since_at p h d = rw (h, d)

module _ {p len : ℕ} {t : Bool} (w : Within p 7 len t) where
  pub body_held : t ≡ true → Ok (p + 7) ≡ body_place len p
  body_held h = rw (le-leb (p + 7) len (inside w h))

  pub body_short : t ≡ false → Err (R.Short, 0) ≡ body_place len p
  body_short h = rw (lt-leb (p + 7) len (outside w h))

-- read where the body begins, and told by the bytes used
pub from_body : (rows : List Row) (ty at : ℕ) (s : List ℕ) {q : Place} {a : Answer} → q ≡ body_place (length s) at → a ≡ read_body rows ty s q → used_since at a ≡ body_from rows ty s at
unfolding body_from
from_body rows ty at s e f = ap (used_since at) (f ∙ ap (read_body rows ty s) e)

then_raised : {A B : Type 0} (p : ℕ) (m m' : Reading A) (k k' : A → List ℕ → Reading B) → m' ≡ raised p m → ((a : A) (r : List ℕ) → k' a r ≡ raised p (k a r)) → after m' k' ≡ raised p (after m k)
then_raised p (ok a r) m' k k' e f = rw e (f a r)
then_raised p (bad j at) m' k k' e f = rw e

-- a refusal without a place, or what comes after a test
tested_raised : {A : Type 0} (p : ℕ) (t : Bool) (m m' : Reading A) (k : Refusal) → raise_place p k 0 ≡ 0 → m' ≡ raised p m → cond t m' (bad k 0) ≡ raised p (cond t m (bad k 0))
tested_raised p true m m' k z e = e
tested_raised p false m m' k z e = ap (bad k) (sym z)

raw_raised : (p w : ℕ) (xs : List ℕ) → raw w xs ≡ raised p (raw w xs)
unfolding raw
raw_raised p w xs = tested_raised p (leb w (length xs)) (ok (take w xs) (drop w xs)) (ok (take w xs) (drop w xs)) R.Short refl refl

num_raised : (p w : ℕ) (xs : List ℕ) → read_num w xs ≡ raised p (read_num w xs)
unfolding read_num
num_raised p w xs = then_raised p (raw w xs) (raw w xs) _ _ (raw_raised p w xs) (λ bs r. refl)

-- ---- strings

text_raised : (p a : ℕ) (bs r : List ℕ) → ok_text (p + a) bs r ≡ raised p (ok_text a bs r)
text_raised p a bs r = go (utf8 bs) (no_zero bs)
  where
    go : (u z : Bool) → cond u (cond z (ok bs r) (bad R.ZeroByte (p + a + zero_at bs))) (bad R.NotUtf8 (p + a + sound_start bs))
        ≡ raised p (cond u (cond z (ok bs r) (bad R.ZeroByte (a + zero_at bs))) (bad R.NotUtf8 (a + sound_start bs)))
    go true true = refl
    go true false = ap (bad R.ZeroByte) (omega arith)
    go false z = ap (bad R.NotUtf8) (omega arith)

module _ (p a : ℕ) where
  further : (n : ℕ) → p + a + n ≡ p + (a + n)
  further n = omega arith

  string_raised : (xs : List ℕ) → read_string (p + a) xs ≡ raised p (read_string a xs)
  unfolding read_string
  string_raised xs =
      then_raised p (read_num 2 xs) (read_num 2 xs) _ _ (num_raised p 2 xs)
      (λ c r. then_raised p (raw c r) (raw c r) _ _ (raw_raised p c r) (λ bs s. ap (λ x. ok_text x bs s) (further 2) ∙ text_raised p (a + 2) bs s))

many_raised : (c p a : ℕ) (xs : List ℕ) → read_many c (p + a) xs ≡ raised p (read_many c a xs)
unfolding read_many
many_raised zero p a xs = refl
many_raised (suc c) p a xs =
    then_raised p (read_string a xs) (read_string (p + a) xs) _ _ (string_raised p a xs)
    (λ b r. then_raised p (read_many c (a + length (string_bytes b)) r) (read_many c (p + a + length (string_bytes b)) r) _ _
    (ap (λ x. read_many c x r) (further p a (length (string_bytes b))) ∙ many_raised c p (a + length (string_bytes b)) r) (λ bs s. refl))

-- ---- fields

cell_raised : (f : Shape) (p a : ℕ) (xs : List ℕ) → read_cell f (p + a) xs ≡ raised p (read_cell f a xs)
unfolding read_cell
cell_raised (fixed w) p a xs = then_raised p (read_num w xs) (read_num w xs) _ _ (num_raised p w xs) (λ c r. refl)
cell_raised worded p a xs = then_raised p (read_string a xs) (read_string (p + a) xs) _ _ (string_raised p a xs) (λ c r. refl)

cells_raised : (fs : List Shape) (p a : ℕ) (xs : List ℕ) → read_cells fs (p + a) xs ≡ raised p (read_cells fs a xs)
unfolding read_cells
cells_raised [] p a xs = refl
cells_raised (f ∷ fs) p a xs =
    then_raised p (read_cell f a xs) (read_cell f (p + a) xs) _ _ (cell_raised f p a xs)
    (λ c r. then_raised p (read_cells fs (a + length (cell_bytes c)) r) (read_cells fs (p + a + length (cell_bytes c)) r) _ _
    (ap (λ x. read_cells fs x r) (further p a (length (cell_bytes c))) ∙ cells_raised fs p (a + length (cell_bytes c)) r) (λ cs s. refl))

field_raised : (f : Field) (p a : ℕ) (xs : List ℕ) → read_field f (p + a) xs ≡ raised p (read_field f a xs)
unfolding read_field
field_raised (num w) p a xs = then_raised p (read_num w xs) (read_num w xs) _ _ (num_raised p w xs) (λ c r. refl)
field_raised str p a xs = then_raised p (read_string a xs) (read_string (p + a) xs) _ _ (string_raised p a xs) (λ c r. refl)
field_raised dat p a xs =
    then_raised p (read_num 4 xs) (read_num 4 xs) _ _ (num_raised p 4 xs)
    (λ c r. tested_raised p (leb c most) (after (raw c r) (λ bs s. ok (bytes bs) s)) (after (raw c r) (λ bs s. ok (bytes bs) s)) R.DataTooLong refl
    (then_raised p (raw c r) (raw c r) _ _ (raw_raised p c r) (λ bs s. refl)))
field_raised strs p a xs =
    then_raised p (read_num 2 xs) (read_num 2 xs) _ _ (num_raised p 2 xs)
    (λ c r. tested_raised p (leb c 16) (after (read_many c (a + 2) r) (λ l s. ok (strings l) s)) (after (read_many c (p + a + 2) r) (λ l s. ok (strings l) s)) R.TooManyElements refl
    (then_raised p (read_many c (a + 2) r) (read_many c (p + a + 2) r) _ _ (ap (λ x. read_many c x r) (further p a 2) ∙ many_raised c p (a + 2) r) (λ l s. refl)))
field_raised quids p a xs =
    then_raised p (read_num 2 xs) (read_num 2 xs) _ _ (num_raised p 2 xs)
    (λ c r. tested_raised p (leb c 16) (after (raw (13 * c) r) (λ bs s. ok (qids c bs) s)) (after (raw (13 * c) r) (λ bs s. ok (qids c bs) s)) R.TooManyElements refl
    (then_raised p (raw (13 * c) r) (raw (13 * c) r) _ _ (raw_raised p (13 * c) r) (λ l s. refl)))
field_raised (boxed fs) p a xs =
    then_raised p (read_num 2 xs) (read_num 2 xs) _ _ (num_raised p 2 xs)
    (λ c r. then_raised p (raw c r) (raw c r) _ _ (raw_raised p c r)
    (λ bs s. tested_raised p (agrees fs bs) (after (read_cells fs (a + 4) (drop 2 bs)) (λ cs u. ok (box cs) s)) (after (read_cells fs (p + a + 4) (drop 2 bs)) (λ cs u. ok (box cs) s)) R.StatMalformed refl
    (then_raised p (read_cells fs (a + 4) (drop 2 bs)) (read_cells fs (p + a + 4) (drop 2 bs)) _ _ (ap (λ x. read_cells fs x (drop 2 bs)) (further p a 4) ∙ cells_raised fs p (a + 4) (drop 2 bs)) (λ cs u. refl))))

fields_raised : (fs : Layout) (p a : ℕ) (xs : List ℕ) → read_fields fs (p + a) xs ≡ raised p (read_fields fs a xs)
unfolding read_fields
fields_raised [] p a xs = refl
fields_raised (f ∷ fs) p a xs =
    then_raised p (read_field f a xs) (read_field f (p + a) xs) _ _ (field_raised f p a xs)
    (λ i r. then_raised p (read_fields fs (a + length (item_bytes i)) r) (read_fields fs (p + a + length (item_bytes i)) r) _ _
    (ap (λ x. read_fields fs x r) (further p a (length (item_bytes i))) ∙ fields_raised fs p (a + length (item_bytes i)) r) (λ is s. refl))

-- ---- where items stand

cell_placed : (p a : ℕ) (c : Cell) → place_cell (p + a) c ≡ raise_slot p (place_cell a c)
cell_placed p a (amount w n) = refl
cell_placed p a (words bs) = ap (λ x. text x (length bs)) (further p a 2)

cells_placed : (cs : List Cell) (p a : ℕ) → place_cells (p + a) cs ≡ map (raise_slot p) (place_cells a cs)
unfolding place_cells
cells_placed [] p a = refl
cells_placed (c ∷ cs) p a =
    ap₂ (λ (v : Slot) (vs : List Slot). v ∷ vs) (cell_placed p a c)
    (ap (λ x. place_cells x cs) (further p a (length (cell_bytes c))) ∙ cells_placed cs p (a + length (cell_bytes c)))

place_raised : (p a : ℕ) (i : Item) → place (p + a) i ≡ raise_value p (place a i)
place_raised p a (number w x) = refl
place_raised p a (string bs) = ap (λ x. span x (length bs)) (further p a 2)
place_raised p a (bytes bs) = ap (λ x. span x (length bs)) (further p a 4)
place_raised p a (strings l) = ap (λ x. part (length l) x (length (many_bytes l))) (further p a 2)
place_raised p a (qids c bs) = ap (λ x. part c x (length bs)) (further p a 2)
place_raised p a (box cs) = ap block (ap (λ x. place_cells x cs) (further p a 4) ∙ cells_placed cs p (a + 4))

pub places_raised : (is : List Item) (p a : ℕ) → places (p + a) is ≡ map (raise_value p) (places a is)
unfolding places
places_raised [] p a = refl
places_raised (i ∷ is) p a =
    ap₂ (λ (v : Value) (vs : List Value). v ∷ vs) (place_raised p a i)
    (ap (λ x. places x is) (further p a (length (item_bytes i))) ∙ places_raised is p (a + length (item_bytes i)))

-- ---- bodies and frames

items_raised : (ty p : ℕ) (m : Reading (List Item)) → used_since p (items_at ty (p + 7) (raised p m)) ≡ raise p (items_at ty 7 m)
items_raised ty p (ok is r) = ap₂ (λ vs n. accepted ty vs n) (places_raised is p 7) (omega arith)
items_raised ty p (bad k at) = refl

body_raised : (o : Option Layout) (ty p : ℕ) (xs : List ℕ) → used_since p (body_of o ty (p + 7) xs) ≡ raise p (body_of o ty 7 xs)
body_raised none ty p xs = refl
body_raised (some l) ty p xs = ap (λ m. used_since p (items_at ty (p + 7) m)) (fields_raised l p 7 xs) ∙ items_raised ty p (read_fields l 7 xs)

pub body_there : (rows : List Row) (ty : ℕ) (s : List ℕ) (p : ℕ) → Bytes s → p + 7 ≤ length s → body_from rows ty s p ≡ raise p (body_of (lookup rows ty) ty 7 (drop (p + 7) s))
unfolding body_from
body_there rows ty s p b h =
    rw (le-leb (p + 7) (length s) h) (ap (used_since p) (body_is rows ty s (p + 7) b h) ∙ body_raised (lookup rows ty) ty p (drop (p + 7) s))

-- after the header of the frame that stands at p
pub after_header : (p n : ℕ) (s : List ℕ) → drop (p + 7) (take (p + n) s) ≡ drop 7 (take n (drop p s))
after_header p n s = sym (drop-drop 7 p (take (p + n) s)) ∙ ap (drop 7) (drop_take p n s)

pub frame_there : (rows : List Row) (s : List ℕ) (p : ℕ) {n ty tag : ℕ} → Bytes s → p ≤ length s → Headed (drop p s) n ty tag
    → framed p tag (body_from rows ty (take (p + n) s) p) ≡ read_frame_at rows s p
unfolding read_frame_at read_frame
frame_there rows s p {n} {ty} {tag} b l h =
    let d = length-drop p s in
    let k = h.held in
    let c = h.seven in
    let z : length (take (p + n) s) ≡ p + n = length-take-le (p + n) s (omega arith) in
    rw h.reads
    (ap₂ (λ x a. framed x tag a) (sym (add-zero p))
    (body_there rows ty (take (p + n) s) p (bytes_take (p + n) s b) (omega arith) ∙ ap (λ (x : List ℕ). raise p (body_of (lookup rows ty) ty 7 x)) (after_header p n s)))
