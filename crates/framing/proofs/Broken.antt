-- What holds of the definitions in specs/Broken.antt.
use Prim.Native.Nat.{ℕ, zero, suc, ◌+◌, ◌-◌, ◌*◌, ◌≤◌, ◌<◌}
use native.Mathlib.Omega.{arith}
use Rattle.std.specs.Prelude.{◌≡◌, refl, Bool, true, false, cond, take, drop, leb}
use Rattle.std.proofs.Common.{sym, ap₂, ◌∙◌, length-append, drop-drop, take-take, take_all, length-take-le, leb-true}
use Rattle.std.proofs.Math.Path.{ap}
use mathlib.Core.List.{List, [], ◌∷◌, ◌++◌}
use Rattle.std.proofs.Math.Option.{Option, none, some}
use Rattle.std.proofs.Math.ListN.{length, length-drop}
use Rattle.std.proofs.Math.Seq.{drop-append_seam}
use Rattle.numbers.specs.Numbers.{Bytes}
use Rattle.numbers.proofs.Numbers.{bytes_take, bytes_drop}
use Rattle.numbers.specs.Reading.{Reading, ok, bad, after, raw, read_num}
use Rattle.numbers.proofs.ReadingLaws.{or_else, after_inv, took_num}
use Rattle.numbers.specs.Refusals.{number_of}
use Rattle.numbers.specs.declared.Refusal.{Refusal}
use Rattle.numbers.specs.declared.Refusal.TheVariants as R
use Rattle.utf8.specs.Utf8.{utf8, sound_start, no_zero, zero_at}
use Rattle.strings.specs.Strings.{ok_text, read_string, string_bytes}
use Rattle.strings.proofs.StringLaws.{took_string}
use Rattle.framing.proofs.Breaks.{five, six}
use Rattle.fields.specs.Layouts.{Shape, fixed, worded, Field, num, str, dat, strs, quids, boxed, Layout, Item, bytes, box, most, read_many, read_cell, read_cells, agrees, read_field, read_fields, cell_bytes, item_bytes}
use Rattle.fields.proofs.LayoutLaws.{took_cell, agreed, took_field}
use Rattle.laying.proofs.LayingLaws.{drop_take}
use Rattle.layouts.specs.Tables.{Row, lookup}
use Rattle.layouts.specs.Bodies.{refused, items_at, body_of}
use Rattle.framing.specs.Frames.{read_header, framed, read_frame}
use Rattle.framing.specs.Writing.{head_bytes}
use Rattle.framing.proofs.WritingLaws.{head_length}
use Rattle.framing.proofs.Accepted.{frame_inv, header_inv}
use Rattle.framing.specs.Broken.{OfText, Text, NotUtf8In, ZeroIn}

pub below : {k : Refusal} → OfText k → (j : Refusal) → number_of j < 5 → j ≡ k → ⊥
below t j h e = let y = ap number_of e in let l = t.low in omega arith

pub above : {k : Refusal} → OfText k → (j : Refusal) → 6 < number_of j → j ≡ k → ⊥
above t j h e = let y = ap number_of e in let l = t.high in omega arith

pub of_five : OfText R.NotUtf8
of_five = record { low = omega arith; high = omega arith }

pub of_six : OfText R.ZeroByte
of_six = record { low = omega arith; high = omega arith }

-- ---- one reader after another

-- what is refused was so by the first reader or by the next
pub bad_inv : {A B X : Type 0} {k : Refusal} {n : ℕ} (m : Reading A) (g : A → List ℕ → Reading B) → after m g ≡ bad k n → (m ≡ bad k n → X)
    → ((a : A) (r : List ℕ) → m ≡ ok a r → g a r ≡ bad k n → X) → X
bad_inv (ok a r) g e f h = h a r refl e
bad_inv {k = k} {n} (bad j i) g e f h = f (let x : j ≡ k = cc e in let y : i ≡ n = cc e in ap₂ bad x y)

pub not_bad : {A X : Type 0} {a : A} {r : List ℕ} {k : Refusal} {n : ℕ} → ok a r ≡ bad k n → X
not_bad e = absurd (let z : ◌≡◌ {A = ℕ} 0 1 = cc e in omega arith)

record Taken (m : ℕ) (xs bs r : List ℕ) : Type 0 where
  pub held : m ≤ length xs
  pub bytes : take m xs ≡ bs
  pub rest : drop m xs ≡ r

taken : (m : ℕ) (xs : List ℕ) {bs r : List ℕ} → raw m xs ≡ ok bs r → Taken m xs bs r
unfolding raw
taken m xs {bs} {r} e = go (leb m (length xs)) refl e
  where
    go : (t : Bool) → leb m (length xs) ≡ t → cond t (ok (take m xs) (drop m xs)) (bad R.Short 0) ≡ ok bs r → Taken m xs bs r
    go true h f = record { held = leb-true m (length xs) h; bytes = cc f; rest = cc f }
    go false h f = absurd (let z : ◌≡◌ {A = ℕ} 0 1 = cc f in omega arith)

raw_bad : (m : ℕ) (xs : List ℕ) {k : Refusal} {n : ℕ} → raw m xs ≡ bad k n → R.Short ≡ k
unfolding raw
raw_bad m xs {k} {n} e = go (leb m (length xs)) e
  where
    go : (t : Bool) → cond t (ok (take m xs) (drop m xs)) (bad R.Short 0) ≡ bad k n → R.Short ≡ k
    go true f = absurd (let z : ◌≡◌ {A = ℕ} 0 1 = cc f in omega arith)
    go false f = cc f

num_bad : (w : ℕ) (xs : List ℕ) {k : Refusal} {n : ℕ} → read_num w xs ≡ bad k n → R.Short ≡ k
unfolding read_num
num_bad w xs e = bad_inv (raw w xs) _ e (λ f. raw_bad w xs f) (λ bs r f g. not_bad g)

num_taken : (w : ℕ) (xs : List ℕ) {m : ℕ} {r : List ℕ} → read_num w xs ≡ ok m r → (w ≤ length xs) × (drop w xs ≡ r)
unfolding read_num
num_taken w xs {m} {r} e = after_inv (raw w xs) _ e (λ bs s f g. let t = taken w xs f in let h : s ≡ r = cc g in (t.held, t.rest ∙ h))

pub any_rest : (a : ℕ) (bs r : List ℕ) {k : Refusal} {n : ℕ} → ok_text a bs r ≡ bad k n → ok_text a bs [] ≡ bad k n
any_rest a bs r {k} {n} e = go (utf8 bs) (no_zero bs) e
  where
    go : (u z : Bool) → cond u (cond z (ok bs r) (bad R.ZeroByte (a + zero_at bs))) (bad R.NotUtf8 (a + sound_start bs)) ≡ bad k n
        → cond u (cond z (ok bs []) (bad R.ZeroByte (a + zero_at bs))) (bad R.NotUtf8 (a + sound_start bs)) ≡ bad k n
    go true true f = not_bad f
    go true false f = f
    go false z f = f

-- a text further on
pub later : {k : Refusal} {n : ℕ} (m a : ℕ) (xs : List ℕ) → m ≤ length xs → Text k n (a + m) (drop m xs) → Text k n a xs
later m a xs h t =
    let l = t.lies in
    let d = length-drop m xs in
    let e : a + m + t.off ≡ a + (m + t.off) = omega arith in
    record { off = m + t.off; len = t.len; lies = omega arith; is = rw (e, drop-drop t.off m xs) at t.is }

behind : {k : Refusal} {n : ℕ} (bs r : List ℕ) (a : ℕ) (xs : List ℕ) → xs ≡ bs ++ r → Text k n (a + length bs) r → Text k n a xs
behind bs r a xs w t =
    let l = ap length w ∙ length-append bs r in
    let q : r ≡ drop (length bs) xs = sym (ap (drop (length bs)) w ∙ drop-append_seam bs r) in
    later (length bs) a xs (omega arith) (rw q at t)

-- the part of the first size bytes is one of all
pub cut_same : (off len size : ℕ) (s : List ℕ) → off + len ≤ length (take size s) → take len (drop off (take size s)) ≡ take len (drop off s)
cut_same off len size s h =
    or_else size (length s)
    (λ l.
    let m = length-take-le size s l in
    let e : size ≡ off + (size - off) = omega arith in
    ap (λ i. take len (drop off (take i s))) e ∙ ap (take len) (drop_take off (size - off) s) ∙ take-take len (size - off) (drop off s) (omega arith))
    (λ l. ap (λ (x : List ℕ). take len (drop off x)) (take_all size s (omega arith)))

pub inside : {m : ℕ} (size : ℕ) (s : List ℕ) → m ≤ length (take size s) → m ≤ length s
inside size s h =
    or_else size (length s) (λ l. let e = length-take-le size s l in omega arith)
    (λ l. let e = ap (λ (x : List ℕ). length x) (take_all size s (omega arith)) in omega arith)

pub uncut : {k : Refusal} {n : ℕ} (size a : ℕ) (s : List ℕ) → Text k n a (take size s) → Text k n a s
uncut size a s t =
    let h = t.lies in
    record { off = t.off; len = t.len; lies = inside size s h; is = rw (cut_same t.off t.len size s h) at t.is }

-- ---- fields

short_no : {k : Refusal} {X : Type 0} → OfText k → R.Short ≡ k → X
short_no o e = absurd (below o R.Short (omega arith) e)

module _ {k : Refusal} {n : ℕ} (o : OfText k) where
  string_text : (a : ℕ) (xs : List ℕ) → read_string a xs ≡ bad k n → Text k n a xs
  unfolding read_string
  string_text a xs e =
      bad_inv (read_num 2 xs) _ e (λ f. short_no o (num_bad 2 xs f))
      (λ m r f g. bad_inv (raw m r) _ g (λ h. short_no o (raw_bad m r h))
      (λ bs t h i.
      let (x, y) = num_taken 2 xs f in
      let z = taken m r h in
      let l = z.held in
      let w = length-drop 2 xs in
      let v = ap length y in
      record { off = 2; len = m; lies = omega arith; is = rw (← z.bytes, ← y) at (any_rest (a + 2) bs t i) }))

  pub many_text : (j a : ℕ) (xs : List ℕ) → Bytes xs → read_many j a xs ≡ bad k n → Text k n a xs
  unfolding read_many
  many_text zero a xs b e = not_bad e
  many_text (suc j) a xs b e =
      bad_inv (read_string a xs) _ e (string_text a xs)
      (λ c r f g. bad_inv (read_many j (a + length (string_bytes c)) r) _ g
      (λ h. let t = took_string a xs b f in behind (string_bytes c) r a xs t.whole (many_text j (a + length (string_bytes c)) r t.rest h))
      (λ l u h i. not_bad i))

  data_no : (t : Bool) (m : ℕ) (r : List ℕ) → cond t (after (raw m r) (λ bs u. ok (bytes bs) u)) (bad R.DataTooLong 0) ≡ bad k n → ⊥
  data_no true m r e = bad_inv (raw m r) _ e (λ f. short_no o (raw_bad m r f)) (λ bs u f g. not_bad g)
  data_no false m r e = below o R.DataTooLong (omega arith) (cc e)

  few : (t : Bool) (m : Reading Item) → cond t m (bad R.TooManyElements 0) ≡ bad k n → m ≡ bad k n
  few true m e = e
  few false m e = absurd (above o R.TooManyElements (omega arith) (cc e))

  cell_text : (f : Shape) (a : ℕ) (xs : List ℕ) → read_cell f a xs ≡ bad k n → Text k n a xs
  unfolding read_cell
  cell_text (fixed w) a xs e = bad_inv (read_num w xs) _ e (λ f. short_no o (num_bad w xs f)) (λ m r f g. not_bad g)
  cell_text worded a xs e = bad_inv (read_string a xs) _ e (string_text a xs) (λ m r f g. not_bad g)

  cells_text : (fs : List Shape) (a : ℕ) (xs : List ℕ) → Bytes xs → read_cells fs a xs ≡ bad k n → Text k n a xs
  unfolding read_cells
  cells_text [] a xs b e = not_bad e
  cells_text (f ∷ fs) a xs b e =
      bad_inv (read_cell f a xs) _ e (cell_text f a xs)
      (λ i r g h. bad_inv (read_cells fs (a + length (cell_bytes i)) r) _ h
      (λ c. let t = took_cell f a xs b g in behind (cell_bytes i) r a xs t.whole (cells_text fs (a + length (cell_bytes i)) r t.rest c))
      (λ l u c v. not_bad v))

  -- a box that agrees is refused by the text of one of its strings
  box_text : (fs : List Shape) (a : ℕ) (bs u : List ℕ) → Bytes bs → cond (agrees fs bs) (after (read_cells fs (a + 4) (drop 2 bs)) (λ cs v. ok (box cs) u)) (bad R.StatMalformed 0) ≡ bad k n
      → Text k n (a + 2) bs
  box_text fs a bs u b e = go (agrees fs bs) refl e
    where
      go : (t : Bool) → agrees fs bs ≡ t → cond t (after (read_cells fs (a + 4) (drop 2 bs)) (λ cs v. ok (box cs) u)) (bad R.StatMalformed 0) ≡ bad k n → Text k n (a + 2) bs
      go true g f =
          let z : a + 4 ≡ a + 2 + 2 = omega arith in
          bad_inv (read_cells fs (a + 4) (drop 2 bs)) _ f (λ h. later 2 (a + 2) bs (agreed fs bs g).two (rw z at (cells_text fs (a + 4) (drop 2 bs) (bytes_drop 2 bs b) h))) (λ cs v h i. not_bad i)
      go false g f = absurd (above o R.StatMalformed (omega arith) (cc f))

  field_text : (f : Field) (a : ℕ) (xs : List ℕ) → Bytes xs → read_field f a xs ≡ bad k n → Text k n a xs
  unfolding read_field
  field_text (num w) a xs b e = bad_inv (read_num w xs) _ e (λ f. short_no o (num_bad w xs f)) (λ m r f g. not_bad g)
  field_text str a xs b e = bad_inv (read_string a xs) _ e (string_text a xs) (λ m r f g. not_bad g)
  field_text dat a xs b e = bad_inv (read_num 4 xs) _ e (λ f. short_no o (num_bad 4 xs f)) (λ m r f g. absurd (data_no (leb m most) m r g))
  field_text strs a xs b e =
      bad_inv (read_num 2 xs) _ e (λ f. short_no o (num_bad 2 xs f))
      (λ m r f g. bad_inv (read_many m (a + 2) r) _ (few (leb m 16) _ g)
      (λ h. let (x, y) = num_taken 2 xs f in later 2 a xs x (rw (← y) at (many_text m (a + 2) r (took_num 2 xs b f).rest h)))
      (λ l u h i. not_bad i))
  field_text quids a xs b e =
      bad_inv (read_num 2 xs) _ e (λ f. short_no o (num_bad 2 xs f))
      (λ m r f g. bad_inv (raw (13 * m) r) _ (few (leb m 16) _ g) (λ h. short_no o (raw_bad (13 * m) r h)) (λ l u h i. not_bad i))
  field_text (boxed fs) a xs b e =
      bad_inv (read_num 2 xs) _ e (λ f. short_no o (num_bad 2 xs f))
      (λ m r f g. bad_inv (raw m r) _ g (λ h. short_no o (raw_bad m r h))
      (λ bs u h i.
      let (x, y) = num_taken 2 xs f in
      let z = taken m r h in
      let c = (took_num 2 xs b f).rest in
      let v : Text k n (a + 2) bs = box_text fs a bs u (rw (← z.bytes) (bytes_take m r c)) i in
      later 2 a xs x (rw (← y) at (uncut m (a + 2) r (rw (← z.bytes) at v)))))

  pub fields_text : (fs : Layout) (a : ℕ) (xs : List ℕ) → Bytes xs → read_fields fs a xs ≡ bad k n → Text k n a xs
  unfolding read_fields
  fields_text [] a xs b e = not_bad e
  fields_text (f ∷ fs) a xs b e =
      bad_inv (read_field f a xs) _ e (field_text f a xs b)
      (λ i r g h. bad_inv (read_fields fs (a + length (item_bytes i)) r) _ h
      (λ c. let t = took_field f a xs b g in behind (item_bytes i) r a xs t.whole (fields_text fs (a + length (item_bytes i)) r t.rest c))
      (λ l u c v. not_bad v))

  -- ---- and frames

  body_text : (l : Option Layout) (ty a : ℕ) (xs : List ℕ) → Bytes xs → body_of l ty a xs ≡ refused k n → Text k n a xs
  body_text none ty a xs b e = absurd (below o R.UnknownType (omega arith) (cc e))
  body_text (some l) ty a xs b e = go (read_fields l a xs) refl e
    where
      go : (m : Reading (List Item)) → read_fields l a xs ≡ m → items_at ty a m ≡ refused k n → Text k n a xs
      go (ok is r) f g = absurd (let z : ◌≡◌ {A = ℕ} 0 1 = cc g in omega arith)
      go (bad j i) f g = let x : j ≡ k = cc g in let y : i ≡ n = cc g in fields_text l a xs b (f ∙ ap₂ bad x y)

  frame_text : (rows : List Row) (s : List ℕ) {tag : ℕ} → Bytes s → read_frame rows s ≡ framed 0 tag (refused k n) → Text k n 0 s
  unfolding read_frame
  frame_text rows s b e =
      frame_inv rows (read_header s) e
      (λ h x f g i.
      let p = header_inv s b f in
      let l = head_length p.size h.ty h.tag in
      let t = body_text (lookup rows h.ty) h.ty 7 x p.bytes i in
      let z : 7 ≡ 0 + length (head_bytes p.size h.ty h.tag) = omega arith in
      uncut p.size 0 s (behind (head_bytes p.size h.ty h.tag) x 0 (take p.size s) p.held (rw z at t)))

pub five_in : {n : ℕ} (s : List ℕ) → Text R.NotUtf8 n 0 s → NotUtf8In s n
five_in s t =
    let z : 0 + t.off ≡ t.off = omega arith in
    record { start = t.off; len = t.len; lies = t.lies; breaks = five t.off (take t.len (drop t.off s)) [] (rw z at t.is) }

pub six_in : {n : ℕ} (s : List ℕ) → Text R.ZeroByte n 0 s → ZeroIn s n
six_in s t =
    let z : 0 + t.off ≡ t.off = omega arith in
    record { start = t.off; len = t.len; lies = t.lies; breaks = six t.off (take t.len (drop t.off s)) [] (rw z at t.is) }

module _ (rows : List Row) (s : List ℕ) {tag n : ℕ} (b : Bytes s) where
  pub frame_five : read_frame rows s ≡ framed 0 tag (refused R.NotUtf8 n) → NotUtf8In s n
  frame_five e = five_in s (frame_text of_five rows s b e)

  pub frame_six : read_frame rows s ≡ framed 0 tag (refused R.ZeroByte n) → ZeroIn s n
  frame_six e = six_in s (frame_text of_six rows s b e)
