-- The law of prefixes (F16.3), over any tables: a frame read by a layout, and by the same layout with one more field after it.
use Rattle.std.specs.Prelude.{ℕ, ◌+◌, ◌-◌, ◌≤◌, ◌<◌, ◌≡◌, refl, take}
use Rattle.std.proofs.Common.{arith, ap₂, ◌∙◌, length-take, take_at, take-take}
use Rattle.std.proofs.Math.Path.{sym, ap}
use mathlib.Core.List.{List, [], ◌∷◌, ◌++◌, append_assoc}
use Rattle.std.proofs.Math.Option.{some}
use Rattle.std.proofs.Math.ListN.{length, length-append}
use Rattle.numbers.specs.Numbers.{Bytes, to_le, from_le}
use Rattle.numbers.proofs.Numbers.{length_to_le, from_to}
use Rattle.numbers.specs.Reading.{Reading, ok, bad, after, read_num}
use Rattle.numbers.proofs.ReadingLaws.{after_inv, raw_short}
use Rattle.numbers.specs.declared.Refusal.TheVariants as R
use Rattle.strings.specs.Strings.{read_string, string_bytes}
use Rattle.fields.specs.Layouts.{Field, num, str, Layout, Item, number, string, read_field, read_fields, item_bytes, items_bytes}
use Rattle.fields.proofs.LayoutLaws.{took_fields}
use Rattle.fields.specs.Values.{Value, val, span, place, places}
use Rattle.layouts.specs.Tables.{Row, lookup}
use Rattle.layouts.specs.Bodies.{Answer, accepted, refused, items_at, body_of}
use Rattle.framing.specs.Frames.{Header, read_header, framed, read_frame}
use Rattle.framing.specs.Writing.{head_bytes}
use Rattle.framing.proofs.WritingLaws.{head_length}
use Rattle.framing.specs.Local.{size_in}
use Rattle.framing.specs.Stretch.{tail_in}
use Rattle.framing.specs.Accepted.{Headed}
use Rattle.framing.proofs.Accepted.{frame_inv, body_inv, header_inv}

-- ---- one more field after a layout's

more_bytes : (is : List Item) (i : Item) → length (items_bytes (is ++ (i ∷ []))) ≡ length (items_bytes is) + length (item_bytes i)
unfolding items_bytes
more_bytes [] i = let l = length-append (item_bytes i) [] in omega arith
more_bytes (j ∷ is) i =
    let l = length-append (item_bytes j) (items_bytes (is ++ (i ∷ []))) in
    let m = length-append (item_bytes j) (items_bytes is) in
    let n = more_bytes is i in
    omega arith

more_places : (is : List Item) (i : Item) (a : ℕ) → places a (is ++ (i ∷ [])) ≡ places a is ++ (place (a + length (items_bytes is)) i ∷ [])
unfolding places items_bytes
more_places [] i a = ap (λ n. place n i ∷ []) (omega arith)
more_places (j ∷ is) i a =
    let l = length-append (item_bytes j) (items_bytes is) in
    ap (λ (z : List Value). place a j ∷ z) (more_places is i (a + length (item_bytes j)) ∙ ap (λ n. places (a + length (item_bytes j)) is ++ (place n i ∷ [])) (omega arith))

abbrev pub lastly : Field → ℕ → List Item → List ℕ → Reading (List Item)
lastly f n is r = after (read_field f n r) (λ i t. ok (is ++ (i ∷ [])) t)

pub more_read : (l : Layout) (f : Field) (a : ℕ) (xs : List ℕ) → read_fields (l ++ (f ∷ [])) a xs ≡ after (read_fields l a xs) (λ is r. lastly f (a + length (items_bytes is)) is r)
unfolding read_fields items_bytes
more_read [] f a xs = ap (λ n. after (read_field f n xs) (λ i t. ok (i ∷ []) t)) (omega arith)
more_read (g ∷ l) f a xs = first (read_field g a xs) (λ b r. more_read l f b r)
  where
    last : (j : Item) (is : List Item) (m : Reading Item) → after (after m (λ i t. ok (is ++ (i ∷ [])) t)) (λ js s. ok (j ∷ js) s) ≡ after m (λ i t. ok (j ∷ (is ++ (i ∷ []))) t)
    last j is (ok i t) = refl
    last j is (bad k at) = refl

    others : (j : Item) (m : Reading (List Item)) → after (after m (λ is r. lastly f (a + length (item_bytes j) + length (items_bytes is)) is r)) (λ js s. ok (j ∷ js) s)
        ≡ after (after m (λ is s. ok (j ∷ is) s)) (λ is r. lastly f (a + length (items_bytes is)) is r)
    others j (ok is r) =
        let l = length-append (item_bytes j) (items_bytes is) in
        last j is (read_field f (a + length (item_bytes j) + length (items_bytes is)) r) ∙ ap (λ n. after (read_field f n r) (λ i t. ok (j ∷ (is ++ (i ∷ []))) t)) (omega arith)
    others j (bad k at) = refl

    first : (m : Reading Item) → ((b : ℕ) (r : List ℕ) → read_fields (l ++ (f ∷ [])) b r ≡ after (read_fields l b r) (λ is t. lastly f (b + length (items_bytes is)) is t))
        → after m (λ j r. after (read_fields (l ++ (f ∷ [])) (a + length (item_bytes j)) r) (λ js s. ok (j ∷ js) s))
        ≡ after (after m (λ j r. after (read_fields l (a + length (item_bytes j)) r) (λ js s. ok (j ∷ js) s))) (λ is r. lastly f (a + length (items_bytes is)) is r)
    first (ok j r) ih =
        ap (λ m. after m (λ js s. ok (j ∷ js) s)) (ih (a + length (item_bytes j)) r)
        ∙ others j (read_fields l (a + length (item_bytes j)) r)
    first (bad k at) ih = refl

-- the answer, once the others are accepted: the last field's value after theirs, or its refusal
abbrev pub last_of : ℕ → List Value → ℕ → Reading Item → Answer
last_of ty vs n (ok i r) = accepted ty (vs ++ (place n i ∷ [])) (n + length (item_bytes i))
last_of ty vs n (bad k at) = refused k at

body_more : (l : Layout) (f : Field) (ty a : ℕ) (xs : List ℕ) {is : List Item} {r : List ℕ} → read_fields l a xs ≡ ok is r
    → body_of (some (l ++ (f ∷ []))) ty a xs ≡ last_of ty (places a is) (a + length (items_bytes is)) (read_field f (a + length (items_bytes is)) r)
body_more l f ty a xs {is} {r} e = ap (items_at ty a) (more_read l f a xs ∙ ap (λ m. after m (λ js t. lastly f (a + length (items_bytes js)) js t)) e) ∙ go (read_field f (a + length (items_bytes is)) r)
  where
    go : (m : Reading Item) → items_at ty a (after m (λ i t. ok (is ++ (i ∷ [])) t)) ≡ last_of ty (places a is) (a + length (items_bytes is)) m
    go (ok i t) = ap₂ (accepted ty) (more_places is i a) (let l = more_bytes is i in omega arith)
    go (bad k at) = refl

-- ---- frames

-- what is held of a frame, its header and the bytes after it
frame_length : (s : List ℕ) {h : Header} {d : List ℕ} (H : Headed s h d) → length (take (size_in s) s) ≡ 7 + length d
frame_length s {h} {d} H =
    let n : ℕ = H.size in
    let l : length (take n s) ≡ 7 + length d = ap length H.held ∙ length-append (head_bytes n h.ty h.tag) d ∙ ap (λ m. m + length d) (head_length n h.ty h.tag) in
    let k = length-take n s in
    let c : head_bytes n h.ty h.tag ++ d ≡ to_le 4 n ++ (to_le 1 h.ty ++ (to_le 2 h.tag ++ d)) = simp append_assoc in
    let four : take 4 s ≡ to_le 4 n = sym (take-take 4 n s (omega arith)) ∙ ap (take 4) (H.held ∙ c) ∙ take_at (to_le 4 n) _ 4 (length_to_le 4 n) in
    let e : size_in s ≡ n = ap from_le four ∙ from_to 4 n H.sized in
    ap (λ m. length (take m s)) e ∙ l

-- read by the longer layout what the shorter accepts: what is held after its fields, within the size, is for the last field
pub record Longer (rows : List Row) (f : Field) (s : List ℕ) (ty tag : ℕ) (vs : List Value) (used : ℕ) : Type 0 where
  pub left : List ℕ
  pub held : length (take (size_in s) s) ≡ used + length left
  pub answer : read_frame rows s ≡ framed 0 tag (last_of ty vs used (read_field f used left))

-- read by the shorter layout what the longer accepts: all values but the last, and that one's bytes are not used
pub record Shorter (rows : List Row) (f : Field) (s : List ℕ) (ty tag : ℕ) (ws : List Value) (used : ℕ) : Type 0 where
  pub values : List Value
  pub before : ℕ
  pub last : Item
  pub from : List ℕ
  pub rest : List ℕ
  pub reads : read_field f before from ≡ ok last rest
  pub all : ws ≡ values ++ (place before last ∷ [])
  pub uses : used ≡ before + length (item_bytes last)
  pub answer : read_frame rows s ≡ framed 0 tag (accepted ty values before)

-- a table by which the type has a layout, and another by which it has one more field
module _ (short long : List Row) (s : List ℕ) (b : Bytes s) {ty : ℕ} (l : Layout) (f : Field) (knows : lookup short ty ≡ some l) (knows' : lookup long ty ≡ some (l ++ (f ∷ []))) where
  pub read_longer : {p tag used : ℕ} {vs : List Value} → read_frame short s ≡ framed p tag (accepted ty vs used) → Longer long f s ty tag vs used
  unfolding read_frame
  read_longer {p} {tag} {used} {vs} e =
      frame_inv short (read_header s) e
      (λ h d e1 e2 e3. body_inv h.ty 7 (lookup short h.ty) d e3
      (λ m is r e4 e5 e6 e7 e8.
      let H = header_inv s b e1 in
      let q = took_fields m 7 d H.bytes e5 in
      let n = ap length q.whole ∙ length-append (items_bytes is) r in
      let g = frame_length s H in
      let j = sym e4 ∙ ap (lookup short) e6 ∙ knows in
      let k : m ≡ l = cc j in
      record {
        left = r;
        held = omega arith;
        answer = rw (e1, e6, knows', e2, e7, e8) (ap (framed 0 tag) (body_more l f ty 7 d (rw k at e5)));
      }))

  pub read_shorter : {p tag used : ℕ} {ws : List Value} → read_frame long s ≡ framed p tag (accepted ty ws used) → Shorter short f s ty tag ws used
  unfolding read_frame
  read_shorter {p} {tag} {used} {ws} e =
      frame_inv long (read_header s) e
      (λ h d e1 e2 e3. body_inv h.ty 7 (lookup long h.ty) d e3
      (λ m is r e4 e5 e6 e7 e8.
      let j = sym e4 ∙ ap (lookup long) e6 ∙ knows' in
      let k : m ≡ l ++ (f ∷ []) = cc j in
      after_inv (read_fields l 7 d) _ (sym (more_read l f 7 d) ∙ rw k at e5)
      (λ js t e9 e10. after_inv (read_field f (7 + length (items_bytes js)) t) _ e10
      (λ i u e11 e12.
      let c : js ++ (i ∷ []) ≡ is = cc e12 in
      let n = more_bytes js i in
      record {
        values = places 7 js;
        before = 7 + length (items_bytes js);
        last = i;
        from = t;
        rest = u;
        reads = e11;
        all = e7 ∙ ap (places 7) (sym c) ∙ more_places js i 7;
        uses = e8 ∙ ap (λ (z : List Item). 7 + length (items_bytes z)) (sym c) ∙ omega arith;
        answer = rw (e1, e6, knows, e2, e9);
      }))))

-- ---- one more number

number_cut : (w a : ℕ) (r : List ℕ) → length r < w → read_field (num w) a r ≡ bad R.Short 0
unfolding read_field read_num
number_cut w a r h = rw (raw_short w r h)

-- a frame that was read so, with all values but a number of w bytes, which are w bytes more of tail
pub record Fewer (rows : List Row) (w : ℕ) (s : List ℕ) (ty tag : ℕ) (ws : List Value) (used : ℕ) : Type 0 where
  pub values : List Value
  pub number : ℕ
  pub before : ℕ
  pub all : ws ≡ values ++ (val number ∷ [])
  pub uses : used ≡ before + w
  pub tail : (size : ℕ) → used ≤ size → tail_in size (accepted ty values before) ≡ tail_in size (accepted ty ws used) + w
  pub answer : read_frame rows s ≡ framed 0 tag (accepted ty values before)

module _ (short long : List Row) (s : List ℕ) (b : Bytes s) {ty : ℕ} (l : Layout) (w : ℕ) (knows : lookup short ty ≡ some l) (knows' : lookup long ty ≡ some (l ++ (num w ∷ []))) where
  -- with a tail of fewer than w bytes, or none, it is short
  pub number_short : {p tag used : ℕ} {vs : List Value} → read_frame short s ≡ framed p tag (accepted ty vs used) → length (take (size_in s) s) < used + w → read_frame long s ≡ framed 0 tag (refused R.Short 0)
  number_short {p} {tag} {used} {vs} e h =
      let L = read_longer short long s b l (num w) knows knows' e in
      let i = L.held in
      L.answer ∙ ap (λ m. framed 0 tag (last_of ty vs used m)) (number_cut w used L.left (omega arith))

  pub number_fewer : {p tag used : ℕ} {ws : List Value} → read_frame long s ≡ framed p tag (accepted ty ws used) → Fewer short w s ty tag ws used
  unfolding read_field item_bytes
  number_fewer {p} {tag} {used} {ws} e =
      let S = read_shorter short long s b l (num w) knows knows' e in
      after_inv (read_num w S.from) _ S.reads
      (λ x r e1 e2.
      let i : number w x ≡ S.last = cc e2 in
      let n = S.uses ∙ ap (λ z. S.before + length (item_bytes z)) (sym i) ∙ ap (λ m. S.before + m) (length_to_le w x) in
      record {
        values = S.values;
        number = x;
        before = S.before;
        all = S.all ∙ ap (λ z. S.values ++ (place S.before z ∷ [])) (sym i);
        uses = n;
        tail = λ size h. omega arith;
        answer = S.answer;
      })

-- ---- one more string

string_cut : (a : ℕ) (r : List ℕ) → length r < 2 → read_field str a r ≡ bad R.Short 0
unfolding read_field read_string read_num
string_cut a r h = rw (raw_short 2 r h)

-- the same of a string, whose count and bytes are more of tail
pub record Without (rows : List Row) (s : List ℕ) (ty tag : ℕ) (ws : List Value) (used : ℕ) : Type 0 where
  pub values : List Value
  pub len : ℕ
  pub before : ℕ
  pub all : ws ≡ values ++ (span (before + 2) len ∷ [])
  pub uses : used ≡ before + (2 + len)
  pub tail : (size : ℕ) → used ≤ size → tail_in size (accepted ty values before) ≡ tail_in size (accepted ty ws used) + (2 + len)
  pub answer : read_frame rows s ≡ framed 0 tag (accepted ty values before)

module _ (short long : List Row) (s : List ℕ) (b : Bytes s) {ty : ℕ} (l : Layout) (knows : lookup short ty ≡ some l) (knows' : lookup long ty ≡ some (l ++ (str ∷ []))) where
  -- with a tail of one byte, or none, not even its count is there
  pub string_short : {p tag used : ℕ} {vs : List Value} → read_frame short s ≡ framed p tag (accepted ty vs used) → length (take (size_in s) s) < used + 2 → read_frame long s ≡ framed 0 tag (refused R.Short 0)
  string_short {p} {tag} {used} {vs} e h =
      let L = read_longer short long s b l str knows knows' e in
      let i = L.held in
      L.answer ∙ ap (λ m. framed 0 tag (last_of ty vs used m)) (string_cut used L.left (omega arith))

  pub string_without : {p tag used : ℕ} {ws : List Value} → read_frame long s ≡ framed p tag (accepted ty ws used) → Without short s ty tag ws used
  unfolding read_field item_bytes string_bytes
  string_without {p} {tag} {used} {ws} e =
      let S = read_shorter short long s b l str knows knows' e in
      after_inv (read_string S.before S.from) _ S.reads
      (λ bs r e1 e2.
      let i : string bs ≡ S.last = cc e2 in
      let m = length-append (to_le 2 (length bs)) bs in
      let k = length_to_le 2 (length bs) in
      let n = S.uses ∙ ap (λ z. S.before + length (item_bytes z)) (sym i) in
      record {
        values = S.values;
        len = length bs;
        before = S.before;
        all = S.all ∙ ap (λ z. S.values ++ (place S.before z ∷ [])) (sym i);
        uses = omega arith;
        tail = λ size h. omega arith;
        answer = S.answer;
      })
