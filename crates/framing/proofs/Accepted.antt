-- What holds of the definitions in specs/Accepted.antt.
use Rattle.std.specs.Prelude.{ℕ, ◌+◌, ◌-◌, ◌^◌, ◌<◌, ◌≡◌, refl, Bool, true, false, cond, List, ◌++◌, length, take, ltb}
use Rattle.std.proofs.Common.{arith, sym, ap, ◌∙◌, append_assoc, length-append, take_at, le-ltb, ltb-false}
use Rattle.std.proofs.Math.Option.{Option, none, some}
use Rattle.std.proofs.Math.Seq.{take-append-add}
use Rattle.numbers.specs.Numbers.{Bytes, to_le}
use Rattle.numbers.proofs.Numbers.{length_to_le, bytes_take}
use Rattle.numbers.specs.Reading.{Reading, ok, bad, read_num}
use Rattle.numbers.proofs.ReadingLaws.{after_inv, reads_num, took_num}
use Rattle.numbers.specs.declared.Refusal.{Refusal}
use Rattle.numbers.specs.declared.Refusal.TheVariants as R
use Rattle.fields.specs.Layouts.{Layout, Item, read_fields, items_bytes}
use Rattle.fields.proofs.LayoutLaws.{reads_fields, took_fields}
use Rattle.fields.specs.Values.{Value, places}
use Rattle.layouts.specs.Tables.{Row, lookup}
use Rattle.layouts.specs.Bodies.{Answer, accepted, items_at, body_of}
use Rattle.framing.specs.Frames.{Header, read_type_tag, read_header, framed, frame_of, read_frame}
use Rattle.framing.specs.Writing.{head_bytes}
use Rattle.framing.specs.Accepted.{Stands, Accepts, Headed}

-- ---- read after write: bytes y after the fields, inside the size, and bytes z after the frame alter nothing

pub reads_header : (size ty tag : ℕ) (b z : List ℕ) → size < 256 ^ 4 → ty < 256 ^ 1 → tag < 256 ^ 2 → 7 + length b ≡ size
    → read_header (head_bytes size ty tag ++ b ++ z) ≡ ok (record { ty = ty; tag = tag }) b
unfolding read_header read_type_tag
reads_header size ty tag b z s t g e =
    let c : List ℕ = to_le 1 ty ++ (to_le 2 tag ++ b) in
    let l : length c ≡ size - 4 = simp (length-append, length_to_le) (omega arith) in
    let h : head_bytes size ty tag ++ b ++ z ≡ to_le 4 size ++ (c ++ z) = simp append_assoc in
    rw (h, (reads_num 4 size s).back (c ++ z), le-ltb size 4 (omega arith), take_at c z (size - 4) l)
    (rw ((reads_num 1 ty t).back (to_le 2 tag ++ b), (reads_num 2 tag g).back b))

pub reads_frame : (rows : List Row) (size ty tag : ℕ) (is : List Item) (y z : List ℕ) → Stands rows size ty tag is → 7 + length (items_bytes is ++ y) ≡ size
    → read_frame rows (head_bytes size ty tag ++ (items_bytes is ++ y) ++ z) ≡ framed 0 tag (accepted ty (places 7 is) (7 + length (items_bytes is)))
unfolding read_frame
reads_frame rows size ty tag is y z w e =
    rw (reads_header size ty tag (items_bytes is ++ y) z w.sized w.typed w.tagged e, w.known, (reads_fields 7 is w.goods).back y)

pub frame_inv : {X : Type 0} (rows : List Row) {p tag : ℕ} {a : Answer} (m : Reading Header) → frame_of rows m ≡ framed p tag a
    → ((h : Header) (d : List ℕ) → m ≡ ok h d → h.tag ≡ tag → body_of (lookup rows h.ty) h.ty 7 d ≡ a → X) → X
frame_inv rows (ok h d) e f = f h d refl (cc e) (cc e)
frame_inv rows (bad k at) e f = absurd (let z : ◌≡◌ {A = ℕ} 0 1 = cc e in omega arith)

-- a single frame has position 0
pub at_front : (rows : List Row) (s : List ℕ) {p tag : ℕ} {a : Answer} → read_frame rows s ≡ framed p tag a → p ≡ 0
unfolding read_frame
at_front rows s {p} {tag} {a} e = go (read_header s) e
  where
    go : (m : Reading Header) → frame_of rows m ≡ framed p tag a → p ≡ 0
    go (ok h d) f = let g : 0 ≡ p = cc f in omega arith
    go (bad k at) f = absurd (let z : ◌≡◌ {A = ℕ} 0 1 = cc f in omega arith)

items_inv : {X : Type 0} (ty a : ℕ) {ty' used : ℕ} {vs : List Value} (m : Reading (List Item)) → items_at ty a m ≡ accepted ty' vs used
    → ((is : List Item) (r : List ℕ) → m ≡ ok is r → ty ≡ ty' → vs ≡ places a is → used ≡ a + length (items_bytes is) → X) → X
items_inv ty a (ok is r) e f = f is r refl (cc e) (cc e) (cc e)
items_inv ty a (bad k at) e f = absurd (let z : ◌≡◌ {A = ℕ} 0 1 = cc e in omega arith)

pub body_inv : {X : Type 0} (ty a : ℕ) {ty' used : ℕ} {vs : List Value} (o : Option Layout) (d : List ℕ) → body_of o ty a d ≡ accepted ty' vs used
    → ((l : Layout) (is : List Item) (r : List ℕ) → o ≡ some l → read_fields l a d ≡ ok is r → ty ≡ ty' → vs ≡ places a is → used ≡ a + length (items_bytes is) → X) → X
body_inv ty a none d e f = absurd (let z : ◌≡◌ {A = ℕ} 0 1 = cc e in omega arith)
body_inv ty a (some l) d e f = items_inv ty a (read_fields l a d) e (λ is r e1 e2 e3 e4. f l is r refl e1 e2 e3 e4)

cond_no : {A : Type 0} (t : Bool) (n : Refusal) (m : Reading A) {a : A} {r : List ℕ} → cond t (bad n 0) m ≡ ok a r → (t ≡ false) × (m ≡ ok a r)
cond_no true n m e = absurd (let z : ◌≡◌ {A = ℕ} 0 1 = cc e in omega arith)
cond_no false n m e = (refl, e)

pub header_inv : (s : List ℕ) {h : Header} {d : List ℕ} → Bytes s → read_header s ≡ ok h d → Headed s h d
unfolding read_header read_type_tag
header_inv s {h} {d} b e =
    after_inv (read_num 4 s) _ e
    (λ size r e1 e2.
    let p = took_num 4 s b e1 in
    let c = cond_no (ltb size 4) R.SizeBelowFour _ e2 in
    let four = ltb-false size 4 c.0 in
    after_inv (read_num 1 (take (size - 4) r)) _ c.1
    (λ ty t e3 e4. after_inv (read_num 2 t) _ e4
    (λ tag u e5 e6.
    let p1 = took_num 1 (take (size - 4) r) (bytes_take (size - 4) r p.rest) e3 in
    let p2 = took_num 2 t p1.rest e5 in
    let f : ◌≡◌ {A = Header} (record { ty = ty; tag = tag }) h = cc e6 in
    let eu : u ≡ d = cc e6 in
    let ety : ty ≡ h.ty = ap (λ x. x.ty) f in
    let etag : tag ≡ h.tag = ap (λ x. x.tag) f in
    let n : size ≡ length (to_le 4 size) + (size - 4) = (let l = length_to_le 4 size in omega arith) in
    record {
      size = size;
      sized = p.good;
      typed = rw ety at p1.good;
      tagged = rw etag at p2.good;
      bytes = rw eu at p2.rest;
      held =
          ap (take size) p.whole ∙ ap (λ k. take k (to_le 4 size ++ r)) n ∙ take-append-add (to_le 4 size) r (size - 4)
          ∙ ap (λ (x : List ℕ). to_le 4 size ++ x) (p1.whole ∙ ap (λ (x : List ℕ). to_le 1 ty ++ x) p2.whole)
          ∙ rw (ety, etag, eu) (simp append_assoc);
    })))

pub accepts : (rows : List Row) (s : List ℕ) {p ty tag used : ℕ} {vs : List Value} → Bytes s → read_frame rows s ≡ framed p tag (accepted ty vs used) → Accepts rows s ty tag vs used
unfolding read_frame
accepts rows s {p} {ty} {tag} {used} {vs} b e =
    frame_inv rows (read_header s) e
    (λ h d e1 e2 e3. body_inv h.ty 7 (lookup rows h.ty) d e3
    (λ l is r e4 e5 e6 e7 e8.
    let y = header_inv s b e1 in
    let q = took_fields l 7 d y.bytes e5 in
    record {
      size = y.size;
      items = is;
      left = r;
      stands = record { sized = y.sized; typed = rw e6 at y.typed; tagged = rw e2 at y.tagged; goods = q.good.1; known = rw e6 at (e4 ∙ ap some (sym q.good.0)) };
      held = rw (← e6, ← e2, ← q.whole) y.held;
      values = e7;
      uses = e8;
    }))
