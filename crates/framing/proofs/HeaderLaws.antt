-- The header's ways, and a frame read at places as the definition reads it.
use Rattle.numbers.specs.Place.{Place}
use Rattle.std.specs.Prelude.{ℕ, ◌+◌, ◌-◌, ◌≤◌, ◌<◌, min, ◌≡◌, refl, Bool, true, false, cond, List, length, take, drop, leb, Ok, Err, Result}
use Rattle.std.proofs.Common.{arith, sym, ap, ◌∙◌, length-drop, length-take-le, take_all}
use Rattle.std.proofs.Math.Nat.{min-eq_left, min-eq_right}
use Rattle.std.proofs.Math.Seq.{take-length}
use borrow.Author.Tests.{lt-ltb, le-ltb}
use Rattle.numbers.specs.Numbers.{Bytes, from_le}
use Rattle.numbers.proofs.Numbers.{bytes_take}
use Rattle.numbers.specs.Reading.{Reading, ok, bad, after, raw, read_num}
use Rattle.numbers.proofs.ReadingLaws.{or_else}
use Rattle.numbers.specs.Places.{read_at, NumRead}
use Rattle.numbers.proofs.PlaceLaws.{num_holds, num_refused}
use Rattle.numbers.specs.declared.Refusal.{Refusal}
use Rattle.numbers.specs.declared.Refusal.TheVariants as R
use Rattle.laying.proofs.LayingLaws.{drop_take}
use Rattle.layouts.specs.Tables.{Row}
use Rattle.layouts.specs.Bodies.{read_body}
use Rattle.layouts.proofs.BodyLaws.{body_is}
use Rattle.framing.specs.Frames.{Header, read_type_tag, read_header, headless, framed, read_frame}
use Rattle.framing.specs.Headers.{Headed, HeadIs, Tagged, TypeTag}
use Rattle.framing.specs.declared.Head.{Head}

at_is : {m n : ℕ} → ◌≡◌ {A = Place} (Ok m) (Ok n) → m ≡ n
at_is e = cc

-- a number is refused with no place
no_place : (w : ℕ) (xs : List ℕ) {k : Refusal} {at : ℕ} → read_num w xs ≡ bad k at → at ≡ 0
unfolding read_num raw
no_place w xs {k} {at} e = go (leb w (length xs)) e
  where
    go : (t : Bool) → after (cond t (ok (take w xs) (drop w xs)) (bad R.Short 0)) (λ bs r. ok (from_le bs) r) ≡ bad k at → at ≡ 0
    go true f = absurd (let z : ◌≡◌ {A = ℕ} 0 1 = cc f in omega arith)
    go false f = cc f

bad_is : {A : Type 0} {m : Reading A} {k : Refusal} {at : ℕ} → m ≡ bad k at → at ≡ 0 → m ≡ bad k 0
bad_is {k = k} e h = e ∙ ap (bad k) h

-- ---- the type and the tag

pub tagged : {b : List ℕ} {ty tag e : ℕ} {a c : Place} → NumRead 1 b (Ok 4) ty a → NumRead 2 b a tag c → c ≡ Ok e → Tagged b (length b) ty tag
unfolding read_type_tag
tagged {b} {ty} {tag} {e} r1 r2 h =
    let k = num_holds (omega arith) r2 h in
    let j = num_holds (omega arith) r1 k.place in
    let x : 4 ≡ j.at = at_is j.place in
    let y = j.ends in
    let z = k.ends in
    let f = k.fits in
    let u : e ≡ 7 = omega arith in
    let v : read_num 1 (drop 4 b) ≡ ok ty (drop k.at b) = rw x j.reads in
    record { all = refl; seven = omega arith; reads = rw (v, k.reads, u) }

unfoldable made : ℕ → ℕ → List ℕ → Reading Header
made ty tag d = ok (record { ty = ty; tag = tag }) d

pub untagged : {b : List ℕ} {ty tag : ℕ} {a c : Place} {k : Refusal} {at : ℕ} → NumRead 1 b (Ok 4) ty a → NumRead 2 b a tag c → c ≡ Err (k, at) → read_type_tag (drop 4 b) ≡ bad k 0
unfolding read_type_tag made
untagged {b} {ty} {tag} {a} {c} {k} {at} r1 r2 h = go a refl (num_refused r2 h).reads
  where
    go : (a' : Place) → a ≡ a' → read_at (read_num 2) b a' ≡ bad k at → after (read_num 1 (drop 4 b)) (λ ty c. after (read_num 2 c) (λ tag d. made ty tag d)) ≡ bad k 0
    go (Ok n) f g =
        let j = num_holds (omega arith) r1 f in
        let x : 4 ≡ j.at = at_is j.place in
        let v : read_num 1 (drop 4 b) ≡ ok ty (drop n b) = rw x j.reads in
        rw (v, bad_is g (no_place 2 (drop n b) g))
    go (Err w) f g =
        let v : read_num 1 (drop 4 b) ≡ bad w.0 w.1 = (num_refused r1 f).reads in
        let e : w.0 ≡ k = cc g in
        rw (bad_is v (no_place 1 (drop 4 b) v), e)

-- ---- the size in front

size_held : {s : List ℕ} {x e : ℕ} {q : Place} → NumRead 4 s (Ok 0) x q → q ≡ Ok e → (read_num 4 s ≡ ok x (drop 4 s)) × (4 ≤ length s)
size_held {s} {x} {e} r h =
    let k = num_holds (omega arith) r h in
    let a : 0 ≡ k.at = at_is k.place in
    let f = k.fits in
    let g = k.ends in
    let n : e ≡ 4 = omega arith in
    (rw (← a, n) at k.reads, omega arith)

pub size_cut : {s : List ℕ} {x : ℕ} {q : Place} {k : Refusal} {at : ℕ} → NumRead 4 s (Ok 0) x q → q ≡ Err (k, at) → read_header s ≡ bad k 0
unfolding read_header
size_cut {s} r h = let e = (num_refused r h).reads in rw (bad_is e (no_place 4 s e))

pub size_below : {s : List ℕ} {x e : ℕ} {q : Place} → NumRead 4 s (Ok 0) x q → q ≡ Ok e → x < 4 → read_header s ≡ bad R.SizeBelowFour 0
unfolding read_header
size_below {x = x} r h l = rw ((size_held r h).0, lt-ltb x 4 l)

-- the frame's own bytes, after the size
own : (s : List ℕ) (x : ℕ) → 4 ≤ x → take (x - 4) (drop 4 s) ≡ drop 4 (take (min x (length s)) s)
own s x h =
    or_else x (length s) (λ l. rw (min-eq_left l) (go l)) (λ l. let g : length s ≤ x = omega arith in rw (min-eq_right g, take-length s) (take_all (x - 4) (drop 4 s) (simp length-drop (omega arith))))
  where
    go : x ≤ length s → take (x - 4) (drop 4 s) ≡ drop 4 (take x s)
    go l = let e : x ≡ 4 + (x - 4) = omega arith in sym (ap (λ n. drop 4 (take n s)) e ∙ drop_take 4 (x - 4) s)

module _ {s : List ℕ} {x e n : ℕ} {q : Place} (r : NumRead 4 s (Ok 0) x q) (h : q ≡ Ok e) (l : 4 ≤ x) (m : n ≡ min x (length s)) where
  header_is : read_header s ≡ read_type_tag (drop 4 (take n s))
  unfolding read_header
  header_is = rw ((size_held r h).0, le-ltb x 4 l, m) (ap read_type_tag (own s x l))

  pub header_held : {ty tag k : ℕ} → Tagged (take n s) k ty tag → Headed s k ty tag
  header_held {k = k} t =
      let a : length (take n s) ≡ n = length-take-le n s (omega arith) in
      let b : k ≡ n = t.all ∙ a in
      let c = t.seven in
      record { seven = omega arith; held = omega arith; reads = rw b (header_is ∙ t.reads) }

  pub header_cut : {k : Refusal} → read_type_tag (drop 4 (take n s)) ≡ bad k 0 → read_header s ≡ bad k 0
  header_cut f = header_is ∙ f

  pub head_on : (g : Result Head Refusal) → TypeTag (take n s) g → HeadIs s g
  unfolding TypeTag HeadIs
  head_on (Ok h) t = header_held t
  head_on (Err k) t = header_cut t

-- ---- the frame

pub frame_is : {s : List ℕ} {n ty tag : ℕ} (rs : List Row) → Bytes s → Headed s n ty tag → framed 0 tag (read_body rs ty (take n s) (Ok 7)) ≡ read_frame rs s
unfolding read_frame
frame_is {s} {n} {ty} {tag} rs b h =
    let a = length-take-le n s h.held in
    let c = h.seven in
    rw h.reads (ap (framed 0 tag) (body_is rs ty (take n s) 7 (bytes_take n s b) (omega arith)))

pub frame_headless : (s : List ℕ) {k : Refusal} (rs : List Row) → read_header s ≡ bad k 0 → headless k 0 ≡ read_frame rs s
unfolding read_frame
frame_headless s rs e = rw e

pub head_yes : (s : List ℕ) {g : Result Head Refusal} {h : Head} → HeadIs s g → g ≡ Ok h → Headed s h.len h.ty h.tag
unfolding HeadIs
head_yes s h e = rw e at h
