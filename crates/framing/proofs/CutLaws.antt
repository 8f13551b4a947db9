-- What each way of cutting a stretch at a position answers, over plain variables.
use Rattle.numbers.specs.Place.{Place}
use Rattle.std.specs.Prelude.{ℕ, ◌+◌, ◌-◌, ◌≤◌, ◌<◌, ◌≡◌, refl, Bool, true, false, List, length, take, drop, Ok, Err, Result, Option, Some, None}
use Rattle.std.proofs.Common.{arith, sym, ap, ◌∙◌, length-take-le, take_all, take-take}
use Rattle.std.proofs.Math.ListN.{length-drop}
use Rattle.std.proofs.Math.Seq.{take-length}
use borrow.Author.Tests.{lt-ltb, le-ltb, eq-eqb, ne_eqb}
use Rattle.numbers.specs.Numbers.{Bytes, from_le}
use Rattle.numbers.proofs.Numbers.{bytes_take}
use Rattle.numbers.proofs.ReadingLaws.{or_else}
use Rattle.numbers.specs.Places.{Within, num_at, NumRead}
use Rattle.numbers.proofs.PlaceLaws.{inside, outside, num_holds, held_num, num_refused}
use Rattle.numbers.specs.declared.Refusal.{Refusal}
use Rattle.numbers.specs.declared.Refusal.TheVariants as R
use Rattle.layouts.specs.Tables.{Row, lookup}
use Rattle.layouts.specs.Bodies.{Answer, accepted, refused, body_of}
use Rattle.framing.specs.Frames.{read_type_tag, read_header, framed, read_frame}
use Rattle.framing.specs.Raising.{raise, body_from}
use Rattle.framing.proofs.RaisedLaws.{body_there, after_header}
use Rattle.framing.specs.Local.{size_in}
use Rattle.framing.specs.Stretch.{type_in, tag_in, table_for, answer_of, tail_in, frame, end, stop, listed_frame, front, frame_at}
use Rattle.framing.specs.Headers.{Headed}
use Rattle.framing.specs.Cuts.{between, WholeAt, CutAt}
use Rattle.framing.specs.declared.Cut.{Cut}

-- ---- numbers that are held

number_is : (w a : ℕ) (s : List ℕ) → a + w ≤ length s → num_at w s (Ok a) ≡ from_le (take w (drop a s))
unfolding num_at
number_is w a s h = rw (held_num w a s h)

size_short : {s : List ℕ} {p x : ℕ} {q : Place} {k : Refusal} {at : ℕ} → NumRead 4 s (Ok p) x q → q ≡ Err (k, at) → length s < p + 4
size_short {s} {p} r e =
    or_else (p + 4) (length s) (λ h. absurd (let f = sym (held_num 4 p s h) ∙ (num_refused r e).reads in let z : ◌≡◌ {A = ℕ} 0 1 = cc f in omega arith)) (λ h. h)

size_held : {s : List ℕ} {p x e : ℕ} {q : Place} → NumRead 4 s (Ok p) x q → q ≡ Ok e → (p + 4 ≤ length s) × (size_in (drop p s) ≡ x)
size_held {s} {p} {x} {e} r h =
    or_else (p + 4) (length s) (λ l. (l, sym (r.value ∙ number_is 4 p s l)))
    (λ l. absurd (let j = num_holds (omega arith) r h in let d = j.place in let f : p ≡ j.at = cc d in let g = j.fits in omega arith))

-- ---- the ways that end it

module _ (ts rs : List Row) (s : List ℕ) (p : ℕ) where
  pub at_past : length s < p → stop R.StretchCut p ≡ frame_at ts rs s p
  unfolding frame_at
  at_past h = rw (lt-ltb (length s) p h)

  pub at_end_lem : length s ≡ p → end p ≡ frame_at ts rs s p
  unfolding frame_at
  at_end_lem e = rw (le-ltb (length s) p (omega arith), eq-eqb (length s) p e)

  inside_it : p < length s → front ts rs p (drop p s) ≡ frame_at ts rs s p
  unfolding frame_at
  inside_it h = rw (le-ltb (length s) p (omega arith), ne_eqb (length s) p (λ e. omega arith))

  pub at_cut : {x : ℕ} {q : Place} {k : Refusal} {at : ℕ} → p < length s → NumRead 4 s (Ok p) x q → q ≡ Err (k, at) → stop R.StretchCut p ≡ frame_at ts rs s p
  unfolding front
  at_cut h r e =
      let l = size_short r e in
      let d = length-drop p s in
      rw (lt-ltb (length (drop p s)) 4 (omega arith)) at (inside_it h)

  pub at_small : {x e : ℕ} {q : Place} → NumRead 4 s (Ok p) x q → q ≡ Ok e → x < 7 → stop R.StretchSize p ≡ frame_at ts rs s p
  unfolding front
  at_small {x} r e l =
      let z = size_held r e in
      let a = z.0 in
      let d = length-drop p s in
      rw (le-ltb (length (drop p s)) 4 (omega arith), z.1, lt-ltb x 7 l) at (inside_it (omega arith))

  pub at_long : {x e : ℕ} {q : Place} {t : Bool} → NumRead 4 s (Ok p) x q → q ≡ Ok e → 7 ≤ x → Within p x (length s) t → t ≡ false → stop R.StretchCut p ≡ frame_at ts rs s p
  unfolding front
  at_long {x} r e l w f =
      let z = size_held r e in
      let a = z.0 in
      let b = outside w f in
      let d = length-drop p s in
      rw (le-ltb (length (drop p s)) 4 (omega arith), z.1, le-ltb x 7 l, lt-ltb (length (drop p s)) x (omega arith)) at (inside_it (omega arith))

  at_whole : {x e : ℕ} {q : Place} → NumRead 4 s (Ok p) x q → q ≡ Ok e → 7 ≤ x → p + x ≤ length s → listed_frame ts rs p (take x (drop p s)) ≡ frame_at ts rs s p
  unfolding front
  at_whole {x} r e l w =
      let z = size_held r e in
      let a = z.0 in
      let d = length-drop p s in
      rw (le-ltb (length (drop p s)) 4 (omega arith), z.1, le-ltb x 7 l, le-ltb (length (drop p s)) x (omega arith)) at (inside_it (omega arith))

-- ---- a whole frame

pub whole_header : (f : List ℕ) → 7 ≤ length f → size_in f ≡ length f → Headed f (length f) (type_in f) (tag_in f)
unfolding read_header read_type_tag
whole_header f h e = record {
  seven = h;
  held = omega arith;
  reads =
      rw (held_num 4 0 f (omega arith), e, le-ltb (length f) 4 (omega arith), take_all (length f - 4) (drop 4 f) (simp length-drop (omega arith)), take-length f)
      (rw (held_num 1 4 f (omega arith), held_num 2 5 f (omega arith)));
}

-- of a whole frame, its answer is that of its body
answer_is : (ts rs : List Row) (f : List ℕ) → 7 ≤ length f → size_in f ≡ length f → body_of (lookup (table_for ts rs (type_in f)) (type_in f)) (type_in f) 7 (drop 7 f) ≡ answer_of ts rs f
unfolding answer_of read_frame
answer_is ts rs f h e = rw ((whole_header f h e).reads, take-length f)

-- it is read with its own tag
pub whole_frame : (ts rs : List Row) (f : List ℕ) → 7 ≤ length f → size_in f ≡ length f → read_frame (table_for ts rs (type_in f)) f ≡ framed 0 (tag_in f) (answer_of ts rs f)
unfolding answer_of read_frame
whole_frame ts rs f h e = rw (whole_header f h e).reads

-- what is raised has the tail that it had
pub tail_raised : (p n : ℕ) (a : Answer) → tail_in n (raise p a) ≡ tail_in n a
tail_raised p n (accepted ty vs used) = refl
tail_raised p n (refused k at) = refl

pub frame_same : {a a' b b' c c' d d' t t' n n' : ℕ} {x x' : Answer} → a ≡ a' → b ≡ b' → c ≡ c' → d ≡ d' → x ≡ x' → t ≡ t' → n ≡ n' → frame a b c d x t n ≡ frame a' b' c' d' x' t' n'
frame_same e1 e2 e3 e4 e5 e6 e7 = rw (e1, e2, e3, e4, e5, e6, e7)

-- what the size, the type and the tag that are read there make of it
pub whole_cut : {s : List ℕ} {p x e ty tag : ℕ} {q q' q'' : Place} {t : Bool} → NumRead 4 s (Ok p) x q → q ≡ Ok e → 7 ≤ x → Within p x (length s) t → t ≡ true
    → NumRead 1 (between p (p + x) s) (Ok 4) ty q' → NumRead 2 (between p (p + x) s) (Ok 5) tag q'' → CutAt s p (Ok (Some (record { ty = ty; tag = tag; next = p + x })))
unfolding CutAt
whole_cut {s} {p} {x} r e h w g a b =
    let n : p + x - p ≡ x = omega arith in
    let i = inside w g in
    let f : List ℕ = take x (drop p s) in
    let d = length-drop p s in
    let z : length f ≡ x = length-take-le x (drop p s) (omega arith) in
    let y : NumRead 1 f (Ok 4) _ _ = rw n at a in
    let u : NumRead 2 f (Ok 5) _ _ = rw n at b in
    record {
      seven = omega arith;
      held = i;
      size = rw n (ap from_le (take-take 4 x (drop p s) (omega arith)) ∙ (size_held r e).1);
      ty = rw n (y.value ∙ number_is 1 4 f (omega arith));
      tag = rw n (u.value ∙ number_is 2 5 f (omega arith));
      is = λ ts rs. rw n (at_whole ts rs s p r e h i);
    }

pub length_whole : {s : List ℕ} {p ty tag e : ℕ} → WholeAt s p ty tag e → length (between p e s) ≡ e - p
length_whole {s} {p} {e = e} w =
    let h = w.held in
    let d = length-drop p s in
    length-take-le (e - p) (drop p s) (omega arith)

-- its body read in place
pub answer_there : {s : List ℕ} {p ty tag e : ℕ} (ts rs : List Row) → Bytes s → WholeAt s p ty tag e
    → body_from (table_for ts rs ty) ty (take e s) p ≡ raise p (answer_of ts rs (between p e s))
answer_there {s} {p} {ty} {tag} {e} ts rs b w =
    let h = w.seven in
    let k = w.held in
    let z = length_whole w in
    let l : length (take e s) ≡ e = length-take-le e s k in
    let same : body_of (lookup (table_for ts rs ty) ty) ty 7 (drop 7 (between p e s)) ≡ answer_of ts rs (between p e s)
    = rw w.ty (answer_is ts rs (between p e s) (omega arith) (w.size ∙ sym z)) in
    let n : e ≡ p + (e - p) = omega arith in
    let a : drop (p + 7) (take e s) ≡ drop 7 (between p e s) = ap (λ m. drop (p + 7) (take m s)) n ∙ after_header p (e - p) s in
    body_there (table_for ts rs ty) ty (take e s) p (bytes_take e s b) (omega arith)
    ∙ ap (λ (x : List ℕ). raise p (body_of (lookup (table_for ts rs ty) ty) ty 7 x)) a
    ∙ ap (raise p) same

-- ---- the ways of a cut

module _ (s : List ℕ) (p : ℕ) where
  pub ends_there : ((ts rs : List Row) → end p ≡ frame_at ts rs s p) → CutAt s p (Ok None)
  unfolding CutAt
  ends_there e = e

  pub stops_there : {k : Refusal} → ((ts rs : List Row) → stop k p ≡ frame_at ts rs s p) → CutAt s p (Err k)
  unfolding CutAt
  stops_there e = e

  pub cut_whole : {g : Result (Option Cut) Refusal} {c : Cut} → CutAt s p g → g ≡ Ok (Some c) → WholeAt s p c.ty c.tag c.next
  unfolding CutAt
  cut_whole h e = rw e at h

  pub cut_end : {g : Result (Option Cut) Refusal} → CutAt s p g → g ≡ Ok None → (ts rs : List Row) → end p ≡ frame_at ts rs s p
  unfolding CutAt
  cut_end h e = rw e at h

  pub cut_stop : {g : Result (Option Cut) Refusal} {k : Refusal} → CutAt s p g → g ≡ Err k → (ts rs : List Row) → stop k p ≡ frame_at ts rs s p
  unfolding CutAt
  cut_stop h e = rw e at h
