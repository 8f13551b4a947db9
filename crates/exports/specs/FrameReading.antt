-- A frame or a body that is read flat is the definition's, laid flat. Shown of any direction; requests and replies are two of them.
use Rattle.numbers.specs.Place.{Place}
use Rattle.std.specs.Prelude.{ℕ, ◌≡◌, refl, true, List, length, take, Result, Ok, Err}
use Rattle.std.proofs.Common.{arith, sym, ap, ap₂, ◌∙◌}
use Rattle.std.proofs.Math.Option.{Option, none, some}
use Rattle.numbers.specs.Numbers.{Bytes}
use Rattle.numbers.specs.declared.Refusal.{Refusal}
use Rattle.numbers.proofs.PlaceLaws.{refused_one}
use Rattle.fields.specs.Layouts.{Layout}
use Rattle.fields.specs.Values.{Value}
use Rattle.fields.specs.Fields.{values_at}
use Rattle.layouts.specs.Tables.{Row, lookup}
use Rattle.layouts.specs.Bodies.{Answer, accepted, refused, finish_at, body_at}
use Rattle.framing.specs.Frames.{Frame, headless, framed, read_frame, refused_whole}
use Rattle.framing.specs.Raising.{body_place, since, used_since, body_from}
use Rattle.framing.proofs.RaisedLaws.{from_body}
use Rattle.framing.specs.Headers.{HeadIs}
use Rattle.framing.proofs.HeaderLaws.{head_yes, frame_is, frame_headless}
use Rattle.framing.specs.declared.Head.{Head}
use Rattle.flat.specs.Flat.{laid, row_values, FlatRead}
use Rattle.exports.specs.Answers.{outcome_of, ended}
use Rattle.exports.specs.declared.Outcome.{Outcome}
use Rattle.exports.specs.Frames.{frame_outcome, frame_laid, FrameRead, answer_outcome, answer_laid, BodyRead}

-- ---- a direction

-- its rows, what a frame becomes whose body fails, and how that is told
pub record FlatDirection : Type 0 where
  pub rows : List Row
  pub whole : Frame → Frame
  pub fails : ℕ → Refusal → ℕ → Outcome
  pub none : (k : Refusal) (at : ℕ) → whole (headless k at) ≡ headless k at
  pub good : (tag ty e : ℕ) (vs : List Value) → whole (framed 0 tag (accepted ty vs e)) ≡ framed 0 tag (accepted ty vs e)
  pub told : (tag : ℕ) (k : Refusal) (at : ℕ) → fails tag k at ≡ frame_outcome (whole (framed 0 tag (refused k at)))
  pub bare : (tag : ℕ) (k : Refusal) (at : ℕ) (ns : List ℕ) → ns ≡ frame_laid (whole (framed 0 tag (refused k at))) ns

abbrev pub flat_requests : List Row → FlatDirection
flat_requests table =
    record {
      rows = table;
      whole = λ f. f;
      fails = λ tag k at. outcome_of 0 tag true (Err (k, at));
      none = λ k at. refl;
      good = λ tag ty e vs. refl;
      told = λ tag k at. refl;
      bare = λ tag k at ns. refl;
    }

abbrev pub flat_replies : List Row → FlatDirection
flat_replies table =
    record {
      rows = table;
      whole = refused_whole;
      fails = λ tag k at. ended (Err (k, at));
      none = λ k at. refl;
      good = λ tag ty e vs. refl;
      told = λ tag k at. refl;
      bare = λ tag k at ns. refl;
    }

-- ---- a body

module _ (ty : ℕ) {s ns ms : List ℕ} {p q : Place} where
  body_accepted : {e : ℕ} (l : Option Layout) → FlatRead l s p ns ms q → q ≡ Ok e → accepted ty (row_values l s p) e ≡ body_at l ty s p
  body_accepted none f h = absurd (let g = sym h ∙ f.next in let z : ◌≡◌ {A = ℕ} 0 1 = cc g in omega arith)
  body_accepted (some l) f h = ap (finish_at ty (values_at l s p)) (sym h ∙ f.next)

  body_refused : {k : Refusal} {at : ℕ} (l : Option Layout) → FlatRead l s p ns ms q → q ≡ Err (k, at) → refused k at ≡ body_at l ty s p
  body_refused {k} {at} none f h = let g = refused_one (sym h ∙ f.next) in ap₂ refused g.0 g.1
  body_refused (some l) f h = ap (finish_at ty (values_at l s p)) (sym h ∙ f.next)

-- by the place that is answered
values_left : {s ns ms : List ℕ} {p q : Place} (l : Option Layout) → FlatRead l s p ns ms q → ms ≡ laid q (row_values l s p) ns
values_left {s} {ns} {ms} {p} {q} l f = f.values ∙ ap (λ e. laid e (row_values l s p) ns) (sym f.next)

-- ---- a frame, of any direction

module _ (d : FlatDirection) (s : List ℕ) {ns ms : List ℕ} {r : Outcome} where
  read_as : {f g : Frame} → d.whole f ≡ g → f ≡ read_frame d.rows s → r ≡ frame_outcome g → ms ≡ frame_laid g ns → FrameRead (d.whole (read_frame d.rows s)) ns ms r
  read_as w e a v = let h = sym (ap d.whole e) ∙ w in rw h (record { is = record { answer = a; left = v } })

  module _ {g : Result Head Refusal} (h : HeadIs s g) where
    pub headless_read : {k : Refusal} → g ≡ Err k → r ≡ ended (Err (k, 0)) → ms ≡ ns → FrameRead (d.whole (read_frame d.rows s)) ns ms r
    unfolding HeadIs
    headless_read {k} e = read_as (d.none k 0) (frame_headless s d.rows (rw e at h))

    module _ {t : Head} {q : Place} (b : Bytes s) (e : g ≡ Ok t) (f : FlatRead (lookup d.rows t.ty) (take t.len s) (Ok 7) ns ms q) where
      pub frame_read : {a : ℕ} → q ≡ Ok a → r ≡ outcome_of t.ty t.tag true (Ok a) → FrameRead (d.whole (read_frame d.rows s)) ns ms r
      frame_read {a} i x =
          let its : Option Layout = lookup d.rows t.ty in
          let vs : List Value = row_values its (take t.len s) (Ok 7) in
          read_as (d.good t.tag t.ty a vs) (ap (framed 0 t.tag) (body_accepted t.ty its f i) ∙ frame_is d.rows b (head_yes s h e)) x (values_left its f ∙ ap (λ z. laid z vs ns) i)

      pub body_failed : {k : Refusal} {at : ℕ} → q ≡ Err (k, at) → r ≡ d.fails t.tag k at → FrameRead (d.whole (read_frame d.rows s)) ns ms r
      body_failed {k} {at} i x =
          let its : Option Layout = lookup d.rows t.ty in
          let vs : List Value = row_values its (take t.len s) (Ok 7) in
          read_as refl (ap (framed 0 t.tag) (body_refused t.ty its f i) ∙ frame_is d.rows b (head_yes s h e)) (x ∙ d.told t.tag k at) (values_left its f ∙ ap (λ z. laid z vs ns) i ∙ d.bare t.tag k at ns)

-- a request is told in one way, whether its body fails or not
by_place : {X : Type 0} (q : Place) → ((a : ℕ) → q ≡ Ok a → X) → ((k : Refusal) (at : ℕ) → q ≡ Err (k, at) → X) → X
by_place (Ok a) f g = f a refl
by_place (Err e) f g = g e.0 e.1 refl

pub request_read : (table : List Row) (s : List ℕ) {t : Head} {ns ms : List ℕ} {g : Result Head Refusal} {q : Place} {r : Outcome} → HeadIs s g → Bytes s → g ≡ Ok t → FlatRead (lookup table t.ty) (take t.len s) (Ok 7) ns ms q → r ≡ outcome_of t.ty t.tag true q
    → FrameRead (read_frame table s) ns ms r
request_read table s {t = t} {q = q} h b e f x =
    by_place q (λ a i. frame_read (flat_requests table) s h b e f i (x ∙ ap (outcome_of t.ty t.tag true) i)) (λ k at i. body_failed (flat_requests table) s h b e f i (x ∙ ap (outcome_of t.ty t.tag true) i))

-- ---- a body in a stretch

module _ (rows : List Row) (ty at : ℕ) (s : List ℕ) {ns ms : List ℕ} {p q : Place} {r : Outcome} (e : p ≡ body_place (length s) at) (f : FlatRead (lookup rows ty) s p ns ms q) (x : r ≡ ended (since at q)) where
  told_as : (a : Answer) → a ≡ body_at (lookup rows ty) ty s p → r ≡ answer_outcome (used_since at a) → ms ≡ answer_laid (used_since at a) ns → BodyRead (body_from rows ty s at) ns ms r
  told_as a i o v = rw (← (from_body rows ty at s e i)) (record { is = record { answer = o; left = v } })

  pub body_read : BodyRead (body_from rows ty s at) ns ms r
  body_read =
      let its : Option Layout = lookup rows ty in
      let vs : List Value = row_values its s p in
      by_place q (λ n i. told_as (accepted ty vs n) (body_accepted ty its f i) (x ∙ ap (λ z. ended (since at z)) i) (values_left its f ∙ ap (λ z. laid z vs ns) i))
      (λ k j i. told_as (refused k j) (body_refused ty its f i) (x ∙ ap (λ z. ended (since at z)) i) (values_left its f ∙ ap (λ z. laid z vs ns) i))
