-- An element of a walk as Rust has it: where it starts among the lent bytes, its length, and the place after it.
use Rattle.numbers.specs.Place.{Place}
use Rattle.std.specs.Prelude.{ℕ, zero, suc, ◌+◌, ◌*◌, ◌^◌, ◌≤◌, ◌<◌, ◌≡◌, take, drop, get_or, eqb, Result, Ok, Err}
use Rattle.std.proofs.Common.{arith, sym, ◌∙◌, length-append}
use Rattle.std.proofs.Math.Path.{refl, ap}
use mathlib.Core.List.{List, [], ◌∷◌, append-nil}
use Rattle.std.proofs.Math.ListN.{length}
use borrow.Author.Tests.{eqb-true}
use Rattle.numbers.specs.Numbers.{Bytes}
use Rattle.numbers.proofs.Numbers.{length_to_le, bytes_take, bytes_drop}
use Rattle.numbers.specs.Reading.{Reading, ok, bad}
use Rattle.numbers.proofs.ReadingLaws.{after_inv, cond_inv}
use Rattle.numbers.specs.declared.Fault.{Fault}
use Rattle.numbers.specs.declared.Refusal.{Refusal}
use Rattle.numbers.specs.declared.Refusal.TheVariants as R
use Rattle.strings.specs.Strings.{string_bytes}
use Rattle.strings.proofs.SpanLaws.{span_inv}
use Rattle.fields.specs.Layouts.{Field, strs, quids, Item, strings, qids, read_many, many_bytes}
use Rattle.fields.proofs.LayoutLaws.{took_many}
use Rattle.fields.specs.Values.{Value, start_of, len_of, count_of, part, show_part, whole_part, show}
use Rattle.laying.proofs.LayingLaws.{span_shown, part_inv, whole_inv}
use Rattle.strings.specs.declared.Span.{Span}
use Rattle.laying.specs.Elements.{element_in, asked_for, element_at, view_element}
use Rattle.laying.proofs.ElementLaws.{asked_inv}
use Rattle.flat.specs.Flat.{stored, laid}
use Rattle.exports.specs.Answers.{ended, Answered}
use Rattle.exports.specs.declared.Outcome.{Outcome}

abbrev end_of : Value → ℕ
end_of v = start_of v + len_of v

abbrev pub past_element : Reading Value → Place
past_element (ok v r) = Ok (end_of v)
past_element (bad k at) = Err (k, at)

abbrev found_in : Reading Value → List Value
found_in (ok v r) = v ∷ []
found_in (bad k at) = []

-- the place after an element, and its start and length over the two numbers; refused, they are as they were
pub record SpanLaid (e : Reading Value) (before after : List ℕ) (q : Place) : Type 0 where
  pub place : q ≡ past_element e
  pub left : after ≡ laid (past_element e) (found_in e) before

-- F4.18, as Rust has it
pub record Spanned (e : Reading Value) (before after : List ℕ) (r : Outcome) : Type 0 where
  pub is : Answered (ended (past_element e)) (laid (past_element e) (found_in e) before) after r

-- ---- its end is a number of eight bytes, as it lies within the lent bytes

abbrev pub Ends : Reading Value → Type 0
Ends (ok v r) = end_of v < 2 ^ 64
Ends (bad k at) = Unit {0}

found : {X : Type 0} (f : Field) (lent : List ℕ) (v : Value) (i : ℕ) {w : Value} {r : List ℕ} → element_at f lent v i ≡ ok w r
    → ((it : Item) (s : List ℕ) → i < count_of v → show f lent v ≡ ok it s → w ≡ element_in (start_of v) i it → X) → X
unfolding element_at
found f lent v i {w} e g =
    after_inv (asked_for lent v i) _ e
    (λ bs t e1 e2. after_inv (show f lent v) _ e2
    (λ it s e3 e4. let h : w ≡ element_in (start_of v) i it = cc e4 in g it s (asked_inv lent v i e1) e3 h))

string_length : (bs : List ℕ) → length (string_bytes bs) ≡ 2 + length bs
unfolding string_bytes
string_length bs = simp (length-append, length_to_le)

name_ends : (i : ℕ) (l : List (List ℕ)) → i < length l → length (many_bytes (take i l)) + 2 + length (get_or l i []) ≤ length (many_bytes l)
unfolding many_bytes
name_ends i [] h = absurd (omega arith)
name_ends zero (b ∷ bs) h =
    let e = string_length b in
    let f = length-append (string_bytes b) (many_bytes bs) in
    omega arith
name_ends (suc i) (b ∷ bs) h =
    let n = name_ends i bs (omega arith) in
    let f = length-append (string_bytes b) (many_bytes bs) in
    let g = length-append (string_bytes b) (many_bytes (take i bs)) in
    omega arith

module _ (lent : List ℕ) (c x y i : ℕ) (b : Bytes lent) (m : length lent < 2 ^ 64) where
  name_within : {w : Value} {r : List ℕ} → element_at strs lent (part c x y) i ≡ ok w r → end_of w ≤ length lent
  unfolding show
  name_within e =
      found strs lent (part c x y) i e
      (λ it s h e1 e2. after_inv (show_part lent c x y) _ e1
      (λ bs t e0 e4. after_inv (whole_part (read_many c x bs)) _ e4
      (λ l u e5 e6. whole_inv (read_many c x bs) e5
      (λ e7.
      let e3 = (part_inv lent c x y e0).1 in
      let k = span_shown lent x y e3 in
      let f : it ≡ strings l = cc e6 in
      let g = took_many c x bs (rw k.2 (bytes_take y (drop x lent) (bytes_drop x lent b))) e7 in
      let n : length bs ≡ length (many_bytes l) = ap length (g.whole ∙ append-nil (many_bytes l)) in
      let d = k.1 in
      let lies = span_inv lent x y e3 in
      let counted = g.good.0 in
      let o = name_ends i l (omega arith) in
      rw (e2, f) (omega arith)))))

  qid_within : {w : Value} {r : List ℕ} → element_at quids lent (part c x y) i ≡ ok w r → end_of w ≤ length lent
  unfolding show
  qid_within e =
      found quids lent (part c x y) i e
      (λ it s h e1 e2. after_inv (show_part lent c x y) _ e1
      (λ bs t e0 e4.
      let e3 = (part_inv lent c x y e0).1 in
      let u = cond_inv (eqb y (13 * c)) _ R.PartMalformed 0 e4 in
      let f : it ≡ qids c bs = (let g = u.1 in cc g) in
      let n = eqb-true y (13 * c) u.0 in
      let lies = span_inv lent x y e3 in
      rw (e2, f) (omega arith)))

  pub name_lies : (e : Reading Value) → e ≡ element_at strs lent (part c x y) i → Ends e
  name_lies (bad k at) h = tt
  name_lies (ok v r) h = let n = name_within (sym h) in omega arith

  pub qid_lies : (e : Reading Value) → e ≡ element_at quids lent (part c x y) i → Ends e
  qid_lies (bad k at) h = tt
  qid_lies (ok v r) h = let n = qid_within (sym h) in omega arith

-- ---- what is answered for it

module _ (e : Result Span Fault) where
  pub ends_at : {s : Span} → e ≡ Ok s → Ends (view_element e) → s.start + s.len < 2 ^ 64
  unfolding view_element
  ends_at h n = rw h at n

  pub spanned_found : {before after : List ℕ} {s : Span} {r : Outcome} → e ≡ Ok s → after ≡ stored before 0 (s.start ∷ s.len ∷ []) → r ≡ ended (Ok (s.start + s.len)) → Spanned (view_element e) before after r
  unfolding view_element
  spanned_found h a x = rw h (record { is = record { answer = x; left = a } })

  pub spanned_refused : {before : List ℕ} {k : Refusal} {at : ℕ} {r : Outcome} → e ≡ Err (k, at) → r ≡ ended (Err (k, at)) → Spanned (view_element e) before before r
  unfolding view_element
  spanned_refused h x = rw h (record { is = record { answer = x; left = refl } })

pub spanned_same : {e f : Reading Value} {before after : List ℕ} {r : Outcome} → Spanned e before after r → e ≡ f → Spanned f before after r
spanned_same s h = rw (← h) s

pub spanned : {e f : Reading Value} {before after : List ℕ} {q : Place} {r : Outcome} → SpanLaid e before after q → e ≡ f → r ≡ ended q → Spanned f before after r
spanned s h x = rw (← h) (record { is = record { answer = x ∙ ap ended s.place; left = s.left } })
