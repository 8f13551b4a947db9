-- What holds of the definitions in specs/ElementLaws.antt.
use Rattle.numbers.specs.Place.{Place}
use Rattle.std.specs.Prelude.{ℕ, zero, suc, ◌+◌, ◌*◌, ◌≤◌, ◌<◌, ◌≡◌, refl, List, [], ◌∷◌, ◌++◌, length, take, drop, get_or, ltb, eqb, Result, Ok, Err}
use Rattle.std.proofs.Common.{arith, ap, ap₂, ◌∙◌, append_assoc, append-nil, length-append, drop-drop, length-take-le}
use Rattle.std.proofs.Math.Path.{sym}
use Rattle.std.proofs.Math.Seq.{drop-append_seam}
use borrow.Author.Tests.{lt-ltb, le-ltb, ltb-true, eqb-true}
use Rattle.numbers.specs.Numbers.{Bytes}
use Rattle.numbers.proofs.Numbers.{bytes_take, bytes_drop}
use Rattle.numbers.specs.Reading.{Reading, ok, bad, after}
use Rattle.numbers.proofs.ReadingLaws.{after_inv, cond_inv}
use Rattle.numbers.specs.Places.{read_from}
use Rattle.numbers.proofs.PlaceLaws.{one_answer, refused_one}
use Rattle.numbers.specs.declared.Fault.{Fault}
use Rattle.strings.specs.declared.Span.{Span}
use Rattle.numbers.specs.declared.Refusal.TheVariants as R
use Rattle.strings.specs.Strings.{read_string, string_bytes, GoodText}
use Rattle.strings.proofs.StringLaws.{reads_string}
use Rattle.strings.specs.Spans.{show_span, check_at, str_start, str_len, StrRead}
use Rattle.strings.proofs.SpanLaws.{first_refuses, check_inv, shown_in, span_inv}
use Rattle.fields.specs.Layouts.{Field, strs, quids, Item, strings, qids, read_many, many_bytes, AllGood}
use Rattle.fields.proofs.LayoutLaws.{took_many}
use Rattle.laying.proofs.LayingLaws.{drop_take, span_shown, part_inv, part_passed, whole_inv}
use Rattle.fields.specs.Values.{Value, span, part, start_of, len_of, count_of, show_part, whole_part, show}
use Rattle.fields.specs.Fields.{ManyRead}
use Rattle.laying.specs.Laying.{PartCheck, ShowCheck}
use Rattle.laying.specs.Elements.{element_in, asked_for, element_at, view_element, ElementAsked}
use Rattle.laying.specs.ElementLaws.{Element, Qid}

-- ---- one answer

pub element_one : {m : Reading Value} (r r' : Result Span Fault) → view_element r ≡ m → view_element r' ≡ m → r ≡ r'
unfolding view_element
element_one (Ok s) (Ok t) e f =
    let g = one_answer e f in
    let h : span s.start s.len ≡ span t.start t.len = cc g in
    ap Ok (ap₂ {C = Span} (λ x y. record { start = x; len = y }) (ap start_of h) (ap len_of h))
element_one (Err w) (Err u) e f =
    let g = one_answer e f in
    let h : w.0 ≡ u.0 = cc g in
    let i : w.1 ≡ u.1 = cc g in
    ap Err (ap₂ {C = Fault} (λ k n. (k, n)) h i)
element_one (Ok s) (Err w) e f = absurd (let g = one_answer e f in let z : ◌≡◌ {A = ℕ} 0 1 = cc g in omega arith)
element_one (Err w) (Ok s) e f = absurd (let g = one_answer e f in let z : ◌≡◌ {A = ℕ} 0 1 = cc g in omega arith)

-- ---- 17, then 9, then 15

module _ {lent : List ℕ} {c x y i : ℕ} {q : Place} where
  pub asked_outside : {f : Fault} → PartCheck lent c x y (Ok 0) q → q ≡ Err f → ElementAsked lent (part c x y) i (Err f)
  unfolding asked_for
  asked_outside s e = record { is = sym (first_refuses (show_part lent c x y) _ (Ok 0) (sym s.is ∙ e)) }

  pub asked_below : {a : ℕ} → PartCheck lent c x y (Ok 0) q → q ≡ Ok a → i < c → ElementAsked lent (part c x y) i (Ok a)
  unfolding asked_for
  asked_below s e h = let p = part_passed s e in record { is = sym p.place ∙ rw (p.shows, lt-ltb i c h) }

  pub asked_past : {a : ℕ} → PartCheck lent c x y (Ok 0) q → q ≡ Ok a → c ≤ i → ElementAsked lent (part c x y) i (Err (R.NoSuchElement, 0))
  unfolding asked_for
  asked_past s e h = let p = part_passed s e in record { is = rw (p.shows, le-ltb i c h) }

-- ---- any vector

pub element_refused : {f : Field} {lent : List ℕ} {v : Value} {i : ℕ} {p q : Place} {e : Fault} → ElementAsked lent v i p → ShowCheck f lent v p q → q ≡ Err e
    → bad e.0 e.1 ≡ element_at f lent v i
unfolding element_at
element_refused {f} {lent} {v} {i} {p} {q} {e} a s h = go (asked_for lent v i) (show f lent v) (sym (sym h ∙ s.is ∙ ap (check_at (show f lent v)) a.is))
  where
    go : (m : Reading (List ℕ)) (w : Reading Item) → check_at w (check_at m (Ok 0)) ≡ Err e → bad e.0 e.1 ≡ after m (λ bs r. after w (λ it t. ok (element_in (start_of v) i it) []))
    go (bad j b) w d = let g = refused_one d in ap₂ bad (sym g.0) (sym g.1)
    go (ok bs r) (bad j b) d = let g = refused_one d in ap₂ bad (sym g.0) (sym g.1)
    go (ok bs r) (ok it t) d = absurd (let z : ◌≡◌ {A = ℕ} 0 1 = cc d in omega arith)

pub asked_inv : (lent : List ℕ) (v : Value) (i : ℕ) {bs r : List ℕ} → asked_for lent v i ≡ ok bs r → i < count_of v
unfolding asked_for
asked_inv lent v i e =
    after_inv (show_part lent (count_of v) (start_of v) (len_of v)) _ e (λ cs s e1 e2. ltb-true i (count_of v) (cond_inv (ltb i (count_of v)) _ R.NoSuchElement 0 e2).0)

pub element : {f : Field} {lent : List ℕ} {v : Value} {i a : ℕ} {p q : Place} → ElementAsked lent v i p → ShowCheck f lent v p q → q ≡ Ok a → Element f lent v i
unfolding element_at
element {f} {lent} {v} {i} {a} {p} n s e =
    check_inv (show f lent v) p (sym s.is ∙ e)
    (λ it r d g. check_inv (asked_for lent v i) (Ok 0) (sym n.is ∙ g)
    (λ bs t u w. record { item = it; rest = r; shows = d; below = asked_inv lent v i u; is = rw (u, d) }))

-- its part lies among the lent bytes
pub element_lies : {lent : List ℕ} {c x y i : ℕ} → Element strs lent (part c x y) i → x + y ≤ length lent
unfolding show
element_lies {lent} {c} {x} {y} l = after_inv (show_part lent c x y) _ l.shows (λ bs s e1 e2. span_inv lent x y (part_inv lent c x y e1).1)

pub qid_found : {lent : List ℕ} {c x y i : ℕ} → Element quids lent (part c x y) i → Qid lent c x y i
unfolding show
qid_found {lent} {c} {x} {y} {i} l =
    after_inv (show_part lent c x y) _ l.shows
    (λ bs s e1 e2.
    let u = cond_inv (eqb y (13 * c)) _ R.PartMalformed 0 e2 in
    let f : qids c bs ≡ l.item = (let g = u.1 in cc g) in
    let h = span_inv lent x y (part_inv lent c x y e1).1 in
    let n = eqb-true y (13 * c) u.0 in
    let b = l.below in
    record { lies = omega arith; is = sym (l.is ∙ ap (λ it. ok (element_in x i it) []) (sym f)) })

-- ---- names

-- a vector of strings parted at its i-th
record Parted (i a : ℕ) (l : List (List ℕ)) : Type 0 where
  pub bytes : many_bytes l ≡ many_bytes (take i l) ++ (string_bytes (get_or l i []) ++ many_bytes (drop (suc i) l))
  pub before : read_many i a (many_bytes l) ≡ ok (take i l) (string_bytes (get_or l i []) ++ many_bytes (drop (suc i) l))
  pub good : GoodText (get_or l i [])

parted : (i a : ℕ) (l : List (List ℕ)) → i < length l → AllGood l → Parted i a l
unfolding many_bytes read_many
parted i a [] h g = absurd (omega arith)
parted zero a (b ∷ bs) h g = record { bytes = refl; before = refl; good = g.0 }
parted (suc i) a (b ∷ bs) h g =
    let p = parted i (a + length (string_bytes b)) bs (omega arith) g.1 in
    record {
      bytes = ap (λ (z : List ℕ). string_bytes b ++ z) p.bytes ∙ sym (append_assoc (string_bytes b) (many_bytes (take i bs)) _);
      before = rw ((reads_string a b g.0).back (many_bytes bs), p.before);
      good = p.good;
    }

-- what a span shows, if it lies among the lent bytes
span_bytes : (lent : List ℕ) (x y : ℕ) {bs : List ℕ} → x + y ≤ length lent → show_span lent x y ≡ ok bs [] → take y (drop x lent) ≡ bs
span_bytes lent x y h e = let d = sym (shown_in lent x y h) ∙ e in cc d

-- the names of a part that passed, as they stand in it
record Names (lent : List ℕ) (c x y : ℕ) (it : Item) : Type 0 where
  pub names : List (List ℕ)
  pub bytes : show_span lent x y ≡ ok (many_bytes names) []
  pub size : length (many_bytes names) ≡ y
  pub lies : x + y ≤ length lent
  pub item : it ≡ strings names
  pub count : length names ≡ c
  pub good : AllGood names

names_in : {lent : List ℕ} {c x y : ℕ} {it : Item} {r : List ℕ} → Bytes lent → show strs lent (part c x y) ≡ ok it r → Names lent c x y it
unfolding show
names_in {lent} {c} {x} {y} {it} b e =
    after_inv (show_part lent c x y) _ e
    (λ bs s e1 e2. after_inv (whole_part (read_many c x bs)) _ e2
    (λ l t e3 e4. whole_inv (read_many c x bs) e3
    (λ e5.
    let i = (part_inv lent c x y e1).1 in
    let k = span_shown lent x y i in
    let f : it ≡ strings l = cc e4 in
    let h = took_many c x bs (rw k.2 (bytes_take y (drop x lent) (bytes_drop x lent b))) e5 in
    let m : bs ≡ many_bytes l = h.whole ∙ append-nil (many_bytes l) in
    record { names = l; bytes = k.0 ∙ ap (λ z. ok z []) m; size = ap length (sym m) ∙ k.1; lies = span_inv lent x y i; item = f; count = h.good.0; good = h.good.1 })))

pub name_found : {lent : List ℕ} {c x y i sx sy : ℕ} {p q : Place} → Bytes lent → Element strs lent (part c x y) i → ManyRead i (take (x + y) lent) x p
    → StrRead (take (x + y) lent) p sx sy q → ok (span sx sy) [] ≡ element_at strs lent (part c x y) i
unfolding str_start str_len
name_found {lent} {c} {x} {y} {i} {sx} {sy} {p} b l m r =
    let n = names_in b l.shows in
    let ns : List (List ℕ) = n.names in
    let g : List ℕ = get_or ns i [] in
    let a : List ℕ = many_bytes (take i ns) in
    let z : List ℕ = string_bytes g ++ many_bytes (drop (suc i) ns) in
    let s : List ℕ = take (x + y) lent in
    let h = l.below in
    let k = n.count in
    let t = parted i x ns (omega arith) n.good in
    let es : drop x s ≡ many_bytes ns = drop_take x y lent ∙ span_bytes lent x y n.lies n.bytes in
    let ls : length s ≡ x + y = length-take-le (x + y) lent n.lies in
    let el : length (many_bytes ns) ≡ length a + length z = ap length t.bytes ∙ length-append a z in
    let e1 = n.size in
    let ep : p ≡ Ok (x + length a) = m.next ∙ rw (es, t.before) (ap Ok (omega arith)) in
    let ed : drop (x + length a) s ≡ z = sym (drop-drop (length a) x s) ∙ ap (drop (length a)) (es ∙ t.bytes) ∙ drop-append_seam a z in
    let er : read_from read_string s p ≡ ok g (many_bytes (drop (suc i) ns)) = rw (ep, ed) ((reads_string (x + length a) g t.good).back (many_bytes (drop (suc i) ns))) in
    let ex : sx ≡ x + (length a + 2) = r.start ∙ rw (er, ep) (omega arith) in
    let ey : sy ≡ length g = r.len ∙ rw er in
    rw (ex, ey) (sym (l.is ∙ ap (λ it. ok (element_in x i it) []) n.item))
