-- The ways that checking and measuring a field go: one law for each way out, over plain variables.
use Rattle.std.specs.Prelude.{Ok, Err}
use Rattle.numbers.specs.Place.{Place}
use Prim.Native.Nat.{ℕ, suc, ◌+◌, ◌-◌, ◌*◌, ◌≤◌, ◌<◌, min}
use native.Mathlib.Omega.{arith}
use mathlib.Core.Path.{◌≡◌, refl, sym, ap, ap₂, ◌∙◌}
use mathlib.Core.List.{List, [], ◌∷◌}
use lib.ListN.{length, take, drop, length-append}
use lib.Seq.{length-take-le}
use borrow.Author.Tests.{eq-eqb, ne_eqb, lt-ltb, le-ltb, le-leb, lt-leb}
use Rattle.numbers.specs.Numbers.{Bytes, to_le}
use Rattle.numbers.proofs.Numbers.{length_to_le, bytes_take, bytes_drop}
use Rattle.numbers.specs.Reading.{Reading, ok, bad, after}
use Rattle.numbers.proofs.ReadingLaws.{or_else}
use Rattle.numbers.specs.Places.{rest_at}
use Rattle.numbers.specs.declared.Fault.{Fault}
use Rattle.numbers.specs.declared.Refusal.{Refusal}
use Rattle.numbers.specs.declared.Refusal.TheVariants as R
use Rattle.strings.specs.Spans.{show_span, show_string, check_at, SpanCheck, StrCheck}
use Rattle.strings.proofs.SpanLaws.{first_refuses, passing, shown_length}
use Rattle.fields.specs.Layouts.{Field, str, dat, strs, quids, Item, string, bytes, strings, ok_count, read_many, many_bytes, item_bytes}
use Rattle.fields.proofs.LayoutLaws.{took_many}
use Rattle.laying.specs.LayingLaws.{Unless}
use Rattle.laying.proofs.LayingLaws.{drop_take, part_passed, after_count, advance_twice}
use Rattle.fields.specs.Values.{Value, span, part, len_of, cut_off, show_part, whole_part, show}
use Rattle.fields.specs.Fields.{CountCheck, ManyRead}
use Rattle.laying.specs.Laying.{limit, advance, shown_size, check_field, head_width, head_of, FieldMeasured, Advanced, PartCheck, ShowCheck, filled_at, Filled, Settled, Begun}

-- ---- a place on

pub on_refused : {n : ℕ} {p : Place} {k : Refusal} {at : ℕ} → p ≡ Err (k, at) → Advanced n p p
on_refused e = record { is = rw e }

pub on_over : {n a : ℕ} {p : Place} → p ≡ Ok a → limit ≤ a + n → Advanced n p (Ok limit)
on_over {n} {a} e h = record { is = rw e (ap Ok (omega arith)) }

pub on_within : {n a : ℕ} {p : Place} → p ≡ Ok a → a + n ≤ limit → Advanced n p (Ok (a + n))
on_within {n} {a} e h = record { is = rw e (ap Ok (omega arith)) }

-- ---- a field that passes its check is as long as its count and its bytes

-- the bytes of a field that is no number are after a count
pub record Sized (f : Field) (lent : List ℕ) (v : Value) : Type 0 where
  pub is : (i : Item) (r : List ℕ) → show f lent v ≡ ok i r → length (item_bytes i) ≡ head_width f + len_of v

pub check_measured : {f : Field} {lent : List ℕ} {v : Value} {p q a r : Place} → Sized f lent v → ShowCheck f lent v p q → Advanced (head_width f) q a → Advanced (len_of v) a r
    → FieldMeasured f lent v p r
unfolding check_field
check_measured {f} {lent} {v} {p} {q} z c x y = record {
  is = y.is ∙ ap (advance (len_of v)) x.is ∙ advance_twice (head_width f) (len_of v) q ∙ ap (advance (head_width f + len_of v)) c.is ∙ go (show f lent v) refl p;
}
  where
    go : (m : Reading Item) → show f lent v ≡ m → (p' : Place) → advance (head_width f + len_of v) (check_at m p') ≡ advance (shown_size m) (check_at m p')
    go m e (Err f) = refl
    go (ok i s) e (Ok n) = ap (λ k. Ok (min (n + k) limit)) (sym (z.is i s e))
    go (bad k at) e (Ok n) = refl

pub sized : {f : Field} {lent : List ℕ} {v : Value} → Unless f → Bytes lent → Sized f lent v
sized {f} {lent} {v} u b = record {
  is =
      λ i r e.
      let k = after_count f lent v u b e in
      ap length k.item ∙ length-append (to_le (head_width f) (head_of f v)) k.tail ∙ ap₂ (λ x y. x + y) (length_to_le (head_width f) (head_of f v)) k.size;
}

-- ---- the checks

checked_map : {A B : Type 0} (f : A → B) (m : Reading A) (p : Place) → check_at m p ≡ check_at (after m (λ x r. ok (f x) r)) p
checked_map f m (Err e) = refl
checked_map f (ok x r) (Ok n) = refl
checked_map f (bad k at) (Ok n) = refl

module _ {lent : List ℕ} {x y : ℕ} {p q : Place} where
  pub str_check : StrCheck lent x y p q → ShowCheck str lent (span x y) p q
  unfolding show
  str_check c = record { is = c.is ∙ checked_map string (show_string lent x y) p }

  pub dat_check : SpanCheck lent x y p q → ShowCheck dat lent (span x y) p q
  unfolding show
  dat_check c = record { is = c.is ∙ checked_map bytes (show_span lent x y) p }

  pub quids_outside : {n : ℕ} {f : Fault} → PartCheck lent n x y p q → q ≡ Err f → ShowCheck quids lent (part n x y) p (Err f)
  unfolding show
  quids_outside {n} c e = record { is = sym (first_refuses (show_part lent n x y) _ p (sym c.is ∙ e)) }

  pub quids_fine : {n a : ℕ} → PartCheck lent n x y p q → q ≡ Ok a → y ≡ 13 * n → ShowCheck quids lent (part n x y) p (Ok a)
  unfolding show
  quids_fine {n} c e h = let k = part_passed c e in record { is = rw (k.place, k.shows, eq-eqb y (13 * n) h) }

  pub quids_malformed : {n a : ℕ} → PartCheck lent n x y p q → q ≡ Ok a → (y ≡ 13 * n → ⊥) → ShowCheck quids lent (part n x y) p (Err (R.PartMalformed, 0))
  unfolding show
  quids_malformed {n} c e h = let k = part_passed c e in record { is = rw (k.place, k.shows, ne_eqb y (13 * n) h) }

  pub strs_outside : {n : ℕ} {f : Fault} → PartCheck lent n x y p q → q ≡ Err f → ShowCheck strs lent (part n x y) p (Err f)
  unfolding show
  strs_outside {n} c e = record { is = sym (first_refuses (show_part lent n x y) _ p (sym c.is ∙ e)) }

-- the scan's end tells whether the strings fill the part
fills : (n a x stop : ℕ) (bs : List ℕ) → length bs ≤ stop → Bytes bs → (m : Reading (List (List ℕ))) → read_many n x bs ≡ m
    → filled_at (rest_at stop m) stop (Ok a) ≡ check_at (after (whole_part m) (λ l s. ok (strings l) s)) (Ok a)
fills n a x stop bs g b (bad k at) e = refl
fills n a x stop bs g b (ok l []) e = rw (eq-eqb (stop - 0) stop (omega arith))
fills n a x stop bs g b (ok l (y ∷ r)) e =
    let t = took_many n x bs b e in
    let h : length bs ≡ length (many_bytes l) + suc (length r) = ap length t.whole ∙ length-append (many_bytes l) (y ∷ r) in
    rw (ne_eqb (stop - suc (length r)) stop (λ z. omega arith))

pub strs_scanned : {lent : List ℕ} {n x y a : ℕ} {p q e r : Place} → Bytes lent → PartCheck lent n x y p q → q ≡ Ok a → ManyRead n (take (x + y) lent) x e → Filled e (x + y) (Ok a) r
    → ShowCheck strs lent (part n x y) p r
unfolding show
strs_scanned {lent} {n} {x} {y} {a} b c h m f =
    let k = part_passed c h in
    let i : drop x (take (x + y) lent) ≡ take y (drop x lent) = drop_take x y lent in
    let l : length (take (x + y) lent) ≡ x + y = length-take-le (x + y) lent k.lies in
    let z = shown_length lent x y k.lies in
    let g = rw (m.next, l, i) at f.is in
    record { is = g ∙ fills n a x (x + y) (take y (drop x lent)) (omega arith) (bytes_take y (drop x lent) (bytes_drop x lent b)) (read_many n x (take y (drop x lent))) refl ∙ rw (k.place, k.shows) }

-- the count's check and the span's are the part's
pub part_check : {lent : List ℕ} {n x y : ℕ} {p q r : Place} → CountCheck n p q → SpanCheck lent x y q r → PartCheck lent n x y p r
part_check {lent} {n} {x} {y} {p} c s = record { is = s.is ∙ ap (check_at (show_span lent x y)) c.is ∙ go }
  where
    stays : (k : Refusal) (m : Reading (List ℕ)) (z : Place) → check_at m (check_at {A = ℕ} (bad k 0) z) ≡ check_at {A = List ℕ} (bad k 0) z
    stays k m (Ok a) = refl
    stays k m (Err f) = refl

    go : check_at (show_span lent x y) (check_at (ok_count n) p) ≡ check_at (show_part lent n x y) p
    go =
        or_else n 16
        (λ h. rw (le-leb n 16 h, passing n [] p))
        (λ h. rw (lt-leb n 16 h) (stays R.TooManyElements (show_span lent x y) p))

-- ---- where a scan ends

pub fills_at : {e p : Place} {n m : ℕ} → e ≡ Ok m → m ≡ n → Filled e n p p
fills_at {n = n} {m = m} e h = record { is = rw (e, eq-eqb m n h) }

pub fills_not : {e p : Place} {n m : ℕ} → e ≡ Ok m → (m ≡ n → ⊥) → Filled e n p (Err (R.PartMalformed, 0))
fills_not {n = n} {m = m} e h = record { is = rw (e, ne_eqb m n h) }

pub fills_refused : {e p : Place} {n : ℕ} {k j : Refusal} {at : ℕ} → e ≡ Err (k, at) → j ≡ cut_off k → Filled e n p (Err (j, at))
fills_refused {at = at} e h = record { is = rw e (ap (λ i. Err (i, at)) h) }

-- ---- the end of measuring

pub settles_refused : {e : Place} {n : ℕ} {k : Refusal} {at : ℕ} → e ≡ Err (k, at) → Settled e n e
settles_refused e = record { is = rw e }

module _ {e : Place} {n m : ℕ} where
  pub settles_over : e ≡ Ok m → limit ≤ m → Settled e n (Err (R.FrameTooLong, 0))
  settles_over f h = record { is = rw (f, le-ltb m limit h) }

  pub settles_full : e ≡ Ok m → m < limit → n < m → Settled e n (Err (R.NoRoom, 0))
  settles_full f h k = record { is = rw (f, lt-ltb m limit h, lt-leb m n k) }

  pub settles_fits : e ≡ Ok m → m < limit → m ≤ n → Settled e n (Ok m)
  settles_fits f h k = record { is = rw (f, lt-ltb m limit h, le-leb m n k) }

-- ---- where putting begins

module _ {p e q : Place} {n : ℕ} where
  pub begins_not : {k : Refusal} {at : ℕ} → Settled e n q → q ≡ Err (k, at) → Begun p e n q
  begins_not s h = record { is = rw (← s.is, h) }

  pub begins : {m : ℕ} → Settled e n q → q ≡ Ok m → Begun p e n p
  begins s h = record { is = rw (← s.is, h) }
