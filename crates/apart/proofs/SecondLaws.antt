-- What holds of the definitions in specs/SecondLaws.antt.
use Rattle.numbers.specs.Place.{Place}
use Rattle.std.specs.Prelude.{ℕ, ◌+◌, ◌≤◌, ◌<◌, ◌≡◌, refl, Bool, true, false, cond, List, [], ◌++◌, length, Ok, Err}
use Rattle.std.proofs.Common.{arith, sym, ◌∙◌}
use borrow.Author.Tests.{le-leb, lt-leb}
use Rattle.numbers.specs.Reading.{Reading, ok, bad, after}
use Rattle.numbers.proofs.PlaceLaws.{refused_one}
use Rattle.numbers.specs.declared.Fault.{Fault}
use Rattle.numbers.specs.declared.Refusal.{Refusal}
use Rattle.numbers.specs.declared.Refusal.TheVariants as R
use Rattle.utf8.specs.Utf8.{utf8, sound_start, no_zero, zero_at}
use Rattle.utf8.proofs.StartLaws.{sound_in, zero_in}
use Rattle.strings.specs.Strings.{ok_text}
use Rattle.strings.specs.Spans.{show_span, show_string, check_at}
use Rattle.strings.proofs.SpanLaws.{string_inv}
use Rattle.fields.specs.Layouts.{str, string}
use Rattle.fields.specs.Values.{span, show}
use Rattle.laying.specs.Laying.{advance, shown_size, check_field, FieldMeasured, Advanced}
use Rattle.apart.proofs.ApartLaws.{whole, in_second}
use Rattle.apart.specs.SecondLaws.{Passed}

-- the place after a text that is checked at a
abbrev past : Reading (List ℕ) → ℕ → Place
past m a = advance (shown_size (after m (λ bs r. ok (string bs) r))) (check_at (after m (λ bs r. ok (string bs) r)) (Ok a))

pub first_passed : {s : List ℕ} {p q : Place} → FieldMeasured str s (span 0 (length s)) p q → Passed s q
unfolding check_field show
first_passed {s} {p} m = rw m.is (go p (show_string s 0 (length s)) refl)
  where
    go : (p' : Place) (m : Reading (List ℕ)) → show_string s 0 (length s) ≡ m
        → Passed s (advance (shown_size (after m (λ bs r. ok (string bs) r))) (check_at (after m (λ bs r. ok (string bs) r)) p'))
    go (Err f) m e = tt
    go (Ok a) (ok bs r) e = (string_inv s 0 (length s) e).small
    go (Ok a) (bad k at) e = tt

pub passed_on : (s : List ℕ) {n : ℕ} (p : Place) {q : Place} → Advanced n p q → Passed s p → Passed s q
passed_on s (Ok a) e h = rw e.is h
passed_on s (Err f) e h = rw e.is h

pub first_short : (s : List ℕ) {p : Place} {a : ℕ} → p ≡ Ok a → Passed s p → length s ≤ 65535
first_short s e h = rw e at h

-- a place in a text, counted on from another slice
moved : {k r : Refusal} {n : ℕ} (m i : ℕ) → (k ≡ r) × (n ≡ 0 + i) → ◌≡◌ {A = Place} (Err (k, m + n)) (Err (r, m + i))
moved {n = n} m i (c, b) = let d : m + n ≡ m + i = omega arith in rw (c, d) refl

-- ---- the second

module _ (first second : List ℕ) where
  abbrev pub AsOne : Place → Place → Type 0
  AsOne p q = FieldMeasured str (first ++ second) (span (length first) (length second)) p q

  abbrev pub Alone : Place → Place → Type 0
  Alone p q = FieldMeasured str second (span 0 (length second)) p q

  pub second_stays : {p : Place} {x : Fault} → p ≡ Err x → AsOne p (Err x)
  unfolding check_field
  second_stays e = record { is = rw e }

  shown : show_span (first ++ second) (length first) (length second) ≡ ok second []
  shown = sym (in_second first second) ∙ whole second

  pub second_long : {p : Place} {a : ℕ} → p ≡ Ok a → 65535 < length second → AsOne p (Err (R.StringTooLong, 0))
  unfolding check_field show show_string
  second_long e h = record { is = rw (e, shown, lt-leb (length second) 65535 h) }

  module _ {p q : Place} {a : ℕ} (e : p ≡ Ok a) (l : length second ≤ 65535) where
    alone : Alone p q → q ≡ past (ok_text 0 second []) a
    unfolding check_field show show_string
    alone m = rw (e, whole second, le-leb (length second) 65535 l) at m.is

    there : q ≡ past (ok_text (length first) second []) a → AsOne p q
    unfolding check_field show show_string
    there f = record { is = rw (e, shown, le-leb (length second) 65535 l) f }

  module _ {p q : Place} {a : ℕ} (e : p ≡ Ok a) (l : length second ≤ 65535) (m : Alone p q) where
    pub second_good : {b : ℕ} → q ≡ Ok b → AsOne p (Ok b)
    second_good {b} h = rw h at (there e l (go (utf8 second) (no_zero second) (0 + zero_at second) (0 + sound_start second) (length first + zero_at second) (length first + sound_start second) (alone e l m)))
      where
        go : (u z : Bool) (i j x y : ℕ) → q ≡ past (cond u (cond z (ok second []) (bad R.ZeroByte i)) (bad R.NotUtf8 j)) a
            → q ≡ past (cond u (cond z (ok second []) (bad R.ZeroByte x)) (bad R.NotUtf8 y)) a
        go true true i j x y f = f
        go true false i j x y f = absurd (let g = sym h ∙ f in let z : ◌≡◌ {A = ℕ} 0 1 = cc g in omega arith)
        go false z i j x y f = absurd (let g = sym h ∙ f in let z : ◌≡◌ {A = ℕ} 0 1 = cc g in omega arith)

    module _ {k : Refusal} {n : ℕ} (h : q ≡ Err (k, n)) where
      pub second_lies : n ≤ length second
      second_lies = go (utf8 second) (no_zero second) (zero_at second) (sound_start second) (zero_in second refl) (sound_in second refl) (alone e l m)
        where
          go : (u z : Bool) (i j : ℕ) → i ≤ length second → j ≤ length second → q ≡ past (cond u (cond z (ok second []) (bad R.ZeroByte (0 + i))) (bad R.NotUtf8 (0 + j))) a
              → n ≤ length second
          go true true i j x y f = absurd (let g = sym h ∙ f in let z : ◌≡◌ {A = ℕ} 0 1 = cc g in omega arith)
          go true false i j x y f = let b = (refused_one (sym h ∙ f)).1 in omega arith
          go false z i j x y f = let b = (refused_one (sym h ∙ f)).1 in omega arith

      pub second_bad : AsOne p (Err (k, length first + n))
      second_bad = there e l (go (utf8 second) (no_zero second) (zero_at second) (sound_start second) (alone e l m))
        where
          go : (u z : Bool) (i j : ℕ) → q ≡ past (cond u (cond z (ok second []) (bad R.ZeroByte (0 + i))) (bad R.NotUtf8 (0 + j))) a
              → Err (k, length first + n) ≡ past (cond u (cond z (ok second []) (bad R.ZeroByte (length first + i))) (bad R.NotUtf8 (length first + j))) a
          go true true i j f = absurd (let g = sym h ∙ f in let z : ◌≡◌ {A = ℕ} 0 1 = cc g in omega arith)
          go true false i j f = moved (length first) i (refused_one (sym h ∙ f))
          go false z i j f = moved (length first) j (refused_one (sym h ∙ f))
