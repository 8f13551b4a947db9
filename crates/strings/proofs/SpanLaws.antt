-- What holds of the definitions in specs/SpanLaws.antt.
use Rattle.numbers.specs.declared.Fault.{Fault}
use Rattle.numbers.proofs.PlaceLaws.{refused_one}
use Rattle.numbers.specs.Place.{Place}
use Rattle.std.specs.Prelude.{ℕ, ◌+◌, ◌≤◌, ◌<◌, ◌≡◌, refl, Bool, true, false, cond, List, [], length, take, drop, leb, Ok, Err}
use Rattle.std.proofs.Common.{arith, sym, ap₂, ◌∙◌, length-drop, length-take-le, drop-drop, le-leb, leb-true}
use Rattle.std.proofs.lemmas.Bool.{lt-leb}
use Rattle.numbers.specs.Reading.{Reading, ok, bad, after, raw, read_num}
use Rattle.numbers.proofs.ReadingLaws.{or_else, after_inv, cond_inv, raw_short}
use Rattle.numbers.specs.Places.{read_at, read_from}
use Rattle.numbers.specs.PlaceLaws.{Held}
use Rattle.numbers.specs.declared.Refusal.{Refusal}
use Rattle.numbers.specs.declared.Refusal.TheVariants as R
use Rattle.utf8.specs.Utf8.{utf8, sound_start, no_zero, zero_at}
use Rattle.strings.specs.Strings.{ok_text, read_string}
use Rattle.strings.specs.Spans.{show_span, show_string, check_at, TextCheck, SpanCheck, StrCheck, start_in}
use Rattle.strings.specs.SpanLaws.{Passed, StringShown, StringPassed}

pub shown_in : (lent : List ℕ) (x y : ℕ) → x + y ≤ length lent → show_span lent x y ≡ ok (take y (drop x lent)) []
unfolding show_span
shown_in lent x y h = rw (le-leb (x + y) (length lent) h)

pub shown_out : (lent : List ℕ) (x y : ℕ) → length lent < x + y → show_span lent x y ≡ bad R.SpanOutside 0
unfolding show_span
shown_out lent x y h = rw (lt-leb (x + y) (length lent) h)

pub shown_length : (lent : List ℕ) (x y : ℕ) → x + y ≤ length lent → length (take y (drop x lent)) ≡ y
shown_length lent x y h = length-take-le y (drop x lent) (simp length-drop (omega arith))

-- a check that is passed had something to show, at that place
pub check_inv : {A X : Type 0} (m : Reading A) (p : Place) {a : ℕ} → check_at m p ≡ Ok a → ((v : A) (r : List ℕ) → m ≡ ok v r → p ≡ Ok a → X) → X
check_inv m (Err w) e f = absurd (let z : ◌≡◌ {A = ℕ} 0 1 = cc e in omega arith)
check_inv (ok v r) (Ok n) e f = f v r refl e
check_inv (bad k at) (Ok n) e f = absurd (let z : ◌≡◌ {A = ℕ} 0 1 = cc e in omega arith)

pub span_inv : (lent : List ℕ) (x y : ℕ) {bs r : List ℕ} → show_span lent x y ≡ ok bs r → x + y ≤ length lent
span_inv lent x y e =
    or_else (x + y) (length lent) (λ h. h) (λ h. absurd (let f = sym (shown_out lent x y h) ∙ e in let z : ◌≡◌ {A = ℕ} 0 1 = cc f in omega arith))

pub passed : {lent : List ℕ} {x y a : ℕ} {p q : Place} → SpanCheck lent x y p q → q ≡ Ok a → Passed lent x y p a
passed {lent} {x} {y} {a} {p} c e =
    check_inv (show_span lent x y) p (sym c.is ∙ e)
    (λ bs r f g. let h = span_inv lent x y f in record { place = g; lies = h; shows = shown_in lent x y h })

pub span_lies : {lent : List ℕ} {x y a : ℕ} {p q : Place} → SpanCheck lent x y p q → q ≡ Ok a → x + y ≤ length lent
span_lies c e = (passed c e).lies

-- what a first check refuses, the whole does
pub first_refuses : {A B : Type 0} (m : Reading A) (k : A → List ℕ → Reading B) (p : Place) {g : Fault} → check_at m p ≡ Err g → check_at (after m k) p ≡ Err g
first_refuses m k (Err f) e = e
first_refuses (ok a r) k (Ok n) e = absurd (let z : ◌≡◌ {A = ℕ} 0 1 = cc e in omega arith)
first_refuses (bad i b) k (Ok n) e = e

pub string_inv : (lent : List ℕ) (x y : ℕ) {bs r : List ℕ} → show_string lent x y ≡ ok bs r → StringShown lent x y bs r
unfolding show_string
string_inv lent x y {bs} {r} e =
    after_inv (show_span lent x y) _ e
    (λ cs s f1 f2.
    let h = span_inv lent x y f1 in
    let d = sym f1 ∙ shown_in lent x y h in
    let u = cond_inv (leb y 65535) _ R.StringTooLong 0 f2 in
    let v = cond_inv (utf8 cs) _ R.NotUtf8 _ u.1 in
    let w = cond_inv (no_zero cs) _ R.ZeroByte _ v.1 in
    let g = w.1 in
    let eb : bs ≡ cs = cc g in
    let er : r ≡ s = cc g in
    let ec : cs ≡ take y (drop x lent) = cc d in
    let es : s ≡ [] = cc d in
    record { lies = h; small = leb-true y 65535 u.0; bytes = eb ∙ ec; rest = er ∙ es })

pub string_passed : {lent : List ℕ} {x y a : ℕ} {p q : Place} → StrCheck lent x y p q → q ≡ Ok a → StringPassed lent x y p a
string_passed {lent} {x} {y} {a} {p} c e =
    check_inv (show_string lent x y) p (sym c.is ∙ e)
    (λ bs r f g.
    let i = string_inv lent x y f in
    record { place = g; lies = i.lies; small = i.small; shows = f ∙ rw (i.bytes, i.rest) })

pub passing : {A : Type 0} (v : A) (r : List ℕ) (p : Place) → check_at (ok v r) p ≡ p
passing v r (Ok n) = refl
passing v r (Err f) = refl

-- ---- a string at a place

pub string_at : (s : List ℕ) (a : ℕ) → read_from read_string s (Ok a) ≡ after (read_num 2 (drop a s)) (λ n r. after (raw n r) (ok_text (a + 2)))
unfolding read_string
string_at s a = refl

-- what the count refuses, the string does
pub string_cut : (s : List ℕ) (p : Place) {k : Refusal} {at : ℕ} → read_at (read_num 2) s p ≡ bad k at → read_from read_string s p ≡ bad k at
string_cut s (Ok a) e = string_at s a ∙ rw e
string_cut s (Err w) {k} {at} e = let f : w.0 ≡ k = cc e in let g : w.1 ≡ at = cc e in ap₂ bad f g

pub start_bad : (w : ℕ) (p : Place) (k : Refusal) (at : ℕ) → start_in w p (bad k at) ≡ 0
start_bad w (Ok a) k at = refl
start_bad w (Err f) k at = refl

-- after a count that is held: the bytes, or not enough of them
pub string_held : {s : List ℕ} {p : Place} {n e : ℕ} → Held 2 s p n e → e + n ≤ length s → read_from read_string s p ≡ ok_text e (take n (drop e s)) (drop (e + n) s)
unfolding raw
string_held {s} {p} {n} {e} h l =
    rw h.place
    (string_at s h.at ∙ rw (h.reads, le-leb n (length (drop e s)) (simp length-drop (omega arith)), drop-drop n e s, ← h.ends))

pub string_short : {s : List ℕ} {p : Place} {n e : ℕ} → Held 2 s p n e → length s < e + n → read_from read_string s p ≡ bad R.Short 0
string_short {s} {p} {n} {e} h l =
    let f = h.fits in
    let g = h.ends in
    rw h.place (string_at s h.at ∙ rw (h.reads, raw_short n (drop e s) (simp length-drop (omega arith))))

-- of a span that lies within, and is not too long, the check of a lent string is that of its text
pub str_is_text : {s : List ℕ} {x y n : ℕ} {q : Place} → x + y ≤ length s → y ≤ 65535 → StrCheck s x y (Ok n) q → TextCheck s x y (Ok n) q
unfolding show_string
str_is_text {s} {x} {y} h l c = record { is = c.is ∙ rw (shown_in s x y h, le-leb y 65535 l) }

-- what the check of a text says of it
module _ {s : List ℕ} {x y n : ℕ} {q : Place} (c : TextCheck s x y (Ok n) q) where
  abbrev text : List ℕ
  text = take y (drop x s)

  pub text_refused : {k : Refusal} {at : ℕ} (r : List ℕ) → q ≡ Err (k, at) → ok_text x text r ≡ bad k at
  text_refused {k} {at} r e = go (utf8 text) (no_zero text) (x + zero_at text) (x + sound_start text) (sym c.is ∙ e)
    where
      go : (u z : Bool) (i j : ℕ) → check_at (cond u (cond z (ok text []) (bad R.ZeroByte i)) (bad R.NotUtf8 j)) (Ok n) ≡ Err (k, at)
          → cond u (cond z (ok text r) (bad R.ZeroByte i)) (bad R.NotUtf8 j) ≡ bad k at
      go true true i j f = absurd (let z : ◌≡◌ {A = ℕ} 0 1 = cc f in omega arith)
      go true false i j f = let g = refused_one f in ap₂ bad g.0 g.1
      go false z i j f = let g = refused_one f in ap₂ bad g.0 g.1

  pub text_good : {a : ℕ} → q ≡ Ok a → (utf8 text ≡ true) × (no_zero text ≡ true)
  text_good {a} e = go (utf8 text) (no_zero text) (x + zero_at text) (x + sound_start text) (sym c.is ∙ e)
    where
      go : (u z : Bool) (i j : ℕ) → check_at (cond u (cond z (ok text []) (bad R.ZeroByte i)) (bad R.NotUtf8 j)) (Ok n) ≡ Ok a → (u ≡ true) × (z ≡ true)
      go true true i j f = (refl, refl)
      go true false i j f = absurd (let z : ◌≡◌ {A = ℕ} 0 1 = cc f in omega arith)
      go false z i j f = absurd (let z : ◌≡◌ {A = ℕ} 0 1 = cc f in omega arith)

  pub text_passed : {a : ℕ} (r : List ℕ) → q ≡ Ok a → (ok_text x text r ≡ ok text r) × (q ≡ Ok n)
  text_passed r e = let g = text_good e in (rw (g.0, g.1), c.is ∙ rw (g.0, g.1))
