-- Strings: reading after writing, a cut, writing after reading; and one answer for each question.
use Rattle.numbers.specs.Place.{Place}
use Rattle.std.specs.Prelude.{ℕ, ◌+◌, ◌≡◌, refl, List, length}
use Rattle.numbers.specs.Numbers.{Bytes}
use Rattle.numbers.specs.Reading.{ok, raw, read_num}
use Rattle.numbers.specs.ReadingLaws.{Reads, Took}
use Rattle.numbers.proofs.ReadingLaws.{reads_raw, reads_then, reads_after, reads_num, took_then, took_raw, took_num, after_inv, cond_inv}
use Rattle.numbers.proofs.PlaceLaws.{one_answer}
use Rattle.numbers.specs.declared.Refusal.TheVariants as R
use Rattle.utf8.specs.Utf8.{CharAt, utf8, no_zero}
use Rattle.strings.specs.Strings.{ok_text, read_string, string_bytes, GoodText}
use Rattle.strings.specs.Spans.{TextCheck, Shown, SpanCheck, StrCheck, StrRead}

-- read after put, and a string cut anywhere is short
pub reads_string : (a : ℕ) (bs : List ℕ) → GoodText bs → Reads (read_string a) (string_bytes bs) bs
unfolding read_string string_bytes
reads_string a bs g =
    reads_after _ (reads_num 2 (length bs) g.short) (reads_then (ok_text (a + 2)) (λ r. rw (g.form, g.full)) (reads_raw (length bs) bs refl))

-- put after read
pub took_string : (a : ℕ) (xs : List ℕ) {bs r : List ℕ} → Bytes xs → read_string a xs ≡ ok bs r → Took xs (string_bytes bs) r (GoodText bs)
unfolding read_string string_bytes
took_string a xs {bs} {r} h e =
    after_inv (read_num 2 xs) _ e
    (λ n s e1 e2. after_inv (raw n s) (ok_text (a + 2)) e2
    (λ cs t e3 e4.
    let p = took_num 2 xs h e1 in
    let q = took_raw n s p.rest e3 in
    let u = cond_inv (utf8 cs) _ R.NotUtf8 _ e4 in
    let v = cond_inv (no_zero cs) _ R.ZeroByte _ u.1 in
    let w = v.1 in
    let en : cs ≡ bs = cc in
    let er : t ≡ r = cc in
    rw (← en, ← er, q.good.0) (took_then p q (λ y b. record { short = rw b.0 y; form = u.0; full = v.0 }))))

-- ---- one answer for each question

pub char_one : {s : List ℕ} {i k k' : ℕ} → CharAt s i k → CharAt s i k' → k ≡ k'
char_one a b = one_answer a.is b.is

pub text_one : {s : List ℕ} {x y : ℕ} {p q q' : Place} → TextCheck s x y p q → TextCheck s x y p q' → q ≡ q'
text_one a b = one_answer a.is b.is

module _ {lent : List ℕ} {x y : ℕ} where
  pub shown_one : {bs bs' : List ℕ} → Shown lent x y bs → Shown lent x y bs' → bs ≡ bs'
  shown_one a b = one_answer a.is b.is

  pub span_one : {p q q' : Place} → SpanCheck lent x y p q → SpanCheck lent x y p q' → q ≡ q'
  span_one a b = one_answer a.is b.is

  pub check_one : {p q q' : Place} → StrCheck lent x y p q → StrCheck lent x y p q' → q ≡ q'
  check_one a b = one_answer a.is b.is

pub str_one : {s : List ℕ} {p q q' : Place} {x x' y y' : ℕ} → StrRead s p x y q → StrRead s p x' y' q' → (x ≡ x') × (y ≡ y') × (q ≡ q')
str_one a b = (one_answer a.start b.start, one_answer a.len b.len, one_answer a.next b.next)
