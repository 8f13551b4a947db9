-- The ways that the checks, the reader and the writers of strings go: one law for each way out, over plain variables.
use Rattle.std.specs.Prelude.{Ok, Err}
use Rattle.numbers.specs.Place.{Place}
use Prim.Native.Nat.{ℕ, ◌+◌, ◌-◌, ◌≤◌, ◌<◌, min}
use native.Mathlib.Omega.{arith}
use mathlib.Core.Path.{◌≡◌, refl, sym, ap, ap₂, ◌∙◌}
use mathlib.Core.Bool.{Bool, true, false}
use mathlib.Core.List.{List, [], ◌++◌, append_assoc}
use lib.ListN.{length, take, drop, length-append, length-drop}
use lib.Seq.{length-take-le, take-add, take-take, take-append-le, take-append-add, drop-append-add, drop-drop}
use borrow.Author.Tests.{le-leb, lt-leb}
use Rattle.numbers.specs.Numbers.{to_le}
use Rattle.numbers.proofs.Numbers.{length_to_le}
use Rattle.numbers.specs.Reading.{bad}
use Rattle.numbers.specs.Places.{Within, read_from, NumRead, over, Put}
use Rattle.numbers.proofs.PlaceLaws.{inside, outside, num_holds, num_refused, put_refuses, put_full, put_done, put_then, over_then}
use Rattle.numbers.specs.declared.Fault.{Fault}
use Rattle.numbers.specs.declared.Refusal.{Refusal}
use Rattle.numbers.specs.declared.Refusal.TheVariants as R
use Rattle.utf8.specs.Utf8.{utf8, sound_start, no_zero, zero_at}
use Rattle.utf8.specs.Plain.{short_plain}
use Rattle.utf8.proofs.Plain.{short_text}
use Rattle.utf8.proofs.StartLaws.{zero_in}
use Rattle.strings.specs.Strings.{read_string, string_bytes}
use Rattle.strings.proofs.SpanLaws.{first_refuses, shown_in, shown_out, shown_length, passed, string_passed, passing, string_cut, start_bad, string_held, string_short, text_refused, text_passed}
use Rattle.strings.specs.Spans.{show_span, show_string, Shown, TextCheck, SpanCheck, StrCheck, str_start, str_len, past_str, StrRead, SpanPut, StrPut}

-- ---- a string's bytes, cut out to be looked at

abbrev between : ℕ → ℕ → List ℕ → List ℕ
between x e s = take (e - x) (drop x s)

-- the first zero byte of a part lies within it, or is its end
pub zero_lies : (s : List ℕ) (x y : ℕ) {i : ℕ} → x + y ≤ length s → i ≡ zero_at (between x (x + y) s) → x + i ≤ length s
zero_lies s x y h e =
    let n : x + y - x ≡ y = omega arith in
    let l = zero_in (between x (x + y) s) e in
    let k : length (between x (x + y) s) ≡ y = rw n (shown_length s x y h) in
    omega arith

module _ {s : List ℕ} {x y a i : ℕ} {p : Place} where
  pub text_bad : p ≡ Ok a → utf8 (between x (x + y) s) ≡ false → i ≡ sound_start (between x (x + y) s) → TextCheck s x y p (Err (R.NotUtf8, x + i))
  text_bad e u h =
      let n : x + y - x ≡ y = omega arith in
      let v = rw n at u in
      let g = rw n at h in
      record { is = rw (e, v, g) }

  pub text_zero : p ≡ Ok a → utf8 (between x (x + y) s) ≡ true → no_zero (between x (x + y) s) ≡ false → i ≡ zero_at (between x (x + y) s)
      → TextCheck s x y p (Err (R.ZeroByte, x + i))
  text_zero e u z h =
      let n : x + y - x ≡ y = omega arith in
      let v = rw n at u in
      let w = rw n at z in
      let g = rw n at h in
      record { is = rw (e, v, w, g) }

module _ {s : List ℕ} {x y a : ℕ} {p : Place} where
  pub text_fine : p ≡ Ok a → utf8 (between x (x + y) s) ≡ true → no_zero (between x (x + y) s) ≡ true → TextCheck s x y p (Ok a)
  text_fine e u z =
      let n : x + y - x ≡ y = omega arith in
      let v = rw n at u in
      let w = rw n at z in
      record { is = rw (e, v, w) }

-- a short plain text, cut out
pub text_plain : {s : List ℕ} {x y a : ℕ} {b : Bool} {p : Place} → p ≡ Ok a → b ≡ short_plain (between x (x + y) s) → b ≡ true → TextCheck s x y p (Ok a)
text_plain {s} {x} {y} e f h = let t = short_text (between x (x + y) s) f h in text_fine e t.0 t.1

-- ---- a span

module _ {lent : List ℕ} {x y : ℕ} {t : Bool} where
  pub part_in : Within x y (length lent) t → t ≡ true → Shown lent x y (take (x + y - x) (drop x lent))
  part_in i h = let n : x + y - x ≡ y = omega arith in record { is = rw (n, shown_in lent x y (inside i h)) }

  pub part_out : Within x y (length lent) t → t ≡ false → Shown lent x y []
  part_out i h = record { is = rw (shown_out lent x y (outside i h)) }

  pub span_in_lem : {p : Place} {a : ℕ} → p ≡ Ok a → Within x y (length lent) t → t ≡ true → SpanCheck lent x y p (Ok a)
  span_in_lem e i h = record { is = rw (e, shown_in lent x y (inside i h)) }

  pub span_out : {p : Place} {a : ℕ} → p ≡ Ok a → Within x y (length lent) t → t ≡ false → SpanCheck lent x y p (Err (R.SpanOutside, 0))
  span_out e i h = record { is = rw (e, shown_out lent x y (outside i h)) }

-- ---- a lent string

module _ {lent : List ℕ} {x y : ℕ} {p q : Place} where
  pub str_span : {f : Fault} → SpanCheck lent x y p q → q ≡ Err f → StrCheck lent x y p (Err f)
  unfolding show_string
  str_span c e = record { is = sym (first_refuses (show_span lent x y) _ p (sym c.is ∙ e)) }

  pub str_long : {a : ℕ} → SpanCheck lent x y p q → q ≡ Ok a → 65535 < y → StrCheck lent x y p (Err (R.StringTooLong, 0))
  unfolding show_string
  str_long c e h = let k = passed c e in record { is = rw (k.place, k.shows, lt-leb y 65535 h) }

  pub str_text : {a : ℕ} {r : Place} → SpanCheck lent x y p q → q ≡ Ok a → y ≤ 65535 → TextCheck lent x y (Ok a) r → StrCheck lent x y p r
  unfolding show_string
  str_text c e h d = let k = passed c e in record { is = rw (k.place, k.shows, le-leb y 65535 h) d.is }

-- ---- a string that is read

module _ {s : List ℕ} {p q : Place} where
  refused_str : {k : Refusal} {at : ℕ} → read_from read_string s p ≡ bad k at → q ≡ Err (k, at) → StrRead s p 0 0 q
  unfolding str_start str_len past_str
  refused_str {k} {at} f e = record { start = rw f (sym (start_bad 2 p k at)); len = rw f; next = rw f e }

  pub str_cut : {n : ℕ} {k : Refusal} {at : ℕ} → NumRead 2 s p n q → q ≡ Err (k, at) → StrRead s p 0 0 q
  str_cut r e = refused_str (string_cut s p (num_refused r e).reads) e

module _ {s : List ℕ} {p a : Place} {n e : ℕ} {t : Bool} where
  pub str_short : NumRead 2 s p n a → a ≡ Ok e → Within e n (length s) t → t ≡ false → StrRead s p 0 0 (Err (R.Short, 0))
  str_short r f i h = refused_str (string_short (num_holds (omega arith) r f) (outside i h)) refl

  pub str_bad : {q : Place} {k : Refusal} {at : ℕ} → NumRead 2 s p n a → a ≡ Ok e → Within e n (length s) t → t ≡ true → TextCheck s e n (Ok (e + n)) q → q ≡ Err (k, at) → StrRead s p 0 0 q
  str_bad r f i h c g = refused_str (string_held (num_holds (omega arith) r f) (inside i h) ∙ text_refused c (drop (e + n) s) g) g

  pub str_good : {q : Place} {g : ℕ} → NumRead 2 s p n a → a ≡ Ok e → Within e n (length s) t → t ≡ true → TextCheck s e n (Ok (e + n)) q → q ≡ Ok g → StrRead s p e n q
  unfolding str_start str_len past_str
  str_good r f i h c g =
      let l = inside i h in
      let k = num_holds (omega arith) r f in
      let u = text_passed c (drop (e + n) s) g in
      let v = string_held k l ∙ u.0 in
      let d = length-drop (e + n) s in
      record {
        start = rw (v, k.place) k.ends;
        len = rw v (sym (length-take-le n (drop e s) (simp length-drop (omega arith))));
        next = rw v (u.1 ∙ ap Ok (omega arith));
      }

-- ---- a copy

-- the first eight bytes and the last eight, laid one over the other, are all of eight to sixteen
pub copy_eights : (o lent : List ℕ) (at start len : ℕ) {o1 o2 : List ℕ} → 8 ≤ len → len ≤ 16 → at + len ≤ length o → start + len ≤ length lent → o1 ≡ over o at (take 8 (drop start lent))
    → o2 ≡ over o1 (at + (len - 8)) (take 8 (drop (start + (len - 8)) lent)) → o2 ≡ over o at (take len (drop start lent))
copy_eights o lent at start len {o1} {o2} g l h k e f =
    let m : ℕ = len - 8 in
    let x : List ℕ = drop start lent in
    let b : List ℕ = take 8 (drop m x) in
    let c : take 8 (drop (start + m) lent) ≡ b = ap (take 8) (sym (drop-drop m start lent)) in
    let d : List ℕ = take at o ++ take 8 x in
    let r : List ℕ = drop (at + length (take 8 x)) o in
    let u : length (take 8 x) ≡ 8 = shown_length lent start 8 (omega arith) in
    let v : length b ≡ 8 = ap length (sym c) ∙ shown_length lent (start + m) 8 (omega arith) in
    let t : length (take at o) ≡ at = length-take-le at o (omega arith) in
    let w : length d ≡ at + 8 = length-append (take at o) (take 8 x) ∙ omega arith in
    let front : take (at + m) (d ++ r) ≡ take at o ++ take m x
    = take-append-le (at + m) d r (omega arith) ∙ ap (λ n. take (n + m) d) (sym t) ∙ take-append-add (take at o) (take 8 x) m ∙ ap (λ (z : List ℕ). take at o ++ z) (take-take m 8 x (omega arith)) in
    let n1 : at + m + length b ≡ length d + m = omega arith in
    let n2 : at + length (take 8 x) + m ≡ at + length (take len x) = (let z = shown_length lent start len k in omega arith) in
    let back : drop (at + m + length b) (d ++ r) ≡ drop (at + length (take len x)) o
    = ap (λ n. drop n (d ++ r)) n1 ∙ drop-append-add d r m ∙ drop-drop m (at + length (take 8 x)) o ∙ ap (λ n. drop n o) n2 in
    let n3 : m + 8 ≡ len = omega arith in
    let mid : take m x ++ b ≡ take len x = sym (take-add m 8 x) ∙ ap (λ n. take n x) n3 in
    f ∙ ap (λ (z : List ℕ). over z (at + m) (take 8 (drop (start + m) lent))) e ∙ ap (λ (z : List ℕ). over (d ++ r) (at + m) z) c
    ∙ ap₂ (λ (y z : List ℕ). y ++ b ++ z) front back ∙ ap (λ (z : List ℕ). z ++ drop (at + length (take len x)) o) (append_assoc (take at o) (take m x) b ∙ ap (λ (z : List ℕ). take at o ++ z) mid)

-- the next block is not empty, and no longer than what is left
pub next_block : {n left : ℕ} → n ≡ min left 65536 → 0 < left → (0 < n) × (n ≤ left) × (n ≤ 65536)
next_block e h = (omega arith, omega arith, omega arith)

-- the blocks so far, and one more
pub copy_more : (o0 lent : List ℕ) (at start len done n : ℕ) {o o' : List ℕ} → at + len ≤ length o0 → start + len ≤ length lent → done + n ≤ len
    → o ≡ over o0 at (take done (drop start lent)) → o' ≡ over o (at + done) (take n (drop (start + done) lent)) → o' ≡ over o0 at (take (done + n) (drop start lent))
copy_more o0 lent at start len done n h k l e f =
    let bs = take done (drop start lent) in
    let cs = take n (drop (start + done) lent) in
    let b : length bs ≡ done = shown_length lent start done (omega arith) in
    let t : take (done + n) (drop start lent) ≡ bs ++ cs = take-add done n (drop start lent) ∙ ap (λ (x : List ℕ). bs ++ take n x) (drop-drop done start lent) in
    let m : length (bs ++ cs) ≡ done + n = ap length (sym t) ∙ shown_length lent start (done + n) (omega arith) in
    f ∙ ap (λ (x : List ℕ). over x (at + done) cs) e ∙ ap (λ i. over (over o0 at bs) (at + i) cs) (sym b) ∙ over_then o0 at bs cs (omega arith) ∙ ap (over o0 at) (sym t)

-- ---- bytes that are put

module _ {lent o : List ℕ} {x y : ℕ} {p q : Place} where
  pub bytes_refused : {f : Fault} → SpanCheck lent x y p q → q ≡ Err f → SpanPut lent x y o p o (Err f)
  bytes_refused c e = record { put = rw (← c.is) (put_refuses e) }

  pub bytes_full : {a : ℕ} {t : Bool} → SpanCheck lent x y p q → q ≡ Ok a → Within a y (length o) t → t ≡ false → SpanPut lent x y o p o (Err (R.NoRoom, 0))
  bytes_full c e i h = let k = passed c e in record { put = rw (← c.is, k.shows) (put_full (shown_length lent x y k.lies) e i h) }

  pub bytes_done : {a : ℕ} {t : Bool} {o' : List ℕ} → SpanCheck lent x y p q → q ≡ Ok a → Within a y (length o) t → t ≡ true → o' ≡ over o a (take y (drop x lent))
      → SpanPut lent x y o p o' (Ok (a + y))
  bytes_done c e i h g = let k = passed c e in record { put = rw (← c.is, k.shows) (put_done (shown_length lent x y k.lies) e i h g) }

-- ---- a string that is put

string_length : (lent : List ℕ) (x y : ℕ) → x + y ≤ length lent → length (string_bytes (take y (drop x lent))) ≡ y + 2
unfolding string_bytes
string_length lent x y h =
    let k = shown_length lent x y h in simp (length-append, length_to_le) (omega arith)

pub string_small : {lent : List ℕ} {x y a : ℕ} {p q : Place} → StrCheck lent x y p q → q ≡ Ok a → y ≤ 65535
string_small c e = (string_passed c e).small

module _ {lent o : List ℕ} {x y : ℕ} {p q : Place} where
  pub string_refused : {f : Fault} → StrCheck lent x y p q → q ≡ Err f → StrPut lent x y o p o (Err f)
  string_refused c e = record { put = rw (← c.is) (put_refuses e) }

  pub string_full : {a : ℕ} {t : Bool} → StrCheck lent x y p q → q ≡ Ok a → Within a (y + 2) (length o) t → t ≡ false → StrPut lent x y o p o (Err (R.NoRoom, 0))
  string_full c e i h = let k = string_passed c e in record { put = rw (← c.is, k.shows) (put_full (string_length lent x y k.lies) e i h) }

  pub string_done : {a : ℕ} {t : Bool} {o1 o2 : List ℕ} {m r : Place} → StrCheck lent x y p q → q ≡ Ok a → Within a (y + 2) (length o) t → t ≡ true → Put (to_le 2 y) o (Ok a) o1 m
      → SpanPut lent x y o1 m o2 r → StrPut lent x y o p o2 r
  unfolding string_bytes
  string_done {m = m} c e i h f g =
      let k = string_passed c e in
      let n = shown_length lent x y k.lies in
      let s = shown_in lent x y k.lies in
      record { put = rw (← c.is, e, k.shows, n) (put_then f (rw (s, passing (take y (drop x lent)) [] m) at g.put) refl (simp (length-append, length_to_le) (rw n (let l = inside i h in omega arith)))) }
