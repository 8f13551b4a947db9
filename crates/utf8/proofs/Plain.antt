-- What holds of the definitions in specs/Plain.antt.
use Rattle.std.specs.Prelude.{ℕ, zero, suc, ◌+◌, ◌-◌, ◌≤◌, ◌<◌, ◌≡◌, refl, Bool, true, false, cond, ◌&&◌, List, [], ◌∷◌, ◌++◌, length, take, drop, get_or, leb, ltb, fold}
use Rattle.std.proofs.Common.{arith, ap, ◌∙◌, take-append-drop, length-take-le, take-suc, take-add, take_all, get_or-take, get_or-drop, drop-drop, add-one}
use Rattle.std.proofs.Math.Decide.{dec_le}
use Rattle.std.proofs.lemmas.Bool.Decides.{nat_tests}
use Rattle.std.proofs.Math.Path.{sym, ap₂}
use Rattle.std.proofs.Math.ListN.{length-drop}
use Rattle.std.proofs.Math.Bool.{and_assoc}
use Rattle.std.proofs.lemmas.Bool.{and_parts}
use borrow.Author.Tests.{le-leb, lt-leb, leb-true, lt-ltb, le-ltb}
use Rattle.utf8.specs.Utf8.{◌to◌, in_range, utf8, no_zero}
use Rattle.utf8.specs.Utf8Laws.{least_of, greatest_of}
use Rattle.utf8.proofs.Utf8Laws.{ascii_text, full_text}
use Rattle.utf8.specs.Plain.{all_plain, plain_at, short_plain}

-- ---- plain text is UTF-8, and has no zero byte

pub in_range_lem : (b : ℕ) → in_range (1 to 127) b ≡ true → (1 ≤ b) × (b ≤ 127)
in_range_lem b h = let p = and_parts (leb 1 b) (leb b 127) h in (leb-true 1 b p.0, leb-true b 127 p.1)

extremes : (s : List ℕ) → all_plain s ≡ true → (0 < least_of s) × (greatest_of s < 128)
unfolding all_plain least_of greatest_of
extremes [] h = (omega arith, omega arith)
extremes (b ∷ bs) h =
    let p = and_parts (in_range (1 to 127) b) (all_plain bs) h in
    let r = in_range_lem b p.0 in
    let l = r.0 in
    let g = r.1 in
    let i = extremes bs p.1 in
    let m = i.0 in
    let n = i.1 in
    (omega arith, omega arith)

pub plain_text : (s : List ℕ) → all_plain s ≡ true → (utf8 s ≡ true) × (no_zero s ≡ true)
plain_text s h = let e = extremes s h in (ascii_text s e.1, full_text s (λ z. let l = e.0 in omega arith))

-- ---- more bytes

pub all_append : (xs ys : List ℕ) → all_plain (xs ++ ys) ≡ all_plain xs && all_plain ys
unfolding all_plain
all_append [] ys = refl
all_append (x ∷ xs) ys = ap (λ b. in_range (1 to 127) x && b) (all_append xs ys) ∙ sym (and_assoc (in_range (1 to 127) x) (all_plain xs) (all_plain ys))

and_true : (a : Bool) → a && true ≡ a
and_true true = refl
and_true false = refl

all_one : (b : ℕ) → all_plain (b ∷ []) ≡ in_range (1 to 127) b
unfolding all_plain
all_one b = and_true (in_range (1 to 127) b)

none_plain : (s : List ℕ) (i : ℕ) → true ≡ all_plain (take 0 (drop i s))
unfolding all_plain
none_plain s i = refl

module _ (s : List ℕ) (i : ℕ) where
  pub more_plain : {a b : Bool} (n : ℕ) → i + n < length s → a ≡ all_plain (take n (drop i s)) → b ≡ in_range (1 to 127) (get_or s (i + n) 0) → a && b ≡ all_plain (take (n + 1) (drop i s))
  more_plain {a} {b} n l f g =
      let d = length-drop i s in
      let e : take (n + 1) (drop i s) ≡ take n (drop i s) ++ (get_or s (i + n) 0 ∷ []) = ap (λ m. take m (drop i s)) (add-one n) ∙ take-suc (drop i s) n 0 (omega arith) ∙ ap (λ b. take n (drop i s) ++ (b ∷ [])) (get_or-drop i s n 0) in
      sym (ap all_plain e ∙ all_append (take n (drop i s)) (get_or s (i + n) 0 ∷ []) ∙ ap₂ (λ x y. x && y) (sym f) (all_one (get_or s (i + n) 0) ∙ sym g))

  pub one_plain : {b : Bool} → i < length s → b ≡ in_range (1 to 127) (get_or s i 0) → b ≡ all_plain (take 1 (drop i s))
  one_plain {b} l g = let z : i ≡ i + 0 = omega arith in more_plain {a = true} 0 (omega arith) (none_plain s i) (g ∙ ap (λ j. in_range (1 to 127) (get_or s j 0)) z)

  pub plain_held : (n : ℕ) {b : Bool} → i + n ≤ length s → b ≡ all_plain (take n (drop i s)) → b ≡ plain_at s i n
  unfolding plain_at
  plain_held n h e = rw (le-leb (i + n) (length s) h) e

  pub plain_past : (n : ℕ) → length s < i + n → false ≡ plain_at s i n
  unfolding plain_at
  plain_past n h = rw (lt-leb (i + n) (length s) h)

-- all bytes are tested, as code that sees them at once does
plain_from : (bs : List ℕ) (t : Bool) → fold (λ t b. t && in_range (1 to 127) b) t bs ≡ t && all_plain bs
unfolding all_plain
plain_from [] true = refl
plain_from [] false = refl
plain_from (b ∷ bs) t = plain_from bs (t && in_range (1 to 127) b) ∙ and_assoc t (in_range (1 to 127) b) (all_plain bs)

pub plain_at_is : (s : List ℕ) (i n : ℕ) → plain_at s i n ≡ cond (leb (i + n) (length s)) (fold (λ t b. t && in_range (1 to 127) b) true (take n (drop i s))) false
unfolding plain_at
plain_at_is s i n = ap (λ t. cond (leb (i + n) (length s)) t false) (sym (plain_from (take n (drop i s)) true))

pub plain_folded : (s : List ℕ) (i n : ℕ) → i + n ≤ length s → fold (λ t b. t && in_range (1 to 127) b) true (take (i + n - i) (drop i s)) ≡ plain_at s i n
plain_folded s i n h = let e : i + n - i ≡ n = omega arith in rw (e, plain_at_is s i n, le-leb (i + n) (length s) h)

-- each of them is plain
all_each : (xs : List ℕ) (j : ℕ) → all_plain xs ≡ true → j < length xs → in_range (1 to 127) (get_or xs j 0) ≡ true
unfolding all_plain
all_each [] j h l = absurd (omega arith)
all_each (x ∷ xs) zero h l = (and_parts (in_range (1 to 127) x) (all_plain xs) h).0
all_each (x ∷ xs) (suc j) h l = all_each xs j (and_parts (in_range (1 to 127) x) (all_plain xs) h).1 (omega arith)

pub plain_each : (s : List ℕ) (i n j : ℕ) {b : Bool} → b ≡ plain_at s i n → b ≡ true → i ≤ j → j < i + n → in_range (1 to 127) (get_or s j 0) ≡ true
unfolding plain_at
plain_each s i n j {b} e h l m = go (leb (i + n) (length s)) refl (sym e ∙ h)
  where
    go : (t : Bool) → leb (i + n) (length s) ≡ t → cond t (all_plain (take n (drop i s))) false ≡ true → in_range (1 to 127) (get_or s j 0) ≡ true
    go true g f =
        let k = leb-true (i + n) (length s) g in
        let d = length-drop i s in
        let z : i + (j - i) ≡ j = omega arith in
        let w = length-take-le n (drop i s) (omega arith) in
        ap (λ (x : ℕ). in_range (1 to 127) x) (sym (get_or-take n (drop i s) (j - i) 0 (omega arith) ∙ get_or-drop i s (j - i) 0 ∙ ap (λ x. get_or s x 0) z)) ∙ all_each (take n (drop i s)) (j - i) f (omega arith)
    go false g f = cc

-- ---- the first eight and the last eight, which may overlap

overlap : (x y d : Bool) → (x && y) && (y && d) ≡ (x && y) && d
overlap true true d = refl
overlap true false d = refl
overlap false y d = refl

module _ (s : List ℕ) (l : 8 ≤ length s) (h : length s ≤ 16) where
  abbrev m : ℕ
  m = length s - 8

  abbrev k : ℕ
  k = 16 - length s

  abbrev middle : List ℕ
  middle = take k (drop m s)

  first : all_plain (take 8 s) ≡ all_plain (take m s) && all_plain middle
  first = let e : 8 ≡ m + k = omega arith in ap (λ n. all_plain (take n s)) e ∙ ap all_plain (take-add m k s) ∙ all_append (take m s) middle

  last : all_plain (drop m s) ≡ all_plain middle && all_plain (drop 8 s)
  last =
      let e : m + k ≡ 8 = omega arith in
      ap all_plain (sym (take-append-drop k (drop m s))) ∙ all_append middle (drop k (drop m s)) ∙ ap (λ (z : List ℕ). all_plain middle && all_plain z) (drop-drop k m s ∙ ap (λ n. drop n s) e)

  whole : all_plain s ≡ all_plain (take 8 s) && all_plain (drop 8 s)
  whole = ap all_plain (sym (take-append-drop 8 s)) ∙ all_append (take 8 s) (drop 8 s)

  eights : all_plain (take 8 s) && all_plain (drop m s) ≡ all_plain s
  eights =
      ap₂ (λ x y. x && y) first last ∙ overlap (all_plain (take m s)) (all_plain middle) (all_plain (drop 8 s)) ∙ ap (λ x. x && all_plain (drop 8 s)) (sym first) ∙ sym whole

  both_eights : short_plain s ≡ plain_at s 0 8 && plain_at s (length s - 8) 8
  unfolding plain_at short_plain
  both_eights =
      let d = length-drop m s in
      rw (le-ltb (length s) 8 l, le-ltb 16 (length s) h, le-leb (0 + 8) (length s) (omega arith), le-leb (m + 8) (length s) (omega arith), take_all 8 (drop m s) (omega arith)) (sym eights)

  pub short_is : {a b : Bool} → a ≡ plain_at s 0 8 → b ≡ plain_at s (length s - 8) 8 → a && b ≡ short_plain s
  short_is f g = ap₂ (λ x y. x && y) f g ∙ sym both_eights

pub short_few : (s : List ℕ) → length s < 8 → false ≡ short_plain s
unfolding short_plain
short_few s h = rw (lt-ltb (length s) 8 h)

pub short_plain_is : (s : List ℕ) → short_plain s ≡ cond (leb 8 (length s)) (cond (leb (length s) 16) (plain_at s 0 8 && plain_at s (length s - 8) 8) false) false
unfolding short_plain
short_plain_is s =
    elim (dec_le 8 (length s)) [
      | yes l ↦ elim (dec_le (length s) 16) [ yes h ↦ rw (le-leb 8 (length s) l, le-leb (length s) 16 h) (both_eights s l h) | no h ↦ grind (arith, nat_tests) ]
      | no l ↦ grind (arith, nat_tests)
    ]

pub short_many : (s : List ℕ) → 16 < length s → false ≡ short_plain s
unfolding short_plain
short_many s h = grind (arith, nat_tests)

-- what a short plain text is
pub short_text : (s : List ℕ) {b : Bool} → b ≡ short_plain s → b ≡ true → (utf8 s ≡ true) × (no_zero s ≡ true)
unfolding short_plain
short_text s {b} e h = plain_text s (go (ltb (length s) 8) (ltb 16 (length s)) (sym e ∙ h))
  where
    go : (x y : Bool) → cond x false (cond y false (all_plain s)) ≡ true → all_plain s ≡ true
    go true y f = cc
    go false true f = cc
    go false false f = f
