-- What holds of the definitions in specs/Utf8Laws.antt.
use Rattle.std.specs.Prelude.{ℕ, zero, suc, ◌+◌, ◌≤◌, ◌<◌, ◌≡◌, refl, Bool, true, false, cond, List, [], ◌∷◌, length, drop, get_or, leb}
use Rattle.std.proofs.Common.{arith, sym, ap, ◌∙◌, length-drop, drop_of_length-le, drop-cons, drop-drop, add-one}
use Rattle.std.proofs.Math.Decide.{dec_le}
use Rattle.std.proofs.Math.Dec.{leb-zero}
use Rattle.std.proofs.lemmas.Bool.{and_parts}
use borrow.Author.Tests.{le-leb, leb-true, ne_eqb, eq-eqb}
use Rattle.utf8.specs.Utf8.{Range, ◌to◌, in_range, rows, fits, char_in, char, CharAt, chars, utf8, no_zero}
use Rattle.utf8.specs.Utf8Laws.{least_of, greatest_of}

-- ---- a character is there

pub fits_length : (rs : List Range) (bs : List ℕ) → fits rs bs ≡ true → length rs ≤ length bs
fits_length [] bs e = omega arith
fits_length (r ∷ rs) [] e = cc
fits_length (r ∷ rs) (b ∷ bs) e = let h = fits_length rs bs ((and_parts (in_range r b) (fits rs bs) e).1) in omega arith

char_in_length : (rs : List (List Range)) (bs : List ℕ) → char_in rs bs ≤ length bs
char_in_length [] bs = omega arith
char_in_length (r ∷ rs) bs = go (fits r bs) refl (char_in_length rs bs)
  where
    go : (t : Bool) → fits r bs ≡ t → char_in rs bs ≤ length bs → cond t (length r) (char_in rs bs) ≤ length bs
    go true e h = fits_length r bs e
    go false e h = h

pub char_length : (bs : List ℕ) → char bs ≤ length bs
unfolding char
char_length bs = char_in_length rows bs

-- ---- one character on

skip : (k : ℕ) (bs : List ℕ) → k ≤ length bs → chars k bs ≡ chars 0 (drop k bs)
unfolding chars
skip zero bs h = refl
skip (suc k) [] h = absurd (omega arith)
skip (suc k) (b ∷ bs) h = skip k bs (omega arith)

abbrev pub next : ℕ → List ℕ → Bool
next n bs = elim n [ zero ↦ false | suc k ↦ chars k bs ]

pub chars_cons : (b : ℕ) (bs : List ℕ) → chars 0 (b ∷ bs) ≡ next (char (b ∷ bs)) bs
unfolding chars
chars_cons b bs = refl

-- a character that is there is passed over
pub one_char : (bs : List ℕ) (k : ℕ) → k ≡ char bs → (k ≡ 0 → ⊥) → utf8 bs ≡ utf8 (drop k bs)
unfolding utf8
one_char bs zero e h = absurd (h refl)
one_char [] (suc k) e h = absurd (let l = char_length [] in omega arith)
one_char (b ∷ bs) (suc k) e h =
    chars_cons b bs ∙ ap (λ (n : ℕ). next n bs) (sym e) ∙ skip k bs (let l = char_length (b ∷ bs) in omega arith)

-- ---- the loop over the characters of s, i bytes on

pub char_in_lem : {s : List ℕ} {i k : ℕ} → CharAt s i k → i ≤ length s → i + k ≤ length s
char_in_lem {s} {i} {k} a h =
    let l = char_length (drop i s) in
    let d = length-drop i s in
    let e = a.is in
    omega arith

pub char_inside : (s : List ℕ) (i k : ℕ) → i < length s → CharAt s i k → i + k ≤ length s
char_inside s i k h a = char_in_lem a (omega arith)

pub char_turn : {s : List ℕ} {i k : ℕ} {x : Bool} → CharAt s i k → (k ≡ 0 → ⊥) → utf8 (drop i s) ≡ x → utf8 (drop (i + k) s) ≡ x
char_turn {s} {i} {k} a h e = ap utf8 (sym (drop-drop k i s)) ∙ sym (one_char (drop i s) k a.is h) ∙ e

pub chars_over : (s : List ℕ) (i : ℕ) {x : Bool} → length s ≤ i → utf8 (drop i s) ≡ x → true ≡ x
unfolding utf8 chars
chars_over s i h e = sym (ap (λ (l : List ℕ). utf8 l) (drop_of_length-le s h)) ∙ e

-- ---- plain text

pub ascii_char : (b : ℕ) (bs : List ℕ) → b < 128 → char (b ∷ bs) ≡ 1
unfolding char
ascii_char b bs h = rw (leb-zero b, le-leb b 127 (omega arith))

-- a byte below 128 is passed over
pub ascii_turn : (s : List ℕ) (i : ℕ) {x : Bool} → i < length s → get_or s i 0 < 128 → utf8 (drop i s) ≡ x → utf8 (drop (i + 1) s) ≡ x
ascii_turn s i l h =
    let c : 1 ≡ char (drop i s) = sym (ap char (drop-cons s i 0 l) ∙ ascii_char (get_or s i 0) (drop (suc i) s) h) in
    char_turn {s = s} {i = i} (record { is = c }) (λ z. omega arith)

pub ascii_text : (bs : List ℕ) → greatest_of bs < 128 → utf8 bs ≡ true
unfolding utf8 chars greatest_of
ascii_text [] h = refl
ascii_text (b ∷ bs) h =
    ap (λ (n : ℕ). next n bs) (ascii_char b bs (omega arith)) ∙ ascii_text bs (omega arith)

pub zero_text : (bs : List ℕ) → least_of bs ≡ 0 → no_zero bs ≡ false
unfolding no_zero least_of
zero_text [] h = absurd (omega arith)
zero_text (b ∷ bs) h =
    elim (dec_le b 0) [ yes k ↦ rw (eq-eqb b 0 (omega arith)) | no k ↦ rw (ne_eqb b 0 (λ e. k (omega arith))) (zero_text bs (omega arith)) ]

pub full_text : (bs : List ℕ) → (least_of bs ≡ 0 → ⊥) → no_zero bs ≡ true
unfolding no_zero least_of
full_text [] h = refl
full_text (b ∷ bs) h =
    rw (ne_eqb b 0 (λ e. h (omega arith))) (full_text bs (λ e. h (omega arith)))

-- ---- a plain byte: one character, and not zero

plain_low : (b : ℕ) {t : Bool} → t ≡ in_range (1 to 127) b → t ≡ true → 1 ≤ b
plain_low b e h = leb-true 1 b ((and_parts (leb 1 b) (leb b 127) (sym e ∙ h)).0)

plain_high : (b : ℕ) {t : Bool} → t ≡ in_range (1 to 127) b → t ≡ true → b ≤ 127
plain_high b e h = leb-true b 127 ((and_parts (leb 1 b) (leb b 127) (sym e ∙ h)).1)

module _ (s : List ℕ) (i : ℕ) {t x : Bool} (l : i < length s) (e : t ≡ in_range (1 to 127) (get_or s i 0)) (h : t ≡ true) where
  pub plain_turn : utf8 (drop i s) ≡ x → utf8 (drop (i + 1) s) ≡ x
  plain_turn = ascii_turn s i l (let k = plain_high (get_or s i 0) e h in omega arith)

  pub plain_full : no_zero (drop i s) ≡ x → no_zero (drop (i + 1) s) ≡ x
  unfolding no_zero
  plain_full z =
      let k = plain_low (get_or s i 0) e h in rw (add-one i) (rw (drop-cons s i 0 l, ne_eqb (get_or s i 0) 0 (λ w. omega arith)) at z)

pub full_over : (s : List ℕ) (i : ℕ) {x : Bool} → length s ≤ i → no_zero (drop i s) ≡ x → true ≡ x
unfolding no_zero
full_over s i h e = sym (ap (λ (l : List ℕ). no_zero l) (drop_of_length-le s h)) ∙ e
