-- What a turn does, and how it begins and ends, for the loops over a line's characters and over its bytes.
use Rattle.std.proofs.Common.{◌≡◌, ℕ, zero, suc, ◌+◌, ◌-◌, ◌*◌, ◌/◌, ◌<◌, ◌≤◌, min, Bool, true, false, cond, ltb, List, [], ◌∷◌, ◌++◌, length, get_or, take, drop, set, sym, refl, ap, ◌∙◌, zero-add, add-one, arith, length-append, length-drop, take-append-drop, drop_of_length-le, length-take, length-take-le, drop-cons, drop-drop, take-suc-set, take_at, drop-set-lt, le-ltb, lt-ltb}
use native.Mathlib.Decide.{dec_le}
use Rattle.std.specs.List.{take_while, prefix_len}
use Rattle.std.proofs.lemmas.List.Folds.{length-prefix_len}
use lib.Seq.{drop-append-add, sets, sets-eq, take-nil}
use Rattle.questions.specs.Questions.{is_figure, run, next_at, tens, figures_in, value, spelt, grown, Laid}

-- ---- where the numbers end

prefix_is : (s : List ℕ) → prefix_len is_figure s ≡ run s
unfolding run
prefix_is [] = refl
prefix_is (c ∷ cs) = let h = prefix_is cs in ap (λ (n : ℕ). cond (is_figure c) n 0) (omega arith)

pub run_is : (s : List ℕ) → length (take_while is_figure s) ≡ run s
run_is s = length-prefix_len is_figure s ∙ prefix_is s

-- ---- the numbers

pub numbers_turn : (s ns : List ℕ) (i k j n : ℕ) {x : List ℕ} → i < length s → j ≡ next_at k (get_or s i 0) → n ≡ tens (get_or ns j 0) (get_or s i 0)
    → figures_in k ns (drop i s) ≡ x → figures_in j (set ns j n) (drop (i + 1) s) ≡ x
unfolding figures_in
numbers_turn s ns i k j n l f g e = rw (add-one i, g, f) (rw (drop-cons s i 0 l) at e)

pub numbers_over : (s ns : List ℕ) (i k : ℕ) {x : List ℕ} → length s ≤ i → figures_in k ns (drop i s) ≡ x → ns ≡ x
unfolding figures_in
numbers_over s ns i k l e = rw (drop_of_length-le s l) at e

-- ---- bytes spelt

-- what is still to come at the front of an output of n bytes, i bytes on
abbrev pub rest : List ℕ → ℕ → ℕ → List ℕ
rest hex n i = take (n - i) (spelt (drop (i * 2) hex))

-- one pair of digits more
pair : (hex : List ℕ) (i : ℕ) → i * 2 + 1 < length hex → drop (i * 2) hex ≡ get_or hex (i * 2) 0 ∷ get_or hex (i * 2 + 1) 0 ∷ drop ((i + 1) * 2) hex
pair hex i l =
    let e : suc (i * 2) ≡ i * 2 + 1 = omega arith in
    let f : suc (i * 2 + 1) ≡ (i + 1) * 2 = omega arith in
    rw (drop-cons hex (i * 2) 0 (omega arith), e, drop-cons hex (i * 2 + 1) 0 l, f)

module _ (hex : List ℕ) (n i : ℕ) {a b : ℕ} (l : i * 2 + 1 < length hex) (m : i < n) (d : a ≡ value (get_or hex (i * 2) 0)) (e : b ≡ value (get_or hex (i * 2 + 1) 0)) where
  pub rest_turn : a * 16 + b ≤ 255 → rest hex n i ≡ (a * 16 + b) ∷ rest hex n (i + 1)
  unfolding spelt
  rest_turn h =
      let f : n - i ≡ suc (n - (i + 1)) = omega arith in
      let g = le-ltb 255 (a * 16 + b) h in
      rw (pair hex i l, f, ← d, ← e, g)

  pub rest_stops : 255 < a * 16 + b → rest hex n i ≡ []
  unfolding spelt
  rest_stops h =
      let f : n - i ≡ suc (n - (i + 1)) = omega arith in
      let g = lt-ltb 255 (a * 16 + b) h in
      rw (pair hex i l, f, ← d, ← e, g)

short : (xs : List ℕ) → length xs ≤ 1 → spelt xs ≡ []
unfolding spelt
short [] h = refl
short (a ∷ []) h = refl
short (a ∷ b ∷ xs) h = absurd (omega arith)

pub rest_over : (hex : List ℕ) (n i : ℕ) → min (length hex / 2) n ≤ i → rest hex n i ≡ []
rest_over hex n i h =
    elim (dec_le n i) [
      | yes l ↦ let e : n - i ≡ 0 = omega arith in rw e
      | no l ↦ let e = short (drop (i * 2) hex) (simp length-drop (omega arith)) in rw (e, take-nil)
    ]

-- the bytes set one by one stand at the front
laid : (o o' bs : List ℕ) (n : ℕ) → length bs ≤ length o → o' ≡ sets o 0 bs → n ≡ length bs → Laid bs o o' n
laid o o' bs n h e c =
    let z : 0 + length bs ≡ length bs = omega arith in
    record { out = e ∙ sets-eq bs o 0 (omega arith) ∙ rw z; count = c }

-- no more bytes are spelt than there is room for, nor than there are pairs of digits
pub spelt_fits : (n : ℕ) (xs : List ℕ) → length (take n (spelt xs)) ≤ n
spelt_fits n xs = simp length-take (omega arith)

pairs : (xs : List ℕ) → length (spelt xs) * 2 ≤ length xs
unfolding spelt
pairs [] = omega arith
pairs (a ∷ []) = omega arith
pairs (a ∷ b ∷ xs) = go (ltb 255 (value a * 16 + value b)) (pairs xs)
  where
    go : (t : Bool) → length (spelt xs) * 2 ≤ length xs → length (cond t [] ((value a * 16 + value b) ∷ spelt xs)) * 2 ≤ length (a ∷ b ∷ xs)
    go true h = omega arith
    go false h = omega arith

pub spelt_pairs : (n : ℕ) (xs : List ℕ) → length (take n (spelt xs)) * 2 ≤ length xs
spelt_pairs n xs = let h = pairs xs in simp length-take (omega arith)

-- a byte more is set; none is left
pub spell_turn : (o : List ℕ) (i v : ℕ) {bs cs x : List ℕ} → bs ≡ v ∷ cs → sets o i bs ≡ x → sets (set o i v) (i + 1) cs ≡ x
spell_turn o i v {bs} {cs} e h = rw (add-one i) (rw e at h)

pub spell_over : (o o' : List ℕ) (i n : ℕ) {bs : List ℕ} (xs : List ℕ) → bs ≡ [] → n ≡ length o → sets o' i bs ≡ sets o 0 (take n (spelt xs))
    → i + length bs ≡ length (take n (spelt xs)) → Laid (take n (spelt xs)) o o' i
spell_over o o' i n {bs} xs e l h c = laid o o' (take n (spelt xs)) i (let f = spelt_fits n xs in omega arith) (rw e at h) (let z = ap length e in omega arith)

-- ---- bytes repeated: one more, and none left

pub grown_turn : (o : List ℕ) (i k m v : ℕ) {x : List ℕ} → i < length o → i < m → v ≡ get_or (take i o) (i - k) 0 → grown (m - i) k (take i o) ≡ x
    → grown (m - (i + 1)) k (take (i + 1) (set o i v)) ≡ x
unfolding grown
grown_turn o i k m v l h e g =
    let f : m - i ≡ suc (m - (i + 1)) = omega arith in
    let t = length-take-le i o (omega arith) in
    let a : take (i + 1) (set o i v) ≡ take i o ++ (get_or (take i o) (length (take i o) - k) 0 ∷ []) = rw (add-one i, take-suc-set o i v l, e, t) in
    ap (λ (bs : List ℕ). grown (m - (i + 1)) k bs) a ∙ ap (λ (n : ℕ). grown n k (take i o)) (sym f) ∙ g

pub grown_over : (i k m : ℕ) (bs : List ℕ) {x : List ℕ} → m ≤ i → grown (m - i) k bs ≡ x → bs ≡ x
unfolding grown
grown_over i k m bs h e = let z : m - i ≡ 0 = omega arith in rw z at e

length_grown : (n k : ℕ) (bs : List ℕ) → length (grown n k bs) ≡ n + length bs
unfolding grown
length_grown zero k bs = sym (zero-add (length bs))
length_grown (suc n) k bs = let h = length_grown n k (bs ++ (get_or bs (length bs - k) 0 ∷ [])) in omega (arith, simp length-append at h)

-- what stands after the byte that is set is as it was
pub after_turn : (o o' : List ℕ) (i v : ℕ) → drop i o' ≡ drop i o → drop (i + 1) (set o' i v) ≡ drop (i + 1) o
after_turn o o' i v e = drop-set-lt (i + 1) o' i v (omega arith) ∙ sym (drop-drop 1 i o') ∙ ap (drop 1) e ∙ drop-drop 1 i o

-- the front is as it shall be, and after it the output is as it was
pub laid_front : (o o' bs : List ℕ) (i : ℕ) → i ≤ length o' → take i o' ≡ bs → drop i o' ≡ drop i o → Laid bs o o' i
laid_front o o' bs i h e f =
    let l : length bs ≡ i = ap length (sym e) ∙ length-take-le i o' h in
    record { out = sym (take-append-drop i o') ∙ rw (e, f, l); count = sym l }

-- ---- bytes laid over an output, and more after them

pub laid_then : (o o1 o2 bs : List ℕ) (n h most k : ℕ) → length bs ≤ length o → Laid bs o o1 n → Laid (grown (min most (length o1) - n) k (take n o1)) o1 o2 h
    → Laid (grown (min most (length o) - length bs) k bs) o o2 h
laid_then o o1 o2 bs n h most k l a b =
    let e = a.out in
    let c = a.count in
    let t : take n o1 ≡ bs = rw e (take_at bs (drop (length bs) o) n (sym c)) in
    let m : length o1 ≡ length o = rw (e, length-append, length-drop) (omega arith) in
    let g : grown (min most (length o1) - n) k (take n o1) ≡ grown (min most (length o) - length bs) k bs = rw (t, m, c) in
    let f = rw g at b in
    let x = min most (length o) - length bs in
    let y : length (grown x k bs) ≡ length bs + x = (let z = length_grown x k bs in omega arith) in
    let d : drop (length (grown x k bs)) o1 ≡ drop (length (grown x k bs)) o
    = rw (y, e, drop-append-add bs (drop (length bs) o) x, drop-drop x (length bs) o) in
    record { out = f.out ∙ ap (λ (r : List ℕ). grown x k bs ++ r) d; count = f.count }
