-- Which row of the RFC the bytes fit: octet by octet, and the row that a first octet begins.
use Prim.Native.Nat.{ℕ, zero, suc, ◌+◌, ◌≤◌, ◌<◌}
use native.Mathlib.Omega.{arith}
use native.Mathlib.Numerals.{add-one}
use mathlib.Core.Path.{◌≡◌, refl, sym, ap, ◌∙◌}
use mathlib.Core.Bool.{Bool, true, false, cond, ◌&&◌}
use mathlib.Core.List.{List, [], ◌∷◌, ◌++◌}
use lib.ListN.{length, take, drop, get_or, length-drop, drop_of_length-le, take-append-drop}
use lib.Seq.{drop-cons}
use lib.Dec.{leb, ltb, lit<}
use Rattle.std.proofs.Math.Bool.{and-false}
use Rattle.std.proofs.lemmas.Bool.{and_parts}
use borrow.Author.Tests.{le-leb, lt-leb, leb-true, ltb-true}
use Rattle.std.specs.Prelude.{map, zip}
use Rattle.std.specs.List.{list_all}
use Rattle.utf8.specs.declared.Octets.{Octets}
use Rattle.utf8.specs.Utf8.{Range, ◌to◌, in_range, rows, fits, char_in, char, CharAt}
use Rattle.utf8.specs.Utf8Laws.{Rest}
use Rattle.utf8.proofs.Utf8Laws.{fits_length}

-- ---- the octets after the first

-- whether the bytes of s from `at` on begin with an octet of each range
pub record FitsAt (rs : List Range) (s : List ℕ) (at : ℕ) (r : Bool) : Type 0 where
  pub is : r ≡ fits rs (drop at s)

pub no_more : {s : List ℕ} {at : ℕ} → FitsAt [] s at true
no_more = record { is = refl }

module _ {r : Range} {rs : List Range} {s : List ℕ} {at : ℕ} {t : Bool} (h : at < length s) (e : t ≡ in_range r (get_or s at 0)) where
  pub goes_on : {next : ℕ} {u : Bool} → t ≡ true → at + 1 ≡ next → FitsAt rs s next u → FitsAt (r ∷ rs) s at u
  goes_on k f b = record {
    is = b.is ∙ ap (λ n. fits rs (drop n s)) (sym f ∙ add-one at) ∙ rw (drop-cons s at 0 h, sym e ∙ k);
  }

  pub breaks : t ≡ false → FitsAt (r ∷ rs) s at false
  breaks k = record { is = rw (drop-cons s at 0 h, sym e ∙ k) }

module _ {rs : List Range} {s : List ℕ} {i : ℕ} where
  pub hit : FitsAt rs s (i + 1) true → Rest rs s i (suc (length rs))
  hit a = record { is = rw (sym a.is) }

  pub miss : FitsAt rs s (i + 1) false → Rest rs s i 0
  miss a = record { is = rw (sym a.is) }

  -- the text ends before the row does
  pub cut_off : i < length s → length s < i + suc (length rs) → Rest rs s i 0
  cut_off g h = record { is = go (fits rs (drop (i + 1) s)) refl }
    where
      go : (t : Bool) → fits rs (drop (i + 1) s) ≡ t → 0 ≡ cond t (suc (length rs)) 0
      go true e = absurd (let l = fits_length rs (drop (i + 1) s) e in let d = length-drop (i + 1) s in omega arith)
      go false e = refl

abbrev pub range_of : Octets → Range
range_of r = r.0 to r.1

-- the test of each byte with its range, as code makes it
pub tested_in_order : (s : List ℕ) (rs : List Octets) → length rs ≤ length s → list_all (λ p. in_range (range_of p.1) p.0) (zip s rs) ≡ fits (map (λ r. r.0 to r.1) rs) s
tested_in_order [] [] h = refl
tested_in_order (b ∷ bs) [] h = refl
tested_in_order [] (r ∷ rs) h = absurd (omega arith)
tested_in_order (b ∷ bs) (r ∷ rs) h = ap (λ t. in_range (range_of r) b && t) (tested_in_order bs rs (omega arith))

pub too_few_octets : (s : List ℕ) (rs : List Octets) → length s < length rs → fits (map (λ r. r.0 to r.1) rs) s ≡ false
too_few_octets [] [] h = absurd (omega arith)
too_few_octets (b ∷ bs) [] h = absurd (omega arith)
too_few_octets [] (r ∷ rs) h = refl
too_few_octets (b ∷ bs) (r ∷ rs) h = rw (too_few_octets bs rs (omega arith)) (and-false (in_range (range_of r) b))

-- ---- the row that an octet begins: the first ranges rise, so that no other row has it

abbrev low : List Range → ℕ
low [] = 0
low (lo to hi ∷ row) = lo

abbrev high : List Range → ℕ
high [] = 0
high (lo to hi ∷ row) = hi

abbrev others : List Range → List Range
others [] = []
others (r ∷ row) = row

-- every row begins above h
abbrev above : ℕ → List (List Range) → Bool
above h [] = true
above h ([] ∷ rs) = false
above h ((lo to hi ∷ row) ∷ rs) = ltb h lo && above h rs

abbrev rising : List (List Range) → Bool
rising [] = true
rising ([] ∷ rs) = false
rising ((lo to hi ∷ row) ∷ rs) = above hi rs && rising rs

row_above : (h : ℕ) (rs : List (List Range)) (n : ℕ) → above h rs ≡ true → n < length rs → h < low (get_or rs n [])
row_above h [] n e l = absurd (omega arith)
row_above h ([] ∷ rs) n e l = cc
row_above h ((lo to hi ∷ row) ∷ rs) zero e l = ltb-true h lo (and_parts (ltb h lo) (above h rs) e).0
row_above h ((lo to hi ∷ row) ∷ rs) (suc n) e l = row_above h rs n (and_parts (ltb h lo) (above h rs) e).1 (omega arith)

none_above : (h b : ℕ) (bs : List ℕ) → b ≤ h → (rs : List (List Range)) → above h rs ≡ true → char_in rs (b ∷ bs) ≡ 0
none_above h b bs l [] e = refl
none_above h b bs l ([] ∷ rs) e = cc
none_above h b bs l ((lo to hi ∷ row) ∷ rs) e =
    let (p, q) = and_parts (ltb h lo) (above h rs) e in
    rw (lt-leb lo b (let k = ltb-true h lo p in omega arith)) (none_above h b bs l rs q)

-- an octet in the first range of row n
begun : (b : ℕ) (bs : List ℕ) (rs : List (List Range)) → rising rs ≡ true → (n : ℕ) → n < length rs → low (get_or rs n []) ≤ b → b ≤ high (get_or rs n [])
    → char_in rs (b ∷ bs) ≡ cond (fits (others (get_or rs n [])) bs) (suc (length (others (get_or rs n [])))) 0
begun b bs [] e n l p q = absurd (omega arith)
begun b bs ([] ∷ rs) e n l p q = cc
begun b bs ((lo to hi ∷ row) ∷ rs) e zero l p q =
    rw (le-leb lo b p, le-leb b hi q, none_above hi b bs q rs (and_parts (above hi rs) (rising rs) e).0)
begun b bs ((lo to hi ∷ row) ∷ rs) e (suc n) l p q =
    let (u, v) = and_parts (above hi rs) (rising rs) e in
    let h = row_above hi rs n u (omega arith) in
    rw (lt-leb b hi (omega arith), and-false (leb lo b)) (begun b bs rs v n (omega arith) p q)

-- every row ends its first range at most at h
abbrev below : ℕ → List (List Range) → Bool
below h [] = true
below h ([] ∷ rs) = false
below h ((lo to hi ∷ row) ∷ rs) = leb hi h && below h rs

-- an octet above the first ranges of some rows and below those of the others
missed : (b h k : ℕ) (bs : List ℕ) → h < b → b ≤ k → (xs ys : List (List Range)) → below h xs ≡ true → above k ys ≡ true → char_in (xs ++ ys) (b ∷ bs) ≡ 0
missed b h k bs p q [] ys e f = none_above k b bs q ys f
missed b h k bs p q ([] ∷ xs) ys e f = cc
missed b h k bs p q ((lo to hi ∷ row) ∷ xs) ys e f =
    let (u, v) = and_parts (leb hi h) (below h xs) e in
    rw (lt-leb b hi (let l = leb-true hi h u in omega arith), and-false (leb lo b)) (missed b h k bs p q xs ys v f)

module _ {s : List ℕ} {i : ℕ} where
  pub in_row : {k : ℕ} (n : ℕ) → i < length s → n < length rows → low (get_or rows n []) ≤ get_or s i 0 → get_or s i 0 ≤ high (get_or rows n [])
      → Rest (others (get_or rows n [])) s i k → CharAt s i k
  unfolding char
  in_row n h l p q r = record { is = r.is ∙ rw (drop-cons s i 0 h, add-one) (sym (begun (get_or s i 0) (drop (suc i) s) rows refl n l p q)) }

  pub in_gap : (n h k : ℕ) → i < length s → h < get_or s i 0 → get_or s i 0 ≤ k → below h (take n rows) ≡ true → above k (drop n rows) ≡ true → CharAt s i 0
  unfolding char
  in_gap n h k l p q e f = record {
    is =
        rw (drop-cons s i 0 l)
        (sym (ap (λ (rs : List (List Range)). char_in rs (get_or s i 0 ∷ drop (suc i) s)) (sym (take-append-drop n rows))
        ∙ missed (get_or s i 0) h k (drop (suc i) s) p q (take n rows) (drop n rows) e f));
  }

  pub at_end_lem : length s ≤ i → CharAt s i 0
  unfolding char
  at_end_lem h = record { is = rw (drop_of_length-le s h) }

  -- a row of one octet
  pub alone : Rest [] s i 1
  alone = record { is = refl }

  pub row_of_one : i < length s → get_or s i 0 ≤ 127 → CharAt s i 1
  row_of_one h p = in_row 0 h (lit< tt) (omega arith) p alone

  pub row_of_two : {k : ℕ} → i < length s → 194 ≤ get_or s i 0 → get_or s i 0 ≤ 223 → Rest (128 to 191 ∷ []) s i k → CharAt s i k
  row_of_two h p q r = in_row 1 h (lit< tt) p q r

  pub after_row_of_one : i < length s → 127 < get_or s i 0 → get_or s i 0 < 194 → CharAt s i 0
  after_row_of_one h p q = in_gap 1 127 193 h p (omega arith) refl refl

  pub after_all_rows : i < length s → 244 < get_or s i 0 → CharAt s i 0
  after_all_rows h p = in_gap 9 244 (get_or s i 0) h p (omega arith) refl refl

-- what the tactics find for the arms of one octet and two, and for those of none
pub ruleset short_rows = (at_end_lem, row_of_one, row_of_two, after_row_of_one, after_all_rows)
