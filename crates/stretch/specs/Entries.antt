-- A directory entry alone: how long it is at the most, and so that 10 is never answered for it but at a place near the largest frame's end.
use Rattle.std.specs.Prelude.{ℕ, ◌+◌, ◌≤◌, ◌≡◌, refl, Bool, true, false, List, [], ◌∷◌, length, Ok}
use Rattle.std.proofs.Common.{arith, sym, ap, ◌∙◌, length-append, lt-ltb}
use Rattle.numbers.specs.Numbers.{to_le}
use Rattle.numbers.proofs.Numbers.{length_to_le}
use Rattle.numbers.specs.Reading.{ok}
use Rattle.numbers.proofs.ReadingLaws.{after_inv}
use Rattle.numbers.specs.Places.{past_put}
use Rattle.strings.specs.Strings.{string_bytes}
use Rattle.strings.specs.Spans.{show_string}
use Rattle.strings.proofs.SpanLaws.{shown_length, string_inv}
use Rattle.fields.specs.Layouts.{Field, num, str, dat, strs, quids, boxed, Layout, Item, number, string, item_bytes, items_bytes}
use Rattle.fields.specs.Values.{Value, num_of, start_of, len_of, show, first_of, others_of, shows}
use Rattle.laying.specs.Laying.{limit, written_past}
use Rattle.layouts.specs.Tables.{layout_dirent}

-- how many bytes a layout of numbers and strings has at the most; the other fields have no part in it
abbrev pub most_bytes : Layout → ℕ
most_bytes [] = 0
most_bytes (num w ∷ fs) = w + most_bytes fs
most_bytes (str ∷ fs) = 65537 + most_bytes fs
most_bytes (dat ∷ fs) = most_bytes fs
most_bytes (strs ∷ fs) = most_bytes fs
most_bytes (quids ∷ fs) = most_bytes fs
most_bytes (boxed b ∷ fs) = most_bytes fs

abbrev pub bounded : Layout → Bool
bounded [] = true
bounded (num w ∷ fs) = bounded fs
bounded (str ∷ fs) = bounded fs
bounded (dat ∷ fs) = false
bounded (strs ∷ fs) = false
bounded (quids ∷ fs) = false
bounded (boxed b ∷ fs) = false

no_way : {X : Type 0} → ◌≡◌ {A = Bool} false true → X
no_way e = absurd (let z : ◌≡◌ {A = ℕ} 0 1 = cc e in omega arith)

number_most : (w : ℕ) (lent : List ℕ) (v : Value) {i : Item} {r : List ℕ} → show (num w) lent v ≡ ok i r → length (item_bytes i) ≤ w
unfolding show item_bytes
number_most w lent v {i} e =
    let f : number w (num_of v) ≡ i = cc e in
    let l : length (item_bytes i) ≡ w = ap (λ j. length (item_bytes j)) (sym f) ∙ length_to_le w (num_of v) in
    omega arith

string_most : (lent : List ℕ) (v : Value) {i : Item} {r : List ℕ} → show str lent v ≡ ok i r → length (item_bytes i) ≤ 65537
unfolding show item_bytes string_bytes
string_most lent v {i} e =
    after_inv (show_string lent (start_of v) (len_of v)) _ e
    (λ bs t e1 e2.
    let f : string bs ≡ i = cc e2 in
    let s = string_inv lent (start_of v) (len_of v) e1 in
    let n : length bs ≡ len_of v = ap length s.bytes ∙ shown_length lent (start_of v) (len_of v) s.lies in
    let h = s.small in
    let l : length (item_bytes i) ≡ 2 + length bs = ap (λ j. length (item_bytes j)) (sym f) ∙ length-append (to_le 2 (length bs)) bs ∙ ap (λ m. m + length bs) (length_to_le 2 (length bs)) in
    omega arith)

-- one field more
field_most : (f : Field) (fs : Layout) (lent : List ℕ) (vs : List Value) (n m : ℕ) {is : List Item} {r : List ℕ} → ((i : Item) (t : List ℕ) → show f lent (first_of vs) ≡ ok i t → length (item_bytes i) ≤ n)
    → ((js : List Item) (u : List ℕ) → shows fs lent (others_of vs) ≡ ok js u → length (items_bytes js) ≤ m) → shows (f ∷ fs) lent vs ≡ ok is r → length (items_bytes is) ≤ n + m
unfolding shows items_bytes
field_most f fs lent vs n m {is} g h e =
    after_inv (show f lent (first_of vs)) _ e
    (λ i t e1 e2. after_inv (shows fs lent (others_of vs)) _ e2
    (λ js u e3 e4.
    let z : i ∷ js ≡ is = cc e4 in
    let a = g i t e1 in
    let b = h js u e3 in
    let l : length (items_bytes is) ≡ length (item_bytes i) + length (items_bytes js) = ap (λ (ks : List Item). length (items_bytes ks)) (sym z) ∙ length-append (item_bytes i) (items_bytes js) in
    omega arith))

shown_most : (fs : Layout) (lent : List ℕ) (vs : List Value) {is : List Item} {r : List ℕ} → bounded fs ≡ true → shows fs lent vs ≡ ok is r → length (items_bytes is) ≤ most_bytes fs
unfolding shows items_bytes
shown_most [] lent vs {is} b e = let z : [] ≡ is = cc e in let l : length (items_bytes is) ≡ 0 = ap (λ (ks : List Item). length (items_bytes ks)) (sym z) in omega arith
shown_most (num w ∷ fs) lent vs b e = field_most (num w) fs lent vs w (most_bytes fs) (λ i t d. number_most w lent (first_of vs) d) (λ js u d. shown_most fs lent (others_of vs) b d) e
shown_most (str ∷ fs) lent vs b e = field_most str fs lent vs 65537 (most_bytes fs) (λ i t d. string_most lent (first_of vs) d) (λ js u d. shown_most fs lent (others_of vs) b d) e
shown_most (dat ∷ fs) lent vs b e = no_way b
shown_most (strs ∷ fs) lent vs b e = no_way b
shown_most (quids ∷ fs) lent vs b e = no_way b
shown_most (boxed c ∷ fs) lent vs b e = no_way b

-- what is written of an entry is tested for room alone, unless its place is past 4,294,901,736
pub entry_never_ten : (lent : List ℕ) (vs : List Value) (o : List ℕ) (a : ℕ) {is : List Item} {r : List ℕ} → a ≤ 4294901736 → shows layout_dirent lent vs ≡ ok is r
    → written_past (shows layout_dirent lent vs) o (Ok a) ≡ past_put (items_bytes is) o (Ok a)
entry_never_ten lent vs o a {is} h e =
    let l = shown_most layout_dirent lent vs refl e in
    rw (e, lt-ltb (a + length (items_bytes is)) limit (omega arith))
