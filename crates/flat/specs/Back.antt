-- Laying flat loses nothing: values that a layout's fields can hold come back from their numbers.
use Rattle.std.specs.Prelude.{ℕ, suc, ◌+◌, ◌^◌, ◌%◌, ◌≤◌, ◌<◌, ◌≡◌, refl, Bool, true, false, cond, List, [], ◌∷◌, ◌++◌, length, get_or, drop, ltb}
use Rattle.std.proofs.Common.{mod-eq_of_lt, arith, sym, ap, ap₂, ◌∙◌, append_assoc, length-append, get_or-append-add}
use Rattle.std.proofs.Math.ListN.{get_or-append}
use Rattle.std.proofs.Math.Seq.{set-append_seam}
use Rattle.fields.specs.Layouts.{Shape, fixed, worded, num, str, dat, strs, quids, boxed, Layout}
use Rattle.fields.specs.Values.{Slot, slot, text, Value, val, span, part, block}
use Rattle.flat.specs.Flat.{slot_numbers, numbers_of, flat_values, stored, low, shape_numbers, slots_from, values_from, field_values}

-- what the fields of a box can hold
pub data Holds : List Shape → List Slot → Type 0 where
  none : Holds [] []
  number : {w n : ℕ} {fs : List Shape} {vs : List Slot} → n < 256 ^ w → Holds fs vs → Holds (fixed w ∷ fs) (slot n ∷ vs)
  string : {x y : ℕ} {fs : List Shape} {vs : List Slot} → Holds fs vs → Holds (worded ∷ fs) (text x y ∷ vs)

-- values that a layout's fields can hold
pub data Fits : Layout → List Value → Type 0 where
  none : Fits [] []
  number : {w n : ℕ} {fs : Layout} {vs : List Value} → n < 256 ^ w → Fits fs vs → Fits (num w ∷ fs) (val n ∷ vs)
  string : {x y : ℕ} {fs : Layout} {vs : List Value} → Fits fs vs → Fits (str ∷ fs) (span x y ∷ vs)
  bytes : {x y : ℕ} {fs : Layout} {vs : List Value} → Fits fs vs → Fits (dat ∷ fs) (span x y ∷ vs)
  strings : {c x y : ℕ} {fs : Layout} {vs : List Value} → c < 256 ^ 2 → Fits fs vs → Fits (strs ∷ fs) (part c x y ∷ vs)
  qids : {c x y : ℕ} {fs : Layout} {vs : List Value} → c < 256 ^ 2 → Fits fs vs → Fits (quids ∷ fs) (part c x y ∷ vs)
  box : {b : List Shape} {us : List Slot} {fs : Layout} {vs : List Value} → Holds b us → Fits fs vs → Fits (boxed b ∷ fs) (block us ∷ vs)

low_fits : (w n : ℕ) → n < 256 ^ w → low w n ≡ n
low_fits w n h = go (ltb w 8)
  where
    go : (b : Bool) → cond b (n % 256 ^ w) n ≡ n
    go true = mod-eq_of_lt h
    go false = refl

-- numbers that are stored stand where they were put, the others after them
stored_over : (xs ns ms : List ℕ) → length ms ≤ length ns → stored (xs ++ ns) (length xs) ms ≡ xs ++ (ms ++ drop (length ms) ns)
stored_over xs ns [] h = refl
stored_over xs [] (m ∷ ms) h = absurd (omega arith)
stored_over xs (n ∷ ns) (m ∷ ms) h =
    let l : length (xs ++ m ∷ []) ≡ suc (length xs) = length-append xs (m ∷ []) ∙ omega arith in
    ap (λ (r : List ℕ). stored r (suc (length xs)) ms) (set-append_seam xs n ns m ∙ sym (append_assoc xs (m ∷ []) ns))
    ∙ ap (λ i. stored ((xs ++ m ∷ []) ++ ns) i ms) (sym l)
    ∙ stored_over (xs ++ m ∷ []) ns ms (omega arith)
    ∙ append_assoc xs (m ∷ []) (ms ++ drop (length ms) ns)

-- laid after any numbers, and before any, the values come back
abbrev Back : Layout → List Value → Type 0
Back fs vs = (ys zs : List ℕ) (j : ℕ) → j ≡ length ys → values_from j fs (ys ++ (flat_values vs ++ zs)) ≡ vs

-- after xs the numbers of a value, and then those of the others
module _ (v : Value) (vs : List Value) (xs zs : List ℕ) (i : ℕ) (e : i ≡ length xs) where
  abbrev all : List ℕ
  all = xs ++ ((numbers_of v ++ flat_values vs) ++ zs)

  nth : (k : ℕ) → k < length (numbers_of v) → get_or all (i + k) 0 ≡ get_or (numbers_of v) k 0
  nth k g =
      ap₂ (λ (r : List ℕ) j. get_or (xs ++ r) (j + k) 0) (append_assoc (numbers_of v) (flat_values vs) zs) e
      ∙ get_or-append-add xs (numbers_of v ++ (flat_values vs ++ zs)) k 0
      ∙ get_or-append (numbers_of v) (flat_values vs ++ zs) 0 k g

  first : 0 < length (numbers_of v) → get_or all i 0 ≡ get_or (numbers_of v) 0 0
  first g = let z : i ≡ i + 0 = omega arith in ap (λ j. get_or all j 0) z ∙ nth 0 g

  others : (fs : Layout) → Back fs vs → values_from (i + length (numbers_of v)) fs all ≡ vs
  others fs ih =
      let k = length-append xs (numbers_of v) in
      ap (values_from (i + length (numbers_of v)) fs) (ap (λ (r : List ℕ). xs ++ r) (append_assoc (numbers_of v) (flat_values vs) zs) ∙ sym (append_assoc xs (numbers_of v) (flat_values vs ++ zs)))
      ∙ ih (xs ++ numbers_of v) zs (i + length (numbers_of v)) (omega arith)

spanned : (x y : ℕ) (fs : Layout) (vs : List Value) (xs zs : List ℕ) (i : ℕ) → i ≡ length xs → Back fs vs → values_from i (str ∷ fs) (xs ++ (flat_values (span x y ∷ vs) ++ zs)) ≡ span x y ∷ vs
spanned x y fs vs xs zs i e ih =
    let v : Value = span x y in
    ap₂ (λ a (r : List Value). a ∷ r) (ap₂ span (first v vs xs zs i e (omega arith)) (nth v vs xs zs i e 1 (omega arith))) (others v vs xs zs i e fs ih)

parted : (c x y : ℕ) (fs : Layout) (vs : List Value) (xs zs : List ℕ) (i : ℕ) → i ≡ length xs → c < 256 ^ 2 → Back fs vs
    → values_from i (strs ∷ fs) (xs ++ (flat_values (part c x y ∷ vs) ++ zs)) ≡ part c x y ∷ vs
parted c x y fs vs xs zs i e g ih =
    let v : Value = part c x y in
    let a = ap (low 2) (first v vs xs zs i e (omega arith)) ∙ low_fits 2 c g in
    let b = nth v vs xs zs i e 1 (omega arith) in
    let d = nth v vs xs zs i e 2 (omega arith) in
    ap₂ (λ a (r : List Value). a ∷ r) (ap₂ (λ p (q : ℕ → Value). q p) d (ap₂ (λ p q r. part p q r) a b)) (others v vs xs zs i e fs ih)

-- the numbers of a box, after any others and before any
slots_long : {b : List Shape} {us : List Slot} → Holds b us → length (slot_numbers us) ≡ shape_numbers b
slots_long none = refl
slots_long (number g h) = let l = slots_long h in omega arith
slots_long (string h) = let l = slots_long h in omega arith

slots_back : {b : List Shape} {us : List Slot} → Holds b us → (xs zs : List ℕ) (i : ℕ) → i ≡ length xs → slots_from i b (xs ++ (slot_numbers us ++ zs)) ≡ us
slots_back none xs zs i e = refl
slots_back (number {w} {n} {fs} {vs} g h) xs zs i e =
    let at : get_or (xs ++ n ∷ (slot_numbers vs ++ zs)) i 0 ≡ n = ap (λ j. get_or (xs ++ n ∷ (slot_numbers vs ++ zs)) j 0) (e ∙ omega arith) ∙ get_or-append-add xs (n ∷ (slot_numbers vs ++ zs)) 0 0 in
    let k = length-append xs (n ∷ []) in
    ap₂ (λ a (r : List Slot). slot a ∷ r) (ap (low w) at ∙ low_fits w n g)
    (ap (slots_from (i + 1) fs) (sym (append_assoc xs (n ∷ []) (slot_numbers vs ++ zs))) ∙ slots_back h (xs ++ n ∷ []) zs (i + 1) (omega arith))
slots_back (string {x} {y} {fs} {vs} h) xs zs i e =
    let ns : List ℕ = xs ++ x ∷ y ∷ (slot_numbers vs ++ zs) in
    let at : get_or ns i 0 ≡ x = ap (λ j. get_or ns j 0) (e ∙ omega arith) ∙ get_or-append-add xs (x ∷ y ∷ (slot_numbers vs ++ zs)) 0 0 in
    let on : get_or ns (i + 1) 0 ≡ y = ap (λ j. get_or ns (j + 1) 0) e ∙ get_or-append-add xs (x ∷ y ∷ (slot_numbers vs ++ zs)) 1 0 in
    let k = length-append xs (x ∷ y ∷ []) in
    ap₂ (λ (u : Slot) (r : List Slot). u ∷ r) (ap₂ text at on)
    (ap (slots_from (i + 2) fs) (sym (append_assoc xs (x ∷ y ∷ []) (slot_numbers vs ++ zs))) ∙ slots_back h (xs ++ x ∷ y ∷ []) zs (i + 2) (omega arith))

back_from : {l : Layout} {vs : List Value} → Fits l vs → Back l vs
back_from none xs zs i e = refl
back_from (number {w} {n} {fs} {vs} g f) xs zs i e =
    ap₂ (λ a (r : List Value). val a ∷ r) (ap (low w) (first (val n) vs xs zs i e (omega arith)) ∙ low_fits w n g) (others (val n) vs xs zs i e fs (back_from f))
back_from (string {x} {y} {fs} {vs} f) xs zs i e = spanned x y fs vs xs zs i e (back_from f)
back_from (bytes {x} {y} {fs} {vs} f) xs zs i e = spanned x y fs vs xs zs i e (back_from f)
back_from (strings {c} {x} {y} {fs} {vs} g f) xs zs i e = parted c x y fs vs xs zs i e g (back_from f)
back_from (qids {c} {x} {y} {fs} {vs} g f) xs zs i e = parted c x y fs vs xs zs i e g (back_from f)
back_from (box {b} {us} {fs} {vs} g f) xs zs i e =
    ap₂ (λ (a : List Slot) (r : List Value). block a ∷ r)
    (ap (λ (r : List ℕ). slots_from i b (xs ++ r)) (append_assoc (slot_numbers us) (flat_values vs) zs) ∙ slots_back g xs (flat_values vs ++ zs) i e)
    (ap (λ k. values_from (i + k) fs (xs ++ ((slot_numbers us ++ flat_values vs) ++ zs))) (sym (slots_long g)) ∙ others (block us) vs xs zs i e fs (back_from f))

-- whatever the lent numbers were, if there are enough of them
pub back : {l : Layout} {vs : List Value} (ns : List ℕ) → Fits l vs → length (flat_values vs) ≤ length ns → field_values l (stored ns 0 (flat_values vs)) ≡ vs
back {l} {vs} ns f h = ap (field_values l) (stored_over [] ns (flat_values vs) h) ∙ back_from f [] (drop (length (flat_values vs)) ns) 0 refl
