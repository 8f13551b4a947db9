-- How many values a direction needs; what `low` keeps; and the ways of a body, read flat and written: a row of the table, and a number that has none.
use Rattle.numbers.specs.Place.{Place}
use Rattle.std.specs.Prelude.{ℕ, ◌+◌, ◌^◌, ◌%◌, ◌≤◌, ◌<◌, ◌≡◌, refl, Bool, true, false, cond, List, [], ◌∷◌, length, take, drop, leb, ltb, Ok, Err}
use Rattle.std.proofs.Common.{mod-eq_of_lt, arith, sym, ap, ◌∙◌, lt-ltb, le-ltb, ltb-true, le-leb}
use Rattle.std.proofs.Math.Option.{some}
use Rattle.std.proofs.lemmas.Bool.{lt-leb}
use Rattle.numbers.specs.Numbers.{from_le}
use Rattle.numbers.proofs.ReadingLaws.{or_else}
use Rattle.numbers.specs.Places.{Within}
use Rattle.numbers.proofs.PlaceLaws.{inside, outside, num_held, num_short}
use Rattle.numbers.specs.declared.Fault.{Fault}
use Rattle.numbers.specs.declared.Refusal.TheVariants as R
use Rattle.fields.specs.Layouts.{num, str, dat, strs, quids, boxed, Layout}
use Rattle.fields.proofs.LayoutLaws.{both}
use Rattle.fields.specs.Values.{Value}
use Rattle.fields.specs.Fields.{past_field, values_at, past_fields, Fields}
use Rattle.fields.proofs.FieldLaws.{number_field, stays}
use Rattle.laying.specs.Laying.{Written}
use Rattle.layouts.specs.Tables.{Row, lookup, table_t, table_r}
use Rattle.layouts.specs.BodyLaws.{Nots}
use Rattle.layouts.proofs.BodyLaws.{no_row}
use Rattle.flat.specs.Flat.{flat_values, stored, laid, low, field_values, FlatRead, skipped, Skipped, FlatWritten, width_t, width_r, widest}

-- so many values hold any request and any reply, and no fewer would
pub enough : (widest table_t ≡ width_t) × (widest table_r ≡ width_r)
enough = (refl, refl)

-- of a number of eight bytes the lowest w are its rest by 256 ^ w
pub low_is : (w n : ℕ) → w ≤ 8 → n < 256 ^ 8 → low w n ≡ n % 256 ^ w
low_is w n h l =
    or_else 8 w (λ g. let e : w ≡ 8 = omega arith in rw (le-ltb w 8 g, e) (sym (mod-eq_of_lt l))) (λ g. rw (lt-ltb w 8 g))

-- ---- a body that is read flat

module _ {l : Layout} {s ns : List ℕ} {p e : Place} {vs : List Value} (f : Fields l s p vs e) where
  pub flat_known : {a : ℕ} {ms : List ℕ} → e ≡ Ok a → ms ≡ stored ns 0 (flat_values vs) → FlatRead (some l) s p ns ms (Ok a)
  flat_known h g = record { values = g ∙ ap (λ q. laid q vs ns) (sym h ∙ f.next) ∙ ap (λ (v : List Value). laid (past_fields l s p) v ns) f.values; next = sym h ∙ f.next }

  pub flat_refused : {g : Fault} → e ≡ Err g → FlatRead (some l) s p ns ns (Err g)
  flat_refused h = record { values = ap (λ q. laid q (values_at l s p) ns) (sym h ∙ f.next); next = sym h ∙ f.next }

-- one that holds nothing
pub flat_empty : {s ns : List ℕ} (p : Place) → FlatRead (some []) s p ns ns p
unfolding values_at past_fields
flat_empty (Ok a) = record { values = refl; next = refl }
flat_empty (Err f) = record { values = refl; next = refl }

pub flat_unknown : {s ns : List ℕ} {p q : Place} (rs : List Row) (ty : ℕ) → Nots (Unit {0}) rs ty → q ≡ Err (R.UnknownType, 0) → FlatRead (lookup rs ty) s p ns ns q
flat_unknown rs ty h f = let g = (no_row rs (Unit {0}) ty h).0 in record { values = rw g; next = rw g f }

-- ---- numbers alone are passed as so many bytes are

-- whether a layout is numbers alone, each of a byte or more
abbrev pub numbers_alone : Layout → Bool
numbers_alone [] = true
numbers_alone (num w ∷ fs) = cond (ltb 0 w) (numbers_alone fs) false
numbers_alone (str ∷ fs) = false
numbers_alone (dat ∷ fs) = false
numbers_alone (strs ∷ fs) = false
numbers_alone (quids ∷ fs) = false
numbers_alone (boxed b ∷ fs) = false

-- how many bytes they have
abbrev pub widths : Layout → ℕ
widths [] = 0
widths (num w ∷ fs) = w + widths fs
widths (str ∷ fs) = widths fs
widths (dat ∷ fs) = widths fs
widths (strs ∷ fs) = widths fs
widths (quids ∷ fs) = widths fs
widths (boxed b ∷ fs) = widths fs

no_way : {X : Type 0} → ◌≡◌ {A = Bool} false true → X
no_way e = absurd (let z : ◌≡◌ {A = ℕ} 0 1 = cc e in omega arith)

past_held : (w a : ℕ) (s : List ℕ) → a + w ≤ length s → past_field (num w) s (Ok a) ≡ Ok (a + w)
past_held w a s h = sym (number_field (num_held {x = from_le (take w (drop a s))} {p = Ok a} {t = true} refl (record { is = h }) refl refl)).next

past_short : (w a : ℕ) (s : List ℕ) → 0 < w → length s < a + w → past_field (num w) s (Ok a) ≡ Err (R.Short, 0)
past_short w a s o h = sym (number_field (num_short {p = Ok a} {t = false} o refl (record { is = h }) refl)).next

module _ {n a : ℕ} {s : List ℕ} {p : Place} (e : p ≡ Ok a) {t : Bool} (i : Within a n (length s) t) where
  pub skip_held : t ≡ true → Skipped n s p (Ok (a + n))
  skip_held h = record { is = rw (e, le-leb (a + n) (length s) (inside i h)) }

  pub skip_short : t ≡ false → Skipped n s p (Err (R.Short, 0))
  skip_short h = record { is = rw (e, lt-leb (a + n) (length s) (outside i h)) }

skip_on : (w n a : ℕ) (s : List ℕ) → skipped n s (Ok (a + w)) ≡ skipped (w + n) s (Ok a)
skip_on w n a s = let z : a + w + n ≡ a + (w + n) = omega arith in ap (λ m. cond (leb m (length s)) (Ok m) (Err (R.Short, 0))) z

-- a number, and others after it
number_then : (fs : Layout) (w a : ℕ) (s : List ℕ) → 0 < w → (a + w ≤ length s → past_fields fs s (Ok (a + w)) ≡ skipped (w + widths fs) s (Ok a))
    → past_fields (num w ∷ fs) s (Ok a) ≡ skipped (w + widths fs) s (Ok a)
unfolding past_fields
number_then fs w a s o g =
    or_else (a + w) (length s)
    (λ h. rw (past_held w a s h) (g h))
    (λ h. rw (past_short w a s o h, lt-leb (a + (w + widths fs)) (length s) (omega arith)) (stays fs s R.Short 0))

past_numbers : (fs : Layout) (w a : ℕ) (s : List ℕ) → 0 < w → numbers_alone fs ≡ true → past_fields (num w ∷ fs) s (Ok a) ≡ skipped (w + widths fs) s (Ok a)
unfolding past_fields
past_numbers [] w a s o e = number_then [] w a s o (λ h. let z : w + 0 ≡ w = omega arith in rw (z, le-leb (a + w) (length s) h))
past_numbers (num v ∷ fs) w a s o e =
    let b = both (ltb 0 v) (numbers_alone fs) e in
    let i = past_numbers fs v (a + w) s (ltb-true 0 v b.0) b.1 in
    number_then (num v ∷ fs) w a s o (λ h. i ∙ skip_on w (v + widths fs) a s)
past_numbers (str ∷ fs) w a s o e = no_way e
past_numbers (dat ∷ fs) w a s o e = no_way e
past_numbers (strs ∷ fs) w a s o e = no_way e
past_numbers (quids ∷ fs) w a s o e = no_way e
past_numbers (boxed b ∷ fs) w a s o e = no_way e

-- the place after them, told before they are read
pub fields_skipped : {w n : ℕ} {fs : Layout} {s : List ℕ} {p q : Place} {vs : List Value} → numbers_alone (num w ∷ fs) ≡ true → w + widths fs ≡ n → Skipped n s p q → vs ≡ values_at (num w ∷ fs) s p
    → Fields (num w ∷ fs) s p vs q
fields_skipped {w} {n} {fs} {s} {p = Ok a} o e g h =
    let b = both (ltb 0 w) (numbers_alone fs) o in
    record { values = h; next = g.is ∙ ap (λ m. skipped m s (Ok a)) (sym e) ∙ sym (past_numbers fs w a s (ltb-true 0 w b.0) b.1) }
fields_skipped {w} {n} {fs} {s} {p = Err f} o e g h = record { values = h; next = g.is ∙ sym (stays (num w ∷ fs) s f.0 f.1) }

-- ---- a body that is written from numbers

pub written_known : {l : Layout} {lent ns o o' : List ℕ} {p q : Place} {vs : List Value} → vs ≡ field_values l ns → Written l lent vs o p o' q → FlatWritten (some l) lent ns o p o' q
written_known e w = let v = rw e at w in record { bytes = v.bytes; next = v.next }

pub written_unknown : {lent ns o : List ℕ} {p q : Place} (rs : List Row) (ty : ℕ) → Nots (Unit {0}) rs ty → q ≡ Err (R.UnknownType, 0) → FlatWritten (lookup rs ty) lent ns o p o q
written_unknown rs ty h e = let g = (no_row rs (Unit {0}) ty h).0 in record { bytes = rw g; next = rw g e }
