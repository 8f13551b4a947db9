-- What holds of the definitions in specs/ApartLaws.antt.
use Rattle.numbers.specs.Place.{Place}
use Rattle.std.specs.Prelude.{ℕ, ◌≡◌, refl, Bool, true, false, List, [], ◌∷◌, ◌++◌, length, eqb, Err}
use Rattle.std.proofs.Common.{arith, sym, ◌∙◌, length-append, eqb-true}
use Rattle.std.proofs.Math.Option.{some}
use Rattle.std.proofs.Math.Seq.{take-length, take-append_seam, drop-append_seam}
use Rattle.numbers.specs.Numbers.{Bytes}
use Rattle.numbers.proofs.Numbers.{bytes_join}
use Rattle.numbers.specs.Reading.{ok}
use Rattle.numbers.specs.declared.Refusal.TheVariants as R
use Rattle.strings.specs.Spans.{show_span, show_string}
use Rattle.strings.proofs.SpanLaws.{shown_in}
use Rattle.fields.specs.Layouts.{str, Layout}
use Rattle.fields.specs.Values.{Value, span, show}
use Rattle.laying.specs.Laying.{check_field, put_field, past_put_field, put_fields, past_put_fields, FieldMeasured, Measured, PutAll, Written, Begun}
use Rattle.laying.proofs.LayingLaws.{measure}
use Rattle.laying.proofs.WritingLaws.{written, written_length}
use Rattle.layouts.specs.Tables.{Row, row, table_t, lookup}
use Rattle.layouts.specs.BodyLaws.{Nots}
use Rattle.flat.specs.Flat.{field_values}
use Rattle.flat.specs.FlatLaws.{written_known, written_unknown}
use Rattle.apart.specs.Apart.{table_two, together, ApartWritten}
use Rattle.apart.specs.ApartLaws.{of_two}

-- it has the requests of two strings, and all of them
pub all_of_two : of_two table_t ≡ table_two
all_of_two = refl

-- rows that the table of requests has too
abbrev Known : List Row → Type 0
Known [] = Unit {0}
Known (row k l ∷ rs) = (lookup table_t k ≡ some l) × Known rs

known : (rs : List Row) (ty : ℕ) {l : Layout} → Known rs → lookup rs ty ≡ some l → lookup table_t ty ≡ some l
known [] ty h e = absurd (let z : ◌≡◌ {A = ℕ} 0 1 = cc e in omega arith)
known (row k m ∷ rs) ty {l} (h, hs) e = go (eqb k ty) refl e (λ d. known rs ty hs d)
  where
    go : (b : Bool) → eqb k ty ≡ b → elim b [ true ↦ some m | false ↦ lookup rs ty ] ≡ some l → (lookup rs ty ≡ some l → lookup table_t ty ≡ some l) → lookup table_t ty ≡ some l
    go true f d ih = rw (← (eqb-true k ty f)) (h ∙ d)
    go false f d ih = ih d

pub row_of_two : (ty : ℕ) {l : Layout} → lookup table_two ty ≡ some l → lookup table_t ty ≡ some l
row_of_two ty e = known table_two ty (refl, (refl, (refl, (refl, tt)))) e

-- a Tsymlink of two and of three letters: the spans among its values are set, and nothing else
pub example : (a b c d e f x y z t u v w : ℕ) → together (lookup table_two 16) (x ∷ y ∷ []) (z ∷ t ∷ u ∷ []) (a ∷ b ∷ c ∷ d ∷ e ∷ f ∷ v ∷ w ∷ []) ≡ a ∷ 0 ∷ 2 ∷ 2 ∷ 3 ∷ f ∷ v ∷ w ∷ []
example a b c d e f x y z t u v w = refl

-- ---- what a span shows is the same in the one slice and in both

-- a string that is shown alike is put alike
module _ {lent both : List ℕ} {x z y : ℕ} (e : show_span lent x y ≡ show_span both z y) where
  put_alike : {fs : Layout} {vs : List Value} {o o1 o2 : List ℕ} {p q r : Place} → PutAll (str ∷ []) lent (span x y ∷ []) o p o1 q → PutAll fs both vs o1 q o2 r
      → PutAll (str ∷ fs) both (span z y ∷ vs) o p o2 r
  unfolding put_fields past_put_fields put_field past_put_field
  put_alike a b = record { bytes = b.bytes ∙ rw (a.bytes, a.next, e); next = b.next ∙ rw (a.bytes, a.next, e) }

pub whole : (s : List ℕ) → show_span s 0 (length s) ≡ ok s []
whole s = shown_in s 0 (length s) (omega arith) ∙ rw (take-length s)

module _ (first second : List ℕ) where
  abbrev both : List ℕ
  both = first ++ second

  in_first : show_span first 0 (length first) ≡ show_span both 0 (length first)
  in_first =
      let l = length-append first second in
      whole first ∙ sym (shown_in both 0 (length first) (omega arith) ∙ rw (take-append_seam first second))

  pub in_second : show_span second 0 (length second) ≡ show_span both (length first) (length second)
  in_second =
      let l = length-append first second in
      whole second ∙ sym (shown_in both (length first) (length second) (omega arith) ∙ rw (drop-append_seam first second, take-length second))

  module _ {fs : Layout} {vs : List Value} {p q r : Place} where
    pub measure_first : FieldMeasured str first (span 0 (length first)) p q → Measured fs both vs q r → Measured (str ∷ fs) both (span 0 (length first) ∷ vs) p r
    unfolding check_field show show_string
    measure_first m n = measure (record { is = m.is ∙ rw in_first }) n

  module _ {fs : Layout} {vs : List Value} {o o1 o2 : List ℕ} {p q r : Place} where
    pub put_first : PutAll (str ∷ []) first (span 0 (length first) ∷ []) o p o1 q → PutAll fs both vs o1 q o2 r → PutAll (str ∷ fs) both (span 0 (length first) ∷ vs) o p o2 r
    put_first = put_alike in_first

    pub put_second : PutAll (str ∷ []) second (span 0 (length second) ∷ []) o p o1 q → PutAll fs both vs o1 q o2 r
        → PutAll (str ∷ fs) both (span (length first) (length second) ∷ vs) o p o2 r
    put_second = put_alike in_second

  -- measured, settled and put
  pub apart_written : {l : Layout} {ns o o' : List ℕ} {p e q r : Place} → Bytes first → Bytes second → Measured l both (field_values l (together (some l) first second ns)) p e → Begun p e (length o) q
      → PutAll l both (field_values l (together (some l) first second ns)) o q o' r → ApartWritten (some l) first second ns o p o' r
  apart_written b c m s u = record { is = written_known refl (written (bytes_join first second b c) m s u) }

-- the output keeps its length
pub apart_length : {l : Layout} {first second ns o o' : List ℕ} {p q : Place} → ApartWritten (some l) first second ns o p o' q → length o' ≡ length o
apart_length {l} {first} {second} {ns} {o} {o'} {p} {q} w =
    let v : Written l (first ++ second) (field_values l (together (some l) first second ns)) o p o' q = record { bytes = w.is.bytes; next = w.is.next } in
    written_length v

-- a type that has not two strings
pub apart_unknown : {first second ns o : List ℕ} {p q : Place} (ty : ℕ) → Nots (Unit {0}) table_two ty → q ≡ Err (R.UnknownType, 0)
    → ApartWritten (lookup table_two ty) first second ns o p o q
apart_unknown ty h e = record { is = written_unknown table_two ty h e }
