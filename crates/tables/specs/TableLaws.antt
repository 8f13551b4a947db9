-- What is written from a table of names is what the definition writes.
use Rattle.numbers.specs.declared.Fault.{Fault}
use Rattle.numbers.specs.Place.{Place}
use Rattle.std.specs.Prelude.{ℕ, suc, ◌+◌, ◌≤◌, ◌<◌, ◌≡◌, List, [], ◌∷◌, length, drop, get_or, Ok, Err}
use Rattle.std.proofs.Common.{arith, sym, ◌∙◌, drop-cons}
use Rattle.std.proofs.Math.Seq.{drop-length}
use borrow.Author.Tests.{lt-leb, le-leb}
use Rattle.numbers.specs.Numbers.{Bytes, to_le}
use Rattle.numbers.specs.Places.{Put}
use Rattle.numbers.proofs.PlaceLaws.{one_answer}
use Rattle.numbers.specs.Reading.{Reading}
use Rattle.strings.specs.Spans.{SpanPut}
use Rattle.fields.specs.Fields.{CountCheck}
use Rattle.fields.proofs.FieldLaws.{count_passed, count_refused}
use Rattle.fields.specs.Layouts.{str, Item}
use Rattle.fields.specs.Values.{span}
use Rattle.laying.specs.Laying.{FieldMeasured, Measured, PutAll, Advanced, Begun}
use Rattle.laying.proofs.LayingLaws.{measured_none, measure, measure_numbers, put_done, put_number, put_counted}
use Rattle.laying.proofs.WritingLaws.{written}
use Rattle.framing.specs.Writing.{frame_out, frame_past, FrameWritten, HeadPut}
use Rattle.framing.proofs.WritingLaws.{frame_written}
use Rattle.tables.specs.Tables.{TableWritten, name_fields, name_values, walk_fields, walk_values, TwalkWritten}

-- ---- the names, one after another

-- names are measured, or put, up to the i-th: whoever does so with those after it has done so with them all
pub record MeasuredTo (t : List (List ℕ)) (lent : List ℕ) (p : Place) (i : ℕ) (q : Place) : Type 0 where
  pub on : (e : Place) → Measured (name_fields (drop i t)) lent (name_values (drop i t)) q e → Measured (name_fields t) lent (name_values t) p e

pub record PutTo (t : List (List ℕ)) (lent : List ℕ) (o : List ℕ) (p : Place) (i : ℕ) (o1 : List ℕ) (q : Place) : Type 0 where
  pub on : (o2 : List ℕ) (e : Place) → PutAll (name_fields (drop i t)) lent (name_values (drop i t)) o1 q o2 e → PutAll (name_fields t) lent (name_values t) o p o2 e

module _ {t : List (List ℕ)} {lent : List ℕ} {p : Place} where
  pub measured_to_none : MeasuredTo t lent p 0 p
  measured_to_none = record { on = λ e l. l }

  pub measured_to_next : {i : ℕ} {q r : Place} → i < length t → MeasuredTo t lent p i q
      → FieldMeasured str lent (span (get_or (get_or t i []) 0 0) (get_or (get_or t i []) 1 0)) q r → MeasuredTo t lent p (i + 1) r
  measured_to_next {i} h u f = let n : i + 1 ≡ suc i = omega arith in record { on = λ e l. u.on e (rw (drop-cons t i [] h) (measure f (rw n at l))) }

  pub measured_to_all : {i : ℕ} {q : Place} → i ≡ length t → MeasuredTo t lent p i q → Measured (name_fields t) lent (name_values t) p q
  measured_to_all {i} {q} e u = u.on q (rw (e, drop-length t) measured_none)

module _ {t : List (List ℕ)} {lent : List ℕ} {o : List ℕ} {p : Place} where
  pub put_to_none : PutTo t lent o p 0 o p
  put_to_none = record { on = λ o2 e l. l }

  pub put_to_next : {i : ℕ} {o1 o2 o3 : List ℕ} {q r s : Place} → i < length t → PutTo t lent o p i o1 q → Put (to_le 2 (get_or (get_or t i []) 1 0)) o1 q o2 r
      → SpanPut lent (get_or (get_or t i []) 0 0) (get_or (get_or t i []) 1 0) o2 r o3 s → PutTo t lent o p (i + 1) o3 s
  put_to_next {i} h u f g =
      let n : i + 1 ≡ suc i = omega arith in record { on = λ o4 e l. u.on o4 e (rw (drop-cons t i [] h) (put_counted str tt f g (rw n at l))) }

  pub put_to_all : {i : ℕ} {o1 : List ℕ} {q : Place} → i ≡ length t → PutTo t lent o p i o1 q → PutAll (name_fields t) lent (name_values t) o p o1 q
  put_to_all {i} {o1} {q} e u = u.on o1 q (rw (e, drop-length t) put_done)

pub walk_measured : (t : List (List ℕ)) {lent : List ℕ} {p a e : Place} {fid newfid n : ℕ} → Advanced 10 p a → Measured (name_fields t) lent (name_values t) a e
    → Measured (walk_fields t) lent (walk_values fid newfid n t) p e
walk_measured t a l = measure_numbers 4 (4 ∷ 2 ∷ []) a l

pub walk_put : (t : List (List ℕ)) {lent : List ℕ} {o o1 o2 o3 o4 : List ℕ} {p a b c e : Place} {fid newfid n : ℕ} → Put (to_le 4 fid) o p o1 a → Put (to_le 4 newfid) o1 a o2 b
    → Put (to_le 2 n) o2 b o3 c → PutAll (name_fields t) lent (name_values t) o3 c o4 e → PutAll (walk_fields t) lent (walk_values fid newfid n t) o p o4 e
walk_put t f g h l = put_number f (put_number g (put_number h l))

-- ---- the frame

module _ {tag fid newfid : ℕ} {lent : List ℕ} {t : List (List ℕ)} {o : List ℕ} where
  pub twalk_long : {p : Place} {f : Fault} → CountCheck (length t) (Ok 7) p → p ≡ Err f → TwalkWritten tag fid newfid lent t o o (Err f)
  unfolding frame_out frame_past
  twalk_long c e =
      let f = lt-leb (length t) 16 (count_refused c e) in
      let g = sym e ∙ rw f at c.is in
      record { is = record { bytes = rw f; next = rw f g } }

  in_table : {n : ℕ} {o' : List ℕ} {q : Place} → length t ≤ 16 → n ≡ length t → FrameWritten (walk_fields t) 110 tag lent (walk_values fid newfid n t) o o' q
      → TwalkWritten tag fid newfid lent t o o' q
  in_table h e w = let f = le-leb (length t) 16 h in record { is = record { bytes = rw (f, ← e) w.bytes; next = rw (f, ← e) w.next } }

  pub twalk_put : {n : ℕ} {o2 o3 : List ℕ} {a : ℕ} {p d e q r z : Place} → Bytes lent → CountCheck (length t) (Ok 7) p → p ≡ Ok a → n ≡ length t
      → Advanced 10 (Ok a) d → Measured (name_fields t) lent (name_values t) d e → Begun (Ok a) e (length o) q → PutAll (walk_fields t) lent (walk_values fid newfid n t) o q o2 r
      → HeadPut 110 tag r o2 o3 z → TwalkWritten tag fid newfid lent t o o3 z
  twalk_put {n} {a = a} {e = e} b k f m v c s l d =
      let i = count_passed k f in
      let g : ◌≡◌ {A = Place} (Ok a) (Ok 7) = sym i.1 in
      let w : Measured (walk_fields t) lent (walk_values fid newfid n t) (Ok a) e = walk_measured t v c in
      in_table i.0 m (frame_written (written b (rw g at w) (rw g at s) l) d)

-- ---- one answer

pub table_one : {ty tag : ℕ} {m : Reading (List Item)} {o o1 o2 : List ℕ} {q q' : Place} → TableWritten ty tag m o o1 q → TableWritten ty tag m o o2 q' → (o1 ≡ o2) × (q ≡ q')
table_one a b = (one_answer a.bytes b.bytes, one_answer a.next b.next)
