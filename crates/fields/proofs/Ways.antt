-- The ways that the readers of data and vectors go: one law for each way out, over plain variables.
use Rattle.std.specs.Prelude.{Ok, Err}
use Rattle.numbers.specs.Place.{Place}
use Prim.Native.Nat.{ℕ, zero, suc, ◌+◌, ◌-◌, ◌*◌, ◌≤◌, ◌<◌, min}
use native.Mathlib.Omega.{arith}
use mathlib.Core.Path.{◌≡◌, refl, sym, ap, ap₂, ◌∙◌}
use mathlib.Core.Bool.{Bool, true, false, cond}
use mathlib.Core.List.{List, []}
use lib.ListN.{length, take, drop, length-append, length-drop, drop_of_length-le}
use lib.Seq.{drop-drop, length-take-le}
use lib.Dec.{leb}
use borrow.Author.Tests.{le-leb, lt-leb}
use Rattle.numbers.specs.Numbers.{Bytes}
use Rattle.numbers.proofs.Numbers.{bytes_drop}
use Rattle.numbers.specs.Reading.{Reading, ok, bad, after, raw, read_num}
use Rattle.numbers.proofs.ReadingLaws.{or_else, raw_short}
use Rattle.numbers.specs.Places.{Within, read_at, read_from, rest_at, number_in, num_at, past_num, NumRead}
use Rattle.numbers.specs.PlaceLaws.{Held}
use Rattle.numbers.proofs.PlaceLaws.{inside, outside, num_holds, num_refused, refused_one}
use Rattle.numbers.specs.declared.Refusal.{Refusal}
use Rattle.numbers.specs.declared.Refusal.TheVariants as R
use Rattle.strings.specs.Spans.{check_at}
use Rattle.strings.specs.Strings.{read_string}
use Rattle.fields.specs.Layouts.{Field, dat, strs, quids, Item, bytes, strings, qids, most, counted, ok_count, read_many, read_field, many_bytes}
use Rattle.fields.proofs.LayoutLaws.{took_many}
use Rattle.fields.proofs.FieldLaws.{few, many, count_passed}
use Rattle.fields.specs.Values.{Value, span, part, place}
use Rattle.fields.specs.Fields.{CountCheck, CountRead, nothing, placed_in, value_at, past_field, FieldRead, ManyRead, Nowhere}

-- ---- a field, refused or read

placed_bad : (f : Field) (p : Place) (k : Refusal) (at : ℕ) → placed_in f p (bad k at) ≡ nothing f
placed_bad f (Ok a) k at = refl
placed_bad f (Err e) k at = refl

refused_field : {f : Field} {s : List ℕ} {p q : Place} {k : Refusal} {at : ℕ} → read_from (read_field f) s p ≡ bad k at → q ≡ Err (k, at) → FieldRead f s p (nothing f) q
unfolding value_at past_field
refused_field {f} {s} {p} {q} {k} {at} e h = record { value = rw e (sym (placed_bad f p k at)); next = rw e h }

read_field_lem : {f : Field} {s : List ℕ} {p q : Place} {a : ℕ} {i : Item} {r : List ℕ} → p ≡ Ok a → read_from (read_field f) s p ≡ ok i r → q ≡ Ok (length s - length r)
    → FieldRead f s p (place a i) q
unfolding value_at past_field
read_field_lem g e h = record { value = rw (e, g); next = rw e h }

-- ---- a field that begins with a count of w bytes

record Counted (f : Field) (w : ℕ) (g : ℕ → ℕ → List ℕ → Reading Item) : Type 0 where
  pub is : (a : ℕ) (xs : List ℕ) → read_field f a xs ≡ after (read_num w xs) (g a)

module _ {f : Field} {w : ℕ} {g : ℕ → ℕ → List ℕ → Reading Item} where
  counted_cut : Counted f w g → (s : List ℕ) (p : Place) {k : Refusal} {at : ℕ} → read_at (read_num w) s p ≡ bad k at → read_from (read_field f) s p ≡ bad k at
  counted_cut c s (Ok a) e = c.is a (drop a s) ∙ rw e
  counted_cut c s (Err f) {k} {at} e = let h : f.0 ≡ k = cc e in let i : f.1 ≡ at = cc e in ap₂ bad h i

  counted_refused : {s : List ℕ} {p q : Place} {n : ℕ} {k : Refusal} {at : ℕ} → Counted f w g → NumRead w s p n q → q ≡ Err (k, at) → FieldRead f s p (nothing f) q
  counted_refused {s} {p} c r e = refused_field (counted_cut c s p (num_refused r e).reads) e

  counted_held : {s : List ℕ} {p : Place} {n e : ℕ} → Counted f w g → (h : Held w s p n e) → read_from (read_field f) s p ≡ g h.at n (drop e s)
  counted_held {s} {p} c h = rw h.place (c.is h.at (drop h.at s) ∙ rw h.reads)

raw_held : (n e : ℕ) (s : List ℕ) → e + n ≤ length s → raw n (drop e s) ≡ ok (take n (drop e s)) (drop (e + n) s)
unfolding raw
raw_held n e s h = rw (le-leb n (length (drop e s)) (simp length-drop (omega arith)), drop-drop n e s)

raw_cut : (n e : ℕ) (s : List ℕ) → length s < e + n → e ≤ length s → raw n (drop e s) ≡ bad R.Short 0
raw_cut n e s h l = raw_short n (drop e s) (simp length-drop (omega arith))

held_length : (n e : ℕ) (s : List ℕ) → e + n ≤ length s → length (take n (drop e s)) ≡ n
held_length n e s h = length-take-le n (drop e s) (simp length-drop (omega arith))

held_next : (n e : ℕ) (s : List ℕ) → e + n ≤ length s → ◌≡◌ {A = Place} (Ok (e + n)) (Ok (length s - length (drop (e + n) s)))
held_next n e s h = ap Ok (let d = length-drop (e + n) s in omega arith)

-- ---- data

counted_dat : Counted dat 4 (λ a n r. cond (leb n most) (after (raw n r) (λ bs s. ok (bytes bs) s)) (bad R.DataTooLong 0))
unfolding read_field
counted_dat = record { is = λ a xs. refl }

pub data_cut : {s : List ℕ} {p a : Place} {n : ℕ} {k : Refusal} {at : ℕ} → NumRead 4 s p n a → a ≡ Err (k, at) → FieldRead dat s p (span 0 0) a
data_cut r f = counted_refused counted_dat r f

module _ {s : List ℕ} {p a : Place} {n e : ℕ} where
  pub data_limit : NumRead 4 s p n a → a ≡ Ok e → most < n → FieldRead dat s p (span 0 0) (Err (R.DataTooLong, 0))
  data_limit r f h = refused_field (counted_held counted_dat (num_holds (omega arith) r f) ∙ rw (lt-leb n most h)) refl

  pub data_short : {t : Bool} → NumRead 4 s p n a → a ≡ Ok e → n ≤ most → Within e n (length s) t → t ≡ false → FieldRead dat s p (span 0 0) (Err (R.Short, 0))
  data_short r f h i l =
      let k = num_holds (omega arith) r f in
      let x = k.fits in
      let y = k.ends in
      refused_field (counted_held counted_dat k ∙ rw (le-leb n most h, raw_cut n e s (outside i l) (omega arith))) refl

  pub data_good : {t : Bool} → NumRead 4 s p n a → a ≡ Ok e → n ≤ most → Within e n (length s) t → t ≡ true → FieldRead dat s p (span e n) (Ok (e + n))
  data_good r f h i l =
      let k = num_holds (omega arith) r f in
      let m = inside i l in
      let u : read_from (read_field dat) s p ≡ ok (bytes (take n (drop e s))) (drop (e + n) s)
      = counted_held counted_dat k ∙ rw (le-leb n most h, raw_held n e s m) in
      rw (held_length n e s m, ← k.ends) at (read_field_lem k.place u (held_next n e s m))

-- ---- a vector: its count is checked before its elements

pub count_read : {s : List ℕ} {p a q : Place} {n : ℕ} → NumRead 2 s p n a → CountCheck n a q → CountRead s p n q
count_read {n = n} r c = record { value = r.value; next = c.is ∙ ap (check_at (ok_count n)) r.next }

record Few (s : List ℕ) (p : Place) (n e : ℕ) : Type 0 where
  pub small : n ≤ 16
  pub held : Held 2 s p n e

count_holds : {s : List ℕ} {p q : Place} {n e : ℕ} → CountRead s p n q → q ≡ Ok e → Few s p n e
count_holds {s} {p} {q} {n} {e} r f =
    let a : NumRead 2 s p n (past_num 2 s p) = record { value = r.value; next = refl } in
    let b : CountCheck n (past_num 2 s p) q = record { is = r.next } in
    let c = count_passed b f in
    record { small = c.0; held = num_holds (omega arith) a c.1 }

record Vector (f : Field) (g : ℕ → ℕ → List ℕ → Reading Item) : Type 0 where
  pub is : Counted f 2 (λ a n r. counted n (g a n r))

module _ {f : Field} {g : ℕ → ℕ → List ℕ → Reading Item} where
  vector_refused : {s : List ℕ} {p q : Place} {n : ℕ} {k : Refusal} {at : ℕ} → Vector f g → CountRead s p n q → q ≡ Err (k, at)
      → FieldRead f s p (nothing f) q
  unfolding num_at past_num
  vector_refused {s} {p} {q} {n} {k} {at} c r e = refused_field (there p r.value (sym r.next ∙ e)) e
    where
      go : (a : ℕ) (m : Reading ℕ) → n ≡ number_in m → check_at (ok_count n) (rest_at (length s) m) ≡ Err (k, at) → after m (λ x t. counted x (g a x t)) ≡ bad k at
      go a (bad j b) v h = let x = refused_one h in ap₂ bad x.0 x.1
      go a (ok x t) v h =
          or_else x 16
          (λ l. absurd (let i = rw (v, few (ok x []) l) at h in let z : ◌≡◌ {A = ℕ} 0 1 = cc i in omega arith))
          (λ l.
          let i = refused_one (rw (v, many (ok x []) l) at h) in many (g a x t) l ∙ ap₂ bad i.0 i.1)

      there : (p' : Place) → n ≡ number_in (read_at (read_num 2) s p') → check_at (ok_count n) (rest_at (length s) (read_at (read_num 2) s p')) ≡ Err (k, at)
          → read_from (read_field f) s p' ≡ bad k at
      there (Ok a) v h = c.is.is a (drop a s) ∙ go a (read_num 2 (drop a s)) v h
      there (Err f) v h = let x = refused_one h in ap₂ bad x.0 x.1

  vector_held : {s : List ℕ} {p q : Place} {n e : ℕ} → Vector f g → (r : CountRead s p n q) (h : q ≡ Ok e)
      → read_from (read_field f) s p ≡ g (count_holds r h).held.at n (drop e s)
  vector_held {s} {p} {q} {n} {e} c r h =
      let k = count_holds r h in counted_held c.is k.held ∙ few (g k.held.at n (drop e s)) k.small

-- ---- qids

vector_quids : Vector quids (λ a n r. after (raw (13 * n) r) (λ bs s. ok (qids n bs) s))
unfolding read_field
vector_quids = record { is = record { is = λ a xs. refl } }

-- a part that was refused, made by another function
nowhere : {f : Field} {s : List ℕ} {p e k : Place} {v : Value} → nothing f ≡ part 0 0 0 → Nowhere v e k → FieldRead f s p (nothing f) k → FieldRead f s p v e
nowhere h n r = record { value = n.value ∙ sym h ∙ r.value; next = n.next ∙ r.next }

module _ {s : List ℕ} {p a q : Place} {n : ℕ} {v : Value} where
  pub quids_cut : {k : Refusal} {at : ℕ} → CountRead s p n a → a ≡ Err (k, at) → Nowhere v q a → FieldRead quids s p v q
  quids_cut r f w = nowhere refl w (vector_refused vector_quids r f)

  pub quids_short : {e : ℕ} {t : Bool} → CountRead s p n a → a ≡ Ok e → Within e (13 * n) (length s) t → t ≡ false → Nowhere v q (Err (R.Short, 0)) → FieldRead quids s p v q
  quids_short {e} r f i l w =
      let k = (count_holds r f).held in
      let x = k.fits in
      let y = k.ends in
      nowhere refl w (refused_field (vector_held vector_quids r f ∙ rw (raw_cut (13 * n) e s (outside i l) (omega arith))) refl)

pub quids_good : {s : List ℕ} {p a : Place} {n e : ℕ} {t : Bool} → CountRead s p n a → a ≡ Ok e → Within e (13 * n) (length s) t → t ≡ true
    → FieldRead quids s p (part n e (13 * n)) (Ok (e + 13 * n))
quids_good {s} {p} {a} {n} {e} r f i l =
    let k = (count_holds r f).held in
    let m = inside i l in
    let u : read_from (read_field quids) s p ≡ ok (qids n (take (13 * n) (drop e s))) (drop (e + 13 * n) s)
    = vector_held vector_quids r f ∙ rw (raw_held (13 * n) e s m) in
    rw (held_length (13 * n) e s m, ← k.ends) at (read_field_lem k.place u (held_next (13 * n) e s m))

-- ---- strings

vector_strs : Vector strs (λ a n r. after (read_many n (a + 2) r) (λ l s. ok (strings l) s))
unfolding read_field
vector_strs = record { is = record { is = λ a xs. refl } }

rest_bad : {A : Type 0} (m : Reading A) (n : ℕ) {k : Refusal} {at : ℕ} → rest_at n m ≡ Err (k, at) → m ≡ bad k at
rest_bad (ok a r) n e = absurd (let z : ◌≡◌ {A = ℕ} 0 1 = cc e in omega arith)
rest_bad (bad j b) n e = let f = refused_one e in ap₂ bad f.0 f.1

rest_ok : {A X : Type 0} (m : Reading A) (n : ℕ) {g : ℕ} → rest_at n m ≡ Ok g → ((a : A) (r : List ℕ) → m ≡ ok a r → n - length r ≡ g → X) → X
rest_ok (ok a r) n e f = f a r refl (cc e)
rest_ok (bad k at) n e f = absurd (let z : ◌≡◌ {A = ℕ} 0 1 = cc e in omega arith)

pub count_lies : {s : List ℕ} {p a : Place} {n e : ℕ} → CountRead s p n a → a ≡ Ok e → e ≤ length s
count_lies r f = let k = (count_holds r f).held in let x = k.fits in let y = k.ends in omega arith

module _ {s : List ℕ} {p a q : Place} {n : ℕ} {v : Value} where
  pub strs_cut : {k : Refusal} {at : ℕ} → CountRead s p n a → a ≡ Err (k, at) → Nowhere v q a → FieldRead strs s p v q
  strs_cut r f w = nowhere refl w (vector_refused vector_strs r f)

  pub strs_bad : {e : ℕ} {m : Place} {k : Refusal} {at : ℕ} → CountRead s p n a → a ≡ Ok e → ManyRead n s e m → m ≡ Err (k, at) → Nowhere v q m → FieldRead strs s p v q
  strs_bad {e} r f c h w =
      let z = (count_holds r f).held in
      nowhere refl w
      (refused_field (vector_held vector_strs r f ∙ rw (← z.ends, rest_bad (read_many n e (drop e s)) (length s) (sym c.next ∙ h))) h)

-- past the end there are as many strings as at the end
none_past : (n a b l : ℕ) → rest_at l (read_many n a []) ≡ rest_at l (read_many n b [])
unfolding read_many read_string read_num raw
none_past zero a b l = refl
none_past (suc n) a b l = refl

pub many_from : {s : List ℕ} {n a m : ℕ} {e : Place} → m ≡ min a (length s) → ManyRead n s m e → ManyRead n s a e
many_from {s} {n} {a} {m} h r =
    or_else a (length s) (λ l. let k : m ≡ a = omega arith in rw k at r)
    (λ l.
    let x : drop m s ≡ [] = drop_of_length-le s {i = m} (omega arith) in
    let y : drop a s ≡ [] = drop_of_length-le s {i = a} (omega arith) in
    record { next = r.next ∙ rw (x, y) (none_past n m a (length s)) })

-- so many strings from e to g
record Many (n : ℕ) (s : List ℕ) (e g : ℕ) : Type 0 where
  pub names : List (List ℕ)
  pub left : List ℕ
  pub reads : read_many n e (drop e s) ≡ ok names left
  pub count : length names ≡ n
  pub size : e + length (many_bytes names) ≡ g
  pub ends : length s - length left ≡ g

run : {n e g : ℕ} {s : List ℕ} {m : Place} → Bytes s → e ≤ length s → ManyRead n s e m → m ≡ Ok g → Many n s e g
run {n} {e} {g} {s} b l c h =
    rest_ok (read_many n e (drop e s)) (length s) (sym c.next ∙ h)
    (λ names left f i.
    let t = took_many n e (drop e s) (bytes_drop e s b) f in
    let w : length (many_bytes names) + length left ≡ length s - e = sym (length-append (many_bytes names) left) ∙ ap length (sym t.whole) ∙ length-drop e s in
    record { names = names; left = left; reads = f; count = t.good.0; size = omega arith; ends = i })

module _ {s : List ℕ} {p a m : Place} {n e g : ℕ} where
  pub strs_on : Bytes s → CountRead s p n a → a ≡ Ok e → ManyRead n s e m → m ≡ Ok g → e ≤ g
  strs_on b r f c h = let z = (run b (count_lies r f) c h).size in omega arith

  pub strs_good : Bytes s → CountRead s p n a → a ≡ Ok e → ManyRead n s e m → m ≡ Ok g → FieldRead strs s p (part n e (g - e)) (Ok g)
  strs_good b r f c h =
      let z = run b (count_lies r f) c h in
      let k = (count_holds r f).held in
      let u : read_from (read_field strs) s p ≡ ok (strings z.names) z.left = vector_held vector_strs r f ∙ rw (← k.ends, z.reads) in
      let i : length (many_bytes z.names) ≡ g - e = (let y = z.size in omega arith) in
      rw (z.count, i, ← k.ends) at (read_field_lem k.place u (ap Ok (sym z.ends)))
