-- What holds of the definitions in specs/FieldLaws.antt.
use Rattle.numbers.specs.Place.{Place}
use Rattle.std.specs.Prelude.{ℕ, ◌+◌, ◌-◌, ◌≤◌, ◌<◌, ◌≡◌, refl, List, [], ◌∷◌, ◌++◌, length, drop, Ok, Err}
use Rattle.std.proofs.Common.{arith, sym, ap, ap₂, ◌∙◌, length-append, length-drop, drop-drop, le-leb}
use Rattle.std.proofs.Math.Seq.{drop-append_seam}
use Rattle.std.proofs.lemmas.Bool.{lt-leb}
use Rattle.numbers.specs.Numbers.{Bytes}
use Rattle.numbers.proofs.Numbers.{bytes_drop}
use Rattle.numbers.specs.Reading.{Reading, ok, bad, after, read_num}
use Rattle.numbers.proofs.ReadingLaws.{or_else, after_inv}
use Rattle.numbers.specs.Places.{rest_at, number_in, num_at, past_num, NumRead}
use Rattle.numbers.proofs.PlaceLaws.{one_answer}
use Rattle.numbers.specs.declared.Refusal.{Refusal}
use Rattle.numbers.specs.declared.Refusal.TheVariants as R
use Rattle.strings.specs.Strings.{read_string}
use Rattle.strings.specs.Spans.{bytes_in, check_at, start_in, str_start, str_len, past_str, StrRead}
use Rattle.strings.proofs.SpanLaws.{passing}
use Rattle.fields.specs.Layouts.{Field, num, str, Layout, q, counted, Item, number, string, read_field, read_fields, item_bytes, items_bytes}
use Rattle.fields.proofs.LayoutLaws.{took_field}
use Rattle.fields.specs.Values.{Value, val, span, place, places}
use Rattle.fields.specs.Fields.{CountCheck, placed_in, value_at, past_field, FieldRead, values_at, past_fields, Fields}
use Rattle.fields.specs.FieldLaws.{Accepted}

-- ---- a number and a string are fields

past_map : {A B : Type 0} (f : A → B) (n : ℕ) (m : Reading A) → rest_at n m ≡ rest_at n (after m (λ x r. ok (f x) r))
past_map f n (ok x r) = refl
past_map f n (bad k at) = refl

num_placed : (w a : ℕ) (m : Reading ℕ) → val (number_in m) ≡ placed_in (num w) (Ok a) (after m (λ n r. ok (number w n) r))
num_placed w a (ok x r) = refl
num_placed w a (bad k at) = refl

pub number_field : {w x : ℕ} {s : List ℕ} {p q : Place} → NumRead w s p x q → FieldRead (num w) s p (val x) q
unfolding num_at past_num value_at past_field read_field
number_field {w} {x} {s} {p = Ok a} b = record {
  value = ap val b.value ∙ num_placed w a (read_num w (drop a s));
  next = b.next ∙ past_map (number w) (length s) (read_num w (drop a s));
}
number_field {w} {x} {s} {p = Err f} b = record { value = ap val b.value; next = b.next }

str_placed : (a : ℕ) (m : Reading (List ℕ)) → span (start_in 2 (Ok a) m) (length (bytes_in m)) ≡ placed_in str (Ok a) (after m (λ bs r. ok (string bs) r))
str_placed a (ok bs r) = refl
str_placed a (bad k at) = refl

pub string_field : {x y : ℕ} {s : List ℕ} {p q : Place} → StrRead s p x y q → FieldRead str s p (span x y) q
unfolding str_start str_len past_str value_at past_field read_field
string_field {x} {y} {s} {p = Ok a} b = record {
  value = ap₂ span b.start b.len ∙ str_placed a (read_string a (drop a s));
  next = b.next ∙ past_map string (length s) (read_string a (drop a s));
}
string_field {x} {y} {s} {p = Err f} b = record { value = ap₂ span b.start b.len; next = b.next }

-- ---- the count of a vector

-- what has a count that passes, and what has one that does not
pub few : {A : Type 0} {n : ℕ} (m : Reading A) → n ≤ 16 → counted n m ≡ m
few {n = n} m h = rw (le-leb n 16 h)

pub many : {A : Type 0} {n : ℕ} (m : Reading A) → 16 < n → counted n m ≡ bad R.TooManyElements 0
many {n = n} m h = rw (lt-leb n 16 h)

pub count_over : {n a : ℕ} {p : Place} → p ≡ Ok a → 16 < n → CountCheck n p (Err (R.TooManyElements, 0))
count_over {n} e h = record { is = rw (e, lt-leb n 16 h) }

pub count_held : {n : ℕ} {p : Place} → n ≤ 16 → CountCheck n p p
count_held {n} {p} h = record { is = sym (ap (λ m. check_at m p) (few (ok n []) h) ∙ passing n [] p) }

-- what a count that was tested is
pub count_passed : {n b : ℕ} {p q : Place} → CountCheck n p q → q ≡ Ok b → (n ≤ 16) × (p ≡ Ok b)
count_passed {n} {b} {p} c e =
    or_else n 16
    (λ h. (h, one_answer (count_held h).is c.is ∙ e))
    (λ h. absurd (over p (ap (λ m. check_at m p) (sym (many (ok n []) h)) ∙ sym c.is ∙ e)))
  where
    over : (x : Place) → check_at {A = ℕ} (bad R.TooManyElements 0) x ≡ Ok b → ⊥
    over (Ok a) f = let z : ◌≡◌ {A = ℕ} 0 1 = cc f in omega arith
    over (Err e) f = let z : ◌≡◌ {A = ℕ} 0 1 = cc f in omega arith

pub count_refused : {n a : ℕ} {q : Place} {k : Refusal} {at : ℕ} → CountCheck n (Ok a) q → q ≡ Err (k, at) → 16 < n
count_refused {n} c e =
    or_else n 16
    (λ h. absurd (let f = rw (le-leb n 16 h) at (sym c.is ∙ e) in let z : ◌≡◌ {A = ℕ} 0 1 = cc f in omega arith))
    (λ h. h)

-- ---- one field more

pub done : {s : List ℕ} {p : Place} → Fields [] s p [] p
unfolding values_at past_fields
done = record { values = refl; next = refl }

pub field : {f : Field} {fs : Layout} {s : List ℕ} {p q e : Place} {v : Value} {vs : List Value} → FieldRead f s p v q → Fields fs s q vs e
    → Fields (f ∷ fs) s p (v ∷ vs) e
unfolding values_at past_fields
field a b = record { values = cc; next = cc }

-- a qid in front
pub qid_fields : {fs : Layout} {s : List ℕ} {p p' e : Place} {t v x : ℕ} {vs : List Value} → Fields q s p (val t ∷ val v ∷ val x ∷ []) p' → Fields fs s p' vs e
    → Fields (num 1 ∷ num 4 ∷ num 8 ∷ fs) s p (val t ∷ val v ∷ val x ∷ vs) e
unfolding values_at past_fields
qid_fields a b =
    let k = a.values in
    let l = a.next in
    let m = b.values in
    let n = b.next in
    record { values = cc; next = cc }

pub field_one : {f : Field} {s : List ℕ} {p e e' : Place} {v v' : Value} → FieldRead f s p v e → FieldRead f s p v' e' → (v ≡ v') × (e ≡ e')
field_one a b = (one_answer a.value b.value, one_answer a.next b.next)

pub fields_one : {fs : Layout} {s : List ℕ} {p e e' : Place} {vs vs' : List Value} → Fields fs s p vs e → Fields fs s p vs' e' → (vs ≡ vs') × (e ≡ e')
fields_one a b = (one_answer a.values b.values, one_answer a.next b.next)

-- ---- at places as in the definition

-- of the bytes of s from a on, the field i was read
record There (f : Field) (s : List ℕ) (a : ℕ) (i : Item) (r : List ℕ) : Type 0 where
  pub lies : a + length (item_bytes i) ≤ length s
  pub rest : r ≡ drop (a + length (item_bytes i)) s
  pub value : value_at f s (Ok a) ≡ place a i
  pub next : past_field f s (Ok a) ≡ Ok (a + length (item_bytes i))

there : (f : Field) (s : List ℕ) (a : ℕ) {i : Item} {r : List ℕ} → Bytes s → a ≤ length s → read_field f a (drop a s) ≡ ok i r → There f s a i r
unfolding value_at past_field
there f s a {i} {r} b h e =
    let t = took_field f a (drop a s) (bytes_drop a s b) e in
    let w = t.whole in
    let l : length (item_bytes i) + length r ≡ length s - a = sym (length-append (item_bytes i) r) ∙ ap length (sym w) ∙ length-drop a s in
    record {
      lies = omega arith;
      rest = sym (sym (drop-drop (length (item_bytes i)) a s) ∙ ap (drop (length (item_bytes i))) w ∙ drop-append_seam (item_bytes i) r);
      value = rw e;
      next = rw e (ap Ok (omega arith));
    }

refuses : (f : Field) (s : List ℕ) (a : ℕ) {k : Refusal} {at : ℕ} → read_field f a (drop a s) ≡ bad k at → past_field f s (Ok a) ≡ Err (k, at)
unfolding past_field
refuses f s a e = rw e

pub stays : (fs : Layout) (s : List ℕ) (k : Refusal) (at : ℕ) → past_fields fs s (Err (k, at)) ≡ Err (k, at)
unfolding past_fields past_field
stays [] s k at = refl
stays (f ∷ fs) s k at = stays fs s k at

pub fields_accepted : (fs : Layout) (s : List ℕ) (a : ℕ) {is : List Item} {r : List ℕ} → Bytes s → a ≤ length s → read_fields fs a (drop a s) ≡ ok is r
    → Accepted fs s a is r
unfolding read_fields items_bytes places values_at past_fields
fields_accepted [] s a {is} {r} b h e =
    let ei : [] ≡ is = cc in
    let er : drop a s ≡ r = cc in
    let z : a + 0 ≡ a = omega arith in
    rw (← ei, ← er) (record { lies = omega arith; rest = rw z; values = refl; next = rw z })
fields_accepted (f ∷ fs) s a {is} {r} b h e =
    after_inv (read_field f a (drop a s)) _ e
    (λ i t e1 e2. after_inv (read_fields fs (a + length (item_bytes i)) t) _ e2
    (λ js u e3 e4.
    let ei : i ∷ js ≡ is = cc in
    let er : u ≡ r = cc in
    let g = there f s a b h e1 in
    let k = fields_accepted fs s (a + length (item_bytes i)) b g.lies (rw g.rest at e3) in
    let n : a + length (item_bytes i) + length (items_bytes js) ≡ a + length (item_bytes i ++ items_bytes js) = rw (length-append (item_bytes i) (items_bytes js)) (omega arith) in
    rw (← ei, ← er) (record {
      lies = rw (← n) k.lies;
      rest = rw (← n) k.rest;
      values = rw (g.value, g.next, k.values);
      next = rw (← n, g.next) k.next;
    })))

-- where the first of some items stands, it is the others that are refused
pub others_bad : (i : Item) (m : Reading (List Item)) {k : Refusal} {at : ℕ} → after m (λ is u. ok (i ∷ is) u) ≡ bad k at → m ≡ bad k at
others_bad i (ok is u) c = absurd (let z : ◌≡◌ {A = ℕ} 0 1 = cc c in omega arith)
others_bad i (bad j b) {k} {at} c = let f : j ≡ k = cc c in let g : b ≡ at = cc c in ap₂ bad f g

-- refused: the place carries the definition's refusal
pub fields_refused : (fs : Layout) (s : List ℕ) (a : ℕ) {k : Refusal} {at : ℕ} → Bytes s → a ≤ length s → read_fields fs a (drop a s) ≡ bad k at → past_fields fs s (Ok a) ≡ Err (k, at)
unfolding read_fields past_fields
fields_refused [] s a b h e = absurd (let z : ◌≡◌ {A = ℕ} 0 1 = cc e in omega arith)
fields_refused (f ∷ fs) s a {k} {at} b h e = go (read_field f a (drop a s)) refl e (λ n l c. fields_refused fs s n b l c)
  where
    go : (m : Reading Item) → read_field f a (drop a s) ≡ m → after m (λ i r. after (read_fields fs (a + length (item_bytes i)) r) (λ is u. ok (i ∷ is) u)) ≡ bad k at
        → ((n : ℕ) → n ≤ length s → read_fields fs n (drop n s) ≡ bad k at → past_fields fs s (Ok n) ≡ Err (k, at))
        → past_fields fs s (past_field f s (Ok a)) ≡ Err (k, at)
    go (ok i t) d c ih =
        let g = there f s a b h d in
        rw g.next (ih (a + length (item_bytes i)) g.lies (rw g.rest at (others_bad i (read_fields fs (a + length (item_bytes i)) t) c)))
    go (bad j m) d c ih = let g : j ≡ k = cc c in let l : m ≡ at = cc c in rw (refuses f s a d, g, l) (stays fs s k at)
