-- The scan of so many strings: what each way out of it says, and a turn of each loop.
use Rattle.std.specs.Prelude.{Ok, Err}
use Rattle.numbers.specs.Place.{Place}
use Prim.Native.Nat.{ℕ, zero, suc, ◌+◌, ◌-◌, ◌≤◌, ◌<◌}
use native.Mathlib.Omega.{arith}
use mathlib.Core.Path.{◌≡◌, refl, sym, ap, ◌∙◌}
use mathlib.Core.Bool.{Bool, true, false}
use mathlib.Core.List.{List, ◌∷◌}
use lib.ListN.{length, take, drop, get_or, length-drop, length-append}
use lib.Seq.{drop-length, length-take-le}
use Rattle.numbers.proofs.Numbers.{length_to_le}
use Rattle.numbers.specs.Reading.{Reading, ok, bad, after}
use Rattle.numbers.specs.Places.{rest_at, NumRead, Within}
use Rattle.numbers.specs.PlaceLaws.{Held}
use Rattle.numbers.proofs.PlaceLaws.{inside, outside, num_holds, num_refused}
use Rattle.numbers.specs.declared.Fault.{Fault}
use Rattle.numbers.specs.declared.Refusal.{Refusal}
use Rattle.numbers.specs.declared.Refusal.TheVariants as R
use Rattle.utf8.specs.Utf8.{◌to◌, in_range, chars, utf8, no_zero}
use Rattle.utf8.specs.Plain.{plain_at}
use Rattle.utf8.proofs.Plain.{plain_each}
use Rattle.utf8.proofs.Utf8Laws.{chars_over, plain_turn, plain_full, full_over}
use Rattle.strings.specs.Strings.{ok_text, read_string, string_bytes}
use Rattle.strings.proofs.SpanLaws.{string_cut, string_held, string_short, text_refused, text_good, text_passed}
use Rattle.strings.specs.Spans.{TextCheck}
use Rattle.fields.specs.Layouts.{read_many}
use Rattle.fields.specs.Runs.{Plains, Run, Passed, NotPassed, NamePassed}

-- ---- one string off

bad_name : (m : ℕ) (s : List ℕ) (a n : ℕ) {k : Refusal} {i : ℕ} → (n ≡ 0 → ⊥) → read_string a (drop a s) ≡ bad k i → rest_at m (read_many n a (drop a s)) ≡ Err (k, i)
unfolding read_many
bad_name m s a zero f e = absurd (f refl)
bad_name m s a (suc n) f e = rw e

same_rest : (m : ℕ) (b : List ℕ) (r : Reading (List (List ℕ))) → rest_at m (after r (λ bs s. ok (b ∷ bs) s)) ≡ rest_at m r
same_rest m b (ok a r) = refl
same_rest m b (bad k i) = refl

good_name : (m : ℕ) (s : List ℕ) (a n e : ℕ) {b : List ℕ} → (n ≡ 0 → ⊥) → a + length (string_bytes b) ≡ e → read_string a (drop a s) ≡ ok b (drop e s)
    → rest_at m (read_many n a (drop a s)) ≡ rest_at m (read_many (n - 1) e (drop e s))
unfolding read_many
good_name m s a zero e f l g = absurd (f refl)
good_name m s a (suc n) e {b} f l g = let o : suc n - 1 ≡ n = omega arith in rw (o, g, l) (same_rest m b (read_many n e (drop e s)))

string_size : (bs : List ℕ) → length (string_bytes bs) ≡ 2 + length bs
unfolding string_bytes
string_size bs = simp (length-append, length_to_le)

-- ---- the bytes of a name, one by one

-- from i on the text is what all of it is: characters, and no zero
pub record Same (t : List ℕ) (i : ℕ) : Type 0 where
  pub form : utf8 (drop i t) ≡ utf8 t
  pub full : no_zero (drop i t) ≡ no_zero t

pub from_front : (t : List ℕ) → Same t 0
from_front t = record { form = refl; full = refl }

pub plain_byte : (t : List ℕ) (i : ℕ) {p : Bool} → i < length t → p ≡ in_range (1 to 127) (get_or t i 0) → p ≡ true → Same t i → Same t (i + 1)
plain_byte t i l e h s = record { form = plain_turn t i l e h s.form; full = plain_full t i l e h s.full }

-- ---- and several at once

module _ {s : List ℕ} {i : ℕ} where
  pub one_plain : {b : Bool} → b ≡ in_range (1 to 127) (get_or s i 0) → b ≡ true → Plains s i (i + 1)
  one_plain f h = record { each = λ j l m. let e : j ≡ i = omega arith in rw e (sym f ∙ h) }

  pub eight_plain : {b : Bool} → b ≡ plain_at s i 8 → b ≡ true → Plains s i (i + 8)
  eight_plain f h = record { each = λ j l m. plain_each s i 8 j f h l m }

  pub no_run : i ≤ length s → Run s i 0
  no_run l = record { held = omega arith; plain = record { each = λ j m n. absurd (omega arith) } }

  -- bytes from i to e, of a stretch that begins no later
  pub some_run : {a e n : ℕ} → Plains s a e → a ≤ i → i + n ≡ e → e ≤ length s → Run s i n
  some_run p l f h = record { held = omega arith; plain = record { each = λ j m k. p.each j (omega arith) (omega arith) } }

pub plain_run : (t : List ℕ) (i n : ℕ) → Run t i n → Same t i → Same t (i + n)
plain_run t i zero r s = let e : i + 0 ≡ i = omega arith in rw e s
plain_run t i (suc n) r s =
    let h = r.held in
    let q = plain_run t i n (record { held = omega arith; plain = record { each = λ j l m. r.plain.each j l (omega arith) } }) s in
    let e : i + n + 1 ≡ i + suc n = omega arith in
    rw e at (plain_byte t (i + n) (omega arith) (sym (r.plain.each (i + n) (omega arith) (omega arith))) refl q)

-- all of it looked at, and passed
all_same : (t : List ℕ) (i : ℕ) → length t ≡ i → utf8 t ≡ true → no_zero t ≡ true → Same t i
unfolding utf8 chars no_zero
all_same t i l u z = rw (← l) (record { form = rw (drop-length t) (sym u); full = rw (drop-length t) (sym z) })

pub all_good : {s : List ℕ} {x y n a : ℕ} {q : Place} (i : ℕ) → length (take (x + y - x) (drop x s)) ≡ i → TextCheck s x y (Ok n) q → q ≡ Ok a
    → Same (take (x + y - x) (drop x s)) i
all_good {s} {x} {y} i l c e =
    let n : x + y - x ≡ y = omega arith in
    let g = text_good c e in
    all_same (take (x + y - x) (drop x s)) i l (rw n g.0) (rw n g.1)

-- ---- a name passed over, or refused

-- the string at hand: its count c, its bytes from e on
pub record Name (s : List ℕ) (at c e : ℕ) : Type 0 where
  pub held : Held 2 s (Ok at) c e
  pub lies : e + c ≤ length s

pub the_name : {s : List ℕ} {at c e : ℕ} {a : Place} {t : Bool} → NumRead 2 s (Ok at) c a → a ≡ Ok e → Within e c (length s) t → t ≡ true → Name s at c e
the_name r e i h = record { held = num_holds (omega arith) r e; lies = inside i h }

pub name_length : (s : List ℕ) (c e : ℕ) → e + c ≤ length s → length (take (e + c - e) (drop e s)) ≡ c
name_length s c e h = let n : e + c - e ≡ c = omega arith in rw n (length-take-le c (drop e s) (simp length-drop (omega arith)))

pub count_cut : {s : List ℕ} {at c : ℕ} {a : Place} {f : Fault} → NumRead 2 s (Ok at) c a → a ≡ Err f → NamePassed s at (Err f)
count_cut {s} {at} r e = record { reads = string_cut s (Ok at) (num_refused r e).reads }

pub bytes_cut : {s : List ℕ} {at c e : ℕ} {a : Place} {t : Bool} → NumRead 2 s (Ok at) c a → a ≡ Ok e → Within e c (length s) t → t ≡ false → NamePassed s at (Err (R.Short, 0))
bytes_cut r e i h = record { reads = string_short (num_holds (omega arith) r e) (outside i h) }

module _ {s : List ℕ} {at c e : ℕ} (m : Name s at c e) where
  at_is : at ≡ m.held.at
  at_is = let p = m.held.place in cc p

  text_read : read_string at (drop at s) ≡ ok_text e (take c (drop e s)) (drop (e + c) s)
  text_read = string_held m.held m.lies

  good : ok_text e (take c (drop e s)) (drop (e + c) s) ≡ ok (take c (drop e s)) (drop (e + c) s) → Passed s at (e + c)
  good g =
      let y = string_size (take c (drop e s)) in
      let l : length (take c (drop e s)) ≡ c = length-take-le c (drop e s) (simp length-drop (let h = m.lies in omega arith)) in
      let p = at_is in
      let w = m.held.ends in
      record { name = take c (drop e s); reads = text_read ∙ g; ends = omega arith; lies = m.lies }

  -- a text that is not plain throughout is checked as a whole
  pub name_checked : {q : Place} → TextCheck s e c (Ok (e + c)) q → NamePassed s at q
  name_checked {q = Ok a} t = let p = text_passed t (drop (e + c) s) refl in let n : a ≡ e + c = cc (p.1) in rw n (good p.0)
  name_checked {q = Err f} t = record { reads = text_read ∙ text_refused t (drop (e + c) s) refl }

  pub name_plain : {i : ℕ} → length (take (e + c - e) (drop e s)) ≤ i → Same (take (e + c - e) (drop e s)) i → NamePassed s at (Ok (e + c))
  name_plain {i} o t =
      let n : e + c - e ≡ c = omega arith in
      let u : utf8 (take c (drop e s)) ≡ true = rw n at (sym (chars_over _ i o t.form)) in
      let z : no_zero (take c (drop e s)) ≡ true = rw n at (sym (full_over _ i o t.full)) in
      good (rw (u, z))

-- ---- the ways out

-- scanning what is left from `at` on ends at x
pub record Left (s : List ℕ) (at n : ℕ) (x : Place) : Type 0 where
  pub is : rest_at (length s) (read_many n at (drop at s)) ≡ x

module _ {s : List ℕ} {at n : ℕ} {x : Place} where
  pub none_left : n ≡ 0 → at ≤ length s → Left s at n x → Ok at ≡ x
  unfolding read_many
  none_left e h l = ap Ok (let d = length-drop at s in omega arith) ∙ (rw e at l.is)

  pub name_bad : {f : Fault} → (n ≡ 0 → ⊥) → NotPassed s at f → Left s at n x → Err f ≡ x
  name_bad o r l = sym (bad_name (length s) s at n o r.reads) ∙ l.is

  pub one_off : {e : ℕ} → (n ≡ 0 → ⊥) → Passed s at e → Left s at n x → Left s e (n - 1) x
  one_off {e} o r l = record { is = sym (good_name (length s) s at n e o r.ends r.reads) ∙ l.is }
