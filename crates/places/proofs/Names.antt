-- Every name of a place lies within the stretch that it was read from.
use Rattle.numbers.specs.Place.{Place}
use Prim.Native.Nat.{ℕ, zero, suc, ◌+◌, ◌-◌, ◌≤◌}
use native.Mathlib.Omega.{arith}
use Rattle.std.specs.Prelude.{◌≡◌, Bool, cond, List, length, get_or, drop, Result as Outcome, Ok, Err}
use Rattle.std.proofs.Math.Path.{refl}
use Rattle.std.proofs.Common.{sym, ap, ◌∙◌, length-append, length-drop}
use Rattle.std.proofs.Math.Bool.{true, false}
use Rattle.std.proofs.Math.Seq.{get_or-set_same, get_or-set_other}
use Rattle.std.proofs.Math.Dec.{ltb}
use borrow.Author.Tests.{ltb-true}
use Rattle.numbers.specs.Numbers.{Bytes, to_le}
use Rattle.numbers.proofs.Numbers.{length_to_le, bytes_drop}
use Rattle.numbers.specs.Reading.{Reading, ok, bad}
use Rattle.numbers.proofs.ReadingLaws.{or_else}
use Rattle.numbers.specs.Places.{rest_at}
use Rattle.numbers.specs.declared.Refusal.{Refusal}
use Rattle.numbers.specs.declared.Refusal.TheVariants as R
use Rattle.strings.specs.Strings.{read_string, string_bytes}
use Rattle.strings.specs.Spans.{bytes_in, start_in, str_start, str_len, past_str}
use Rattle.strings.proofs.StringLaws.{took_string}
use Rattle.places.specs.declared.Places.{Places}
use Rattle.places.specs.declared.Reached.{Reached}
use Rattle.places.specs.Places.{rowed, added, child, name_in, is_up, step, stepped, onward, walked}
use Rattle.places.specs.Sound.{Sound, Grown}
use Rattle.places.proofs.Sound.{onward_grown}
use Rattle.places.specs.Paths.{Named}

counted : (bs : List ℕ) → length (string_bytes bs) ≡ 2 + length bs
unfolding string_bytes
counted bs = length-append (to_le 2 (length bs)) bs ∙ ap (λ (n : ℕ). n + length bs) (length_to_le 2 (length bs))

-- a string that was read lies within
pub string_inside : (s : List ℕ) → Bytes s → (q : Place) {e : ℕ} → past_str s q ≡ Ok e → str_start s q + str_len s q ≤ length s
unfolding past_str str_start str_len
string_inside s b (Err f) {e} h = absurd (let z : ◌≡◌ {A = ℕ} 0 1 = cc in omega arith)
string_inside s b (Ok a) {e} h = go (read_string a (drop a s)) refl h
  where
    go : (m : Reading (List ℕ)) → read_string a (drop a s) ≡ m → rest_at (length s) m ≡ Ok e → start_in 2 (Ok a) m + length (bytes_in m) ≤ length s
    go (bad k j) f g = absurd (let z : ◌≡◌ {A = ℕ} 0 1 = cc in omega arith)
    go (ok bs r) f g =
        let t = took_string a (drop a s) (bytes_drop a s b) f in
        let l : length s - a ≡ 2 + length bs + length r = sym (length-drop a s) ∙ ap length t.whole ∙ length-append (string_bytes bs) r ∙ ap (λ (n : ℕ). n + length r) (counted bs) in
        omega arith

module _ (s : List ℕ) where
  pub added_named : {p : Places} → Sound p → Named s p → (o x y : ℕ) → x + y ≤ length s → Named s (added p o x y).places
  unfolding added
  added_named {p} d n o x y h = go (ltb p.used 256) refl
    where
      go : (b : Bool) → ltb p.used 256 ≡ b → Named s (cond {A = Reached} b (record { places = rowed p o x y; at = Ok p.used }) (record { places = p; at = Err R.TableFull })).places
      go false e = n
      go true e = λ i k.
          let u = ltb-true p.used 256 e in
          or_else p.used i
          (λ v. let w : i ≡ p.used = omega arith in
          let f = d.firsts in let c = d.counts in
          rw (w, get_or-set_same p.starts p.used x 0 (omega arith), get_or-set_same p.lens p.used y 0 (omega arith)) h)
          (λ v. rw (get_or-set_other p.starts p.used i x 0 (λ w. omega arith), get_or-set_other p.lens p.used i y 0 (λ w. omega arith)) (n i v))

  pub step_named : {p : Places} → Sound p → Named s p → (from x y : ℕ) → x + y ≤ length s → Named s (step s p from x y).places
  unfolding step
  step_named {p} d n from x y h = go (is_up (name_in s x y))
    where
      go : (b : Bool) → Named s (cond {A = Reached} b (record { places = p; at = Ok (get_or p.older from 0) }) (child p from x y)).places
      go true = n
      go false = added_named d n from x y h

  module _ (b : Bytes s) where
    onward_named : {p : Places} {r : Reached} → Grown p r → Named s r.places → (q : Place) → Named s (onward s (str_start s q) (str_len s q) (past_str s q) r).places
    unfolding onward
    onward_named {p} {r} g n q = go r.at refl (past_str s q) refl
      where
        go : (t : Outcome ℕ Refusal) → r.at ≡ t → (u : Place) → past_str s q ≡ u → Named s (stepped s (str_start s q) (str_len s q) u r t).places
        go (Err k) e u f = n
        go (Ok from) e (Err w) f = n
        go (Ok from) e (Ok j) f = step_named g.sound n from (str_start s q) (str_len s q) (string_inside s b q f)

    pub walked_named : (m : ℕ) (q : Place) {p : Places} {r : Reached} → Grown p r → Named s r.places → Named s (walked s m q r).places
    unfolding walked
    walked_named zero q g n = n
    walked_named (suc m) q g n = walked_named m (past_str s q) (onward_grown g s (str_start s q) (str_len s q) (past_str s q)) (onward_named g n q)
