-- Of new places, steps and walks, for each way through the code.
use Rattle.numbers.specs.Place.{Place}
use Prim.Native.Nat.{ℕ, suc, ◌+◌, ◌-◌, ◌<◌, ◌≤◌}
use native.Mathlib.Omega.{arith}
use Rattle.std.proofs.Math.Nat.{sub-zero}
use Rattle.std.specs.Prelude.{◌≡◌, Bool, true, false, List, length, get_or, set, eqb, Ok, Err}
use Rattle.std.proofs.Common.{ap}
use borrow.Author.Tests.{lt-ltb, le-ltb, eq-eqb, ne_eqb}
use Rattle.numbers.specs.declared.Refusal.{Refusal}
use Rattle.numbers.specs.declared.Refusal.TheVariants as R
use Rattle.strings.specs.Spans.{StrRead}
use Rattle.places.specs.declared.Places.{Places}
use Rattle.places.specs.declared.Reached.{Reached}
use Rattle.places.specs.Places.{rowed, added, name_in, is_up, step, onward, walked}

-- ---- a new place

module _ (p : Places) (o x y : ℕ) where
  pub row_put : {i : ℕ} → p.used ≡ i → ◌≡◌ {A = Places} (record { older = set p.older i o; starts = set p.starts i x; lens = set p.lens i y; used = i + 1 }) (rowed p o x y)
  row_put e = rw e

  -- a row is left, or none is
  pub added_new : p.used < 256 → added p o x y ≡ record { places = rowed p o x y; at = Ok p.used }
  unfolding added
  added_new h = rw (lt-ltb p.used 256 h)

  pub added_full : 256 ≤ p.used → added p o x y ≡ record { places = p; at = Err R.TableFull }
  unfolding added
  added_full h = rw (le-ltb p.used 256 h)

-- ---- a step

module _ {t n : List ℕ} (e : t ≡ n) where
  pub up_short : (length t ≡ 2 → ⊥) → false ≡ is_up n
  up_short h = rw (← e, ne_eqb (length t) 2 h)

  module _ (h : length t ≡ 2) where
    pub up_other : (get_or t 0 0 ≡ 46 → ⊥) → false ≡ is_up n
    up_other g = rw (← e, eq-eqb (length t) 2 h, ne_eqb (get_or t 0 0) 46 g)

    pub up_dots : get_or t 0 0 ≡ 46 → eqb (get_or t 1 0) 46 ≡ is_up n
    up_dots g = rw (← e, eq-eqb (length t) 2 h, eq-eqb (get_or t 0 0) 46 g)

module _ (s : List ℕ) (p : Places) (from x y : ℕ) {b : Bool} (e : b ≡ is_up (name_in s x y)) where
  pub step_up : {i : ℕ} → b ≡ true → i ≡ from → ◌≡◌ {A = Reached} (record { places = p; at = Ok (get_or p.older i 0) }) (step s p from x y)
  unfolding step
  step_up h j = rw (← e, h, j)

  pub step_on : {r : Reached} → b ≡ false → r ≡ added p from x y → r ≡ step s p from x y
  unfolding step
  step_on h j = rw (← e, h) j

-- ---- a walk

module _ (s : List ℕ) (x y : ℕ) (q : Place) (r : Reached) where
  pub onward_refused : {k : Refusal} → r.at ≡ Err k → r ≡ onward s x y q r
  unfolding onward
  onward_refused h = rw h

  module _ {from : ℕ} (h : r.at ≡ Ok from) where
    pub onward_step : {n : ℕ} {t : Reached} → q ≡ Ok n → t ≡ step s r.places from x y → t ≡ onward s x y q r
    unfolding onward
    onward_step g e = rw (h, g) e

    pub onward_bad : {k : Refusal} {n : ℕ} → q ≡ Err (k, n) → ◌≡◌ {A = Reached} (record { places = r.places; at = Err k }) (onward s x y q r)
    unfolding onward
    onward_bad g = rw (h, g)

module _ (s : List ℕ) where
  pub walk_start : (n : ℕ) (q : Place) (r : Reached) → walked s (n - 0) q r ≡ walked s n q r
  walk_start n q r = ap (λ (m : ℕ). walked s m q r) (sub-zero n)

  pub walk_turn : (n i : ℕ) (q : Place) (r : Reached) {x y : ℕ} {q' : Place} {r' : Reached} → i < n → StrRead s q x y q' → r' ≡ onward s x y q' r
      → walked s (n - (i + 1)) q' r' ≡ walked s (n - i) q r
  unfolding walked
  walk_turn n i q r {x} {y} {q'} {r'} h w e =
      let m : n - i ≡ suc (n - (i + 1)) = omega arith in
      rw (m, e, w.start, w.len, w.next)

  pub walk_end : (n i : ℕ) (q : Place) (r : Reached) → n ≤ i → r ≡ walked s (n - i) q r
  unfolding walked
  walk_end n i q r h = let m : n - i ≡ 0 = omega arith in rw m
