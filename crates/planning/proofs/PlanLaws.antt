-- What holds of the definitions in specs/PlanLaws.antt.
use Rattle.numbers.specs.Place.{Place}
use Prim.Native.Nat.{ℕ, suc, zero, ◌+◌, ◌-◌, ◌*◌, ◌/◌, min, ◌≤◌, ◌<◌}
use Rattle.std.proofs.Math.Nat.{suc-mul, div-eq_of_lt, add-div_right, lt-div-mul-add, lt_of_mul-lt-mul_right}
use Rattle.std.specs.Int.{div_ceil}
use Rattle.std.proofs.lemmas.Grind.{div_ceil_times}
use Rattle.std.proofs.Common.{zero-mul, div-lt_iff_lt-mul, ap, ◌∙◌}
use native.Mathlib.Omega.{arith}
use Rattle.std.proofs.Math.Path.{◌≡◌, refl, sym}
use Rattle.std.specs.Prelude.{Bool, drop, leb, eqb, Ok, Err}
use Rattle.std.proofs.Math.Bool.{true, false, cond}
use mathlib.Core.List.{List, [], ◌∷◌, ◌++◌}
use Rattle.std.proofs.Math.ListN.{length}
use Rattle.std.proofs.Math.Dec.{ltb}
use borrow.Author.Tests.{eq-eqb, le-leb, leb-true, ltb-true, ltb-false, lt-ltb, le-ltb, eqb-true}
use Rattle.std.specs.Result.{is_err}
use Rattle.numbers.specs.declared.Fault.{Fault}
use Rattle.numbers.specs.declared.Refusal.{Refusal}
use Rattle.numbers.specs.declared.Refusal.TheVariants as R
use Rattle.planning.specs.Plans.{offset, size, fits, runs_on, greatest, agreed, accepted, most_data, fewest, cut, planned, table_of, Planned}
use Rattle.planning.specs.PlanLaws.{Least}

-- ---- two tests, both true

both : (t : Bool) {u : Bool} → cond t u false ≡ true → (t ≡ true) × (u ≡ true)
both true e = (refl, e)
both false e = absurd (let z : ◌≡◌ {A = ℕ} 0 1 = cc in omega arith)

-- ---- the most data of a piece

module _ (msize : ℕ) where
  pub most_some : 24 ≤ msize → 0 < most_data msize
  most_some h = omega arith

  pub fits_true : (n : ℕ) → fits msize n ≡ true → n ≤ most_data msize
  fits_true n e = let u = both (leb (23 + n) msize) e in let a = leb-true (23 + n) msize u.0 in let b = leb-true n 33554432 u.1 in omega arith

  pub fits_few : (n : ℕ) → 24 ≤ msize → n ≤ most_data msize → fits msize n ≡ true
  fits_few n h l = rw (le-leb (23 + n) msize (omega arith), le-leb n 33554432 (omega arith))

module _ (most : ℕ) (h : 0 < most) where
  pub fewest_none : (len : ℕ) → len ≡ 0 → 0 ≡ fewest most len
  unfolding fewest
  fewest_none len e = sym (div-eq_of_lt (omega arith))

  pub fewest_some : (len : ℕ) → 0 < len → (len - 1) / most + 1 ≡ fewest most len
  unfolding fewest
  fewest_some len l = let e : len + (most - 1) ≡ (len - 1) + most = omega arith in rw e (sym (add-div_right (len - 1) h))

  pub fewest_least : (len : ℕ) → Least most (fewest most len) len
  unfolding fewest
  fewest_least len = record {
    enough = let a = lt-div-mul-add {a = len + (most - 1)} h in omega arith;
    least = λ m l. let e : suc m * most ≡ m * most + most = suc-mul m most in let a = (div-lt_iff_lt-mul {x = len + (most - 1)} {y = suc m} h).1 (omega arith) in omega arith;
  }

  -- the quotient that rounds up is so many
  pub fewest_is : (len : ℕ) → div_ceil len most ≡ fewest most len
  fewest_is len =
      let c = div_ceil_times len most h in
      let f = fewest_least len in
      let l = f.least (div_ceil len most) c.0 in
      let a = lt_of_mul-lt-mul_right most {m = div_ceil len most} {n = suc (fewest most len)} (let g = f.enough in let e = suc-mul (fewest most len) most in omega arith) in
      omega arith

  least_none : {len : ℕ} → Least most 0 len → len ≡ 0
  least_none {len} l = let a = l.enough in let b : 0 * most ≡ 0 = zero-mul most in omega arith

  least_some : {k len : ℕ} → Least most (suc k) len → 0 < len
  least_some {k} {len = zero} l = let a = l.least 0 (omega arith) in absurd (omega arith)
  least_some {k} {len = suc n} l = omega arith

  -- one piece off
  least_next : {k len : ℕ} → Least most (suc k) len → Least most k (len - min len most)
  least_next {k} {len} l = record {
    enough = let a = l.enough in let e : suc k * most ≡ k * most + most = suc-mul k most in omega arith;
    least = λ m g. let e : suc m * most ≡ m * most + most = suc-mul m most in let a = l.least (suc m) (omega arith) in omega arith;
  }

-- as many as were asked for
pub length_cut : (most n at left : ℕ) → length (cut most n at left) ≡ n
unfolding cut
length_cut most zero at left = refl
length_cut most (suc n) at left = ap suc (length_cut most n (at + min left most) (left - min left most))

-- ---- pieces that run on

-- what the first piece is then, and the others
record Begun (msize at end : ℕ) (p : List ℕ) (ps : List (List ℕ)) : Type 0 where
  here : offset p ≡ at
  some : 0 < size p
  most : size p ≤ most_data msize
  rest : runs_on msize (at + size p) end ps ≡ true

module _ (msize : ℕ) where
  begun : (at end : ℕ) (p : List ℕ) (ps : List (List ℕ)) → runs_on msize at end (p ∷ ps) ≡ true → Begun msize at end p ps
  unfolding runs_on
  begun at end p ps e =
      let a = both (eqb (offset p) at) e in
      let b = both (ltb 0 (size p)) a.1 in
      let c = both (fits msize (size p)) b.1 in
      record { here = eqb-true (offset p) at a.0; some = ltb-true 0 (size p) b.0; most = fits_true msize (size p) c.0; rest = c.1 }

  -- they end where they begin or later, and no later than so many full pieces would
  pub runs_within : (at end : ℕ) (ps : List (List ℕ)) → runs_on msize at end ps ≡ true → (at ≤ end) × (end ≤ at + length ps * most_data msize)
  unfolding runs_on
  runs_within at end [] e = let a = eqb-true at end e in (omega arith, omega arith)
  runs_within at end (p ∷ ps) e =
      let b = begun at end p ps e in
      let g = runs_within (at + size p) end ps b.rest in
      let m : suc (length ps) * most_data msize ≡ length ps * most_data msize + most_data msize = suc-mul (length ps) (most_data msize) in
      (omega arith, omega arith)

  module _ (h : 24 ≤ msize) where
    -- what is planned runs on
    pub cut_runs : (n at left end : ℕ) → Least (most_data msize) n left → at + left ≡ end → runs_on msize at end (cut (most_data msize) n at left) ≡ true
    unfolding runs_on cut
    cut_runs zero at left end l e = let a = least_none (most_data msize) (most_some msize h) l in eq-eqb at end (omega arith)
    cut_runs (suc n) at left end l e =
        let o = most_some msize h in
        let a = least_some (most_data msize) o l in
        rw (eq-eqb at at refl, lt-ltb 0 (min left (most_data msize)) (omega arith), fits_few msize (min left (most_data msize)) h (omega arith))
        (cut_runs n (at + min left (most_data msize)) (left - min left (most_data msize)) end (least_next (most_data msize) o l) (omega arith))

    module _ (at end : ℕ) (p : List ℕ) (ps : List (List ℕ)) where
      pub runs_step : offset p ≡ at → 0 < size p → size p ≤ most_data msize → runs_on msize at end (p ∷ ps) ≡ runs_on msize (at + size p) end ps
      unfolding runs_on
      runs_step a b c = rw (eq-eqb (offset p) at a, lt-ltb 0 (size p) b, fits_few msize (size p) h c)

      -- what stops it: another offset, no data, too much of it, or more than is left, which no later piece makes good
      pub runs_stop : (offset p ≡ at → 0 < size p → size p ≤ most_data msize → end < at + size p) → false ≡ runs_on msize at end (p ∷ ps)
      runs_stop f = go (runs_on msize at end (p ∷ ps)) refl
        where
          go : (b : Bool) → runs_on msize at end (p ∷ ps) ≡ b → false ≡ b
          go false e = refl
          go true e =
              let b = begun at end p ps e in
              let g = runs_within (at + size p) end ps b.rest in
              let k = f b.here b.some b.most in
              absurd (omega arith)

-- ---- 26, then 27, and then neither

module _ (first len msize : ℕ) where
  pub small : msize < 24 → Err (R.MsizeTooSmall, 0) ≡ agreed first len msize
  unfolding agreed
  small h = rw (lt-ltb msize 24 h)

  pub far : 24 ≤ msize → greatest < first + len → Err (R.EndTooFar, 0) ≡ agreed first len msize
  unfolding agreed
  far h l = rw (le-ltb msize 24 h, lt-ltb greatest (first + len) l)

  pub neither : 24 ≤ msize → first + len ≤ greatest → Ok 0 ≡ agreed first len msize
  unfolding agreed
  neither h l = rw (le-ltb msize 24 h, le-ltb greatest (first + len) l)

  -- a place is at hand only where neither holds
  pub record Good : Type 0 where
    pub msize_is : 24 ≤ msize
    pub end_is : first + len ≤ greatest

  agrees : Good → Ok 0 ≡ agreed first len msize
  agrees g = neither g.msize_is g.end_is

  pub good : {p : Place} → p ≡ agreed first len msize → is_err p ≡ false → Good
  unfolding agreed
  good e f = go (ltb msize 24) (ltb greatest (first + len)) refl refl (ap is_err (sym e) ∙ f)
    where
      go : (s t : Bool) → ltb msize 24 ≡ s → ltb greatest (first + len) ≡ t → is_err {T = ℕ} {E = Fault} (cond s (Err (R.MsizeTooSmall, 0)) (cond t (Err (R.EndTooFar, 0)) (Ok 0))) ≡ false → Good
      go true t a b f = absurd (let z : ◌≡◌ {A = ℕ} 0 1 = cc f in omega arith)
      go false true a b f = absurd (let z : ◌≡◌ {A = ℕ} 0 1 = cc f in omega arith)
      go false false a b f = record { msize_is = ltb-false msize 24 a; end_is = ltb-false greatest (first + len) b }

  -- ---- what the functions answer on each way

  pub accepted_refused : {p : Place} (ps : List (List ℕ)) → p ≡ agreed first len msize → is_err p ≡ true → false ≡ accepted ps first len msize
  unfolding accepted
  accepted_refused {p = Ok n} ps e f = absurd (let z : ◌≡◌ {A = ℕ} 0 1 = cc f in omega arith)
  accepted_refused {p = Err w} ps e f = rw (← e)

  pub accepted_runs : (ps : List (List ℕ)) → Good → runs_on msize first (first + len) ps ≡ accepted ps first len msize
  unfolding accepted
  accepted_runs ps g = rw (← agrees g)

  module _ (t : List (List ℕ)) where
    pub planned_refused : {p : Place} {k : Refusal} {n : ℕ} → p ≡ agreed first len msize → p ≡ Err (k, n) → Planned t first len msize t (Err (k, n))
    unfolding planned table_of
    planned_refused e f = let g = sym f ∙ e in record { table = rw (← g); answer = rw (← g) }

    module _ {most n : ℕ} (g : Good) (d : most ≡ most_data msize) (f : n ≡ fewest most len) where
      pub planned_full : length t < n → Planned t first len msize t (Err (R.TableFull, 0))
      unfolding planned table_of
      planned_full l =
          let e = agrees g in
          let h = lt-ltb (length t) n l in
          record { table = rw (← e, ← d, ← f, h); answer = rw (← e, ← d, ← f, h) }

      pub planned_fits : {t' : List (List ℕ)} → n ≤ length t → t' ≡ cut most n first len ++ drop n t → Planned t first len msize t' (Ok n)
      unfolding planned table_of
      planned_fits l j =
          let e = agrees g in
          let h = le-ltb (length t) n l in
          record { table = rw (← e, ← d, ← f, h) j; answer = rw (← e, ← d, ← f, h) }
