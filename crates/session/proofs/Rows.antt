-- What holds of the definitions in specs/Rows.antt.
use Prim.Native.Nat.{ℕ, zero, suc, ◌+◌, ◌-◌, ◌<◌, ◌≤◌}
use native.Mathlib.Omega.{arith}
use Rattle.std.specs.Prelude.{◌≡◌, Bool, List, [], ◌∷◌, Option, Some, None, length, drop, not}
use Rattle.std.specs.List.{position, position_or_len}
use Rattle.std.proofs.Common.{ap, ◌∙◌}
use Rattle.std.proofs.Math.Seq.{drop-cons, drop-length}
use Rattle.std.proofs.Math.Path.{refl}
use Rattle.std.proofs.Math.Bool.{true, false, cond}
use Rattle.std.proofs.Math.ListN.{get_or}
use Rattle.std.proofs.Math.Dec.{eqb, ltb}
use borrow.Author.Tests.{eq-eqb, ne_eqb, eqb-true, eqb-false, ltb-true, ltb-false}
use Rattle.session.specs.Rows.{row_from, row_of, IsRow}

later : {i j : ℕ} → i ≤ j → (j ≡ i → ⊥) → i + 1 ≤ j
later a z = omega arith

module _ (k : ℕ) (xs : List ℕ) where
  -- ---- how it is found

  pub row_start : row_from k xs 0 (64 - 0) ≡ row_of k xs
  unfolding row_of
  row_start = refl

  pub row_here : (i : ℕ) → i < 64 → get_or xs i 0 ≡ k → i ≡ row_from k xs i (64 - i)
  unfolding row_from
  row_here i h e = let m : 64 - i ≡ suc (64 - (i + 1)) = omega arith in rw (m, row_from, eq-eqb _ _ e)

  pub row_on : (i : ℕ) → i < 64 → (get_or xs i 0 ≡ k → ⊥) → row_from k xs (i + 1) (64 - (i + 1)) ≡ row_from k xs i (64 - i)
  unfolding row_from
  row_on i h e = let m : 64 - i ≡ suc (64 - (i + 1)) = omega arith in rw (m, row_from, ne_eqb _ _ e)

  pub row_none : (i : ℕ) → 64 ≤ i → i ≡ row_from k xs i (64 - i)
  unfolding row_from
  row_none i h = let m : 64 - i ≡ 0 = omega arith in rw (m, row_from)

  row_position : (n i : ℕ) → i + n ≡ length xs → row_from k xs i n ≡ i + position_or_len (λ y. eqb y k) (drop i xs)
  unfolding row_from
  row_position zero i h =
      let e : i ≡ length xs = omega arith in
      let d : drop i xs ≡ [] = ap (λ j. drop j xs) e ∙ drop-length xs in
      rw d (omega arith)
  row_position (suc n) i h =
      let e : suc i ≡ i + 1 = omega arith in
      let d : drop i xs ≡ get_or xs i 0 ∷ drop (i + 1) xs = drop-cons xs i 0 (omega arith) ∙ ap (λ j. get_or xs i 0 ∷ drop j xs) e in
      rw (d, row_position n (i + 1) (omega arith)) (go (eqb (get_or xs i 0) k) (position_or_len (λ y. eqb y k) (drop (i + 1) xs)))
    where
      go : (b : Bool) (m : ℕ) → cond b i (i + 1 + m) ≡ i + cond (not b) (1 + m) 0
      go true m = omega arith
      go false m = omega arith

  pub found : {r : Option ℕ} → length xs ≡ 64 → r ≡ position (λ y. eqb y k) xs → IsRow (row_of k xs) r
  unfolding row_of
  found l e = rw e (go (ltb (position_or_len (λ y. eqb y k) xs) (length xs)) refl)
    where
      go : (b : Bool) → ltb (position_or_len (λ y. eqb y k) xs) (length xs) ≡ b → IsRow (row_from k xs 0 64) (cond b (Some (position_or_len (λ y. eqb y k) xs)) None)
      go true f =
          let m = row_position 64 0 (omega arith) in
          let h = ltb-true (position_or_len (λ y. eqb y k) xs) (length xs) f in
          (omega arith, omega arith)
      go false f =
          let m = row_position 64 0 (omega arith) in
          let h = ltb-false (position_or_len (λ y. eqb y k) xs) (length xs) f in
          omega arith

  -- ---- what it is: a row that has the key, and no row that has it is left out

  there : (n i : ℕ) → (row_from k xs i n < i + n → get_or xs (row_from k xs i n) 0 ≡ k) × ((j : ℕ) → i ≤ j → j < i + n → get_or xs j 0 ≡ k → row_from k xs i n < i + n)
  unfolding row_from
  there zero i = (λ h. absurd (omega arith), λ j a b e. absurd (omega arith))
  there (suc n) i = go (eqb (get_or xs i 0) k) refl (there n (i + 1))
    where
      go : (b : Bool) → eqb (get_or xs i 0) k ≡ b → (row_from k xs (i + 1) n < i + 1 + n → get_or xs (row_from k xs (i + 1) n) 0 ≡ k) × ((j : ℕ) → i + 1 ≤ j → j < i + 1 + n → get_or xs j 0 ≡ k → row_from k xs (i + 1) n < i + 1 + n)
          → (cond b i (row_from k xs (i + 1) n) < i + suc n → get_or xs (cond b i (row_from k xs (i + 1) n)) 0 ≡ k) × ((j : ℕ) → i ≤ j → j < i + suc n → get_or xs j 0 ≡ k → cond b i (row_from k xs (i + 1) n) < i + suc n)
      go true e r = (λ h. eqb-true (get_or xs i 0) k e, λ j a b f. omega arith)
      go false e r = (λ h. r.0 (omega arith), λ j a b f. let z : j ≡ i → ⊥ = (λ v. eqb-false (get_or xs i 0) k e (rw v at f)) in let y = r.1 j (later a z) (omega arith) f in omega arith)

  pub row_has : row_of k xs < 64 → get_or xs (row_of k xs) 0 ≡ k
  unfolding row_of
  row_has h = (there 64 0).0 h

  pub row_all : (j : ℕ) → j < 64 → get_or xs j 0 ≡ k → row_of k xs < 64
  unfolding row_of
  row_all j h e = (there 64 0).1 j (omega arith) h e
