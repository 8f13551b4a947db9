-- What holds of the definitions in specs/Keys.antt.
use Rattle.std.specs.Prelude.{ℕ, zero, suc, ◌+◌, ◌<◌, ◌≡◌, Bool, List, length, get_or, set, replicate}
use Rattle.std.proofs.Common.{arith, sym, ◌∙◌, length-set, get_or-set_other}
use Rattle.std.proofs.Math.Path.{refl}
use Rattle.std.proofs.Math.Bool.{true, false}
use Rattle.std.proofs.lemmas.List.{length-replicate, get_or-replicate}
use Rattle.std.proofs.Math.Seq.{get_or-set_same}
use Rattle.std.proofs.Math.Dec.{eqb}
use borrow.Author.Tests.{eq-eqb, ne_eqb, eqb-true, eqb-false, ltb-true, ltb-false, lt-ltb}
use Rattle.session.specs.Rows.{row_from, row_of, has}
use Rattle.session.proofs.Rows.{row_has, row_all}
use Rattle.session.specs.Rules.{free}
use Rattle.session.specs.Keys.{Distinct}

-- ---- whether a key is there

module _ (k : ℕ) (xs : List ℕ) where
  pub has_row : has k xs ≡ true → row_of k xs < 64
  has_row h = ltb-true (row_of k xs) 64 h

  pub has_key : has k xs ≡ true → get_or xs (row_of k xs) 0 ≡ k
  has_key h = row_has k xs (has_row h)

  pub has_not : has k xs ≡ false → (j : ℕ) → j < 64 → get_or xs j 0 ≡ k → ⊥
  has_not h j l e = let a = row_all k xs j l e in let b = ltb-false (row_of k xs) 64 h in omega arith

  pub there_has : (j : ℕ) → j < 64 → get_or xs j 0 ≡ k → has k xs ≡ true
  there_has j l e = lt-ltb (row_of k xs) 64 (row_all k xs j l e)

  pub none_has : ((j : ℕ) → j < 64 → get_or xs j 0 ≡ k → ⊥) → has k xs ≡ false
  none_has f = go (has k xs) refl
    where
      go : (b : Bool) → has k xs ≡ b → b ≡ false
      go true h = absurd (f (row_of k xs) (has_row h) (has_key h))
      go false h = refl

-- ---- after a row is set

same_eqb : {a b k : ℕ} → (a ≡ k → b ≡ k) → (b ≡ k → a ≡ k) → eqb a k ≡ eqb b k
same_eqb {a} {b} {k} f g = go (eqb a k) refl
  where
    go : (t : Bool) → eqb a k ≡ t → t ≡ eqb b k
    go true e = sym (eq-eqb b k (f (eqb-true a k e)))
    go false e = sym (ne_eqb b k (λ h. eqb-false a k e (g h)))

row_same : (k : ℕ) (xs ys : List ℕ) → ((j : ℕ) → eqb (get_or ys j 0) k ≡ eqb (get_or xs j 0) k) → (n i : ℕ) → row_from k ys i n ≡ row_from k xs i n
unfolding row_from
row_same k xs ys f zero i = refl
row_same k xs ys f (suc n) i = rw (f i, row_same k xs ys f n (i + 1))

module _ (k : ℕ) (xs : List ℕ) (i v : ℕ) where
  -- a key that neither stood there nor stands there now keeps its row
  pub row_other : (get_or xs i 0 ≡ k → ⊥) → (v ≡ k → ⊥) → i < length xs → row_of k (set xs i v) ≡ row_of k xs
  unfolding row_of
  row_other a b l = row_same k xs (set xs i v) alike 64 0
    where
      alike : (j : ℕ) → eqb (get_or (set xs i v) j 0) k ≡ eqb (get_or xs j 0) k
      alike j = go (eqb j i) refl
        where
          go : (t : Bool) → eqb j i ≡ t → eqb (get_or (set xs i v) j 0) k ≡ eqb (get_or xs j 0) k
          go true e = let w = eqb-true j i e in rw (w, get_or-set_same xs i v 0 l) (same_eqb (λ h. absurd (b h)) (λ h. absurd (a h)))
          go false e = rw (get_or-set_other xs i j v 0 (eqb-false j i e))

-- the key that is set is in that row, if no other has it
pub row_new : (xs : List ℕ) (i v : ℕ) → i < 64 → length xs ≡ 64 → ((j : ℕ) → j < 64 → (j ≡ i → ⊥) → get_or xs j 0 ≡ v → ⊥) → row_of v (set xs i v) ≡ i
row_new xs i v h l f =
    let s : get_or (set xs i v) i 0 ≡ v = get_or-set_same xs i v 0 (omega arith) in
    let r = row_all v (set xs i v) i h s in
    let e = row_has v (set xs i v) r in
    go (eqb (row_of v (set xs i v)) i) refl r e
  where
    go : (t : Bool) → eqb (row_of v (set xs i v)) i ≡ t → row_of v (set xs i v) < 64 → get_or (set xs i v) (row_of v (set xs i v)) 0 ≡ v → row_of v (set xs i v) ≡ i
    go true u r e = eqb-true (row_of v (set xs i v)) i u
    go false u r e =
        let n = eqb-false (row_of v (set xs i v)) i u in
        absurd (f (row_of v (set xs i v)) r n (sym (get_or-set_other xs i (row_of v (set xs i v)) v 0 n) ∙ e))

pub free_distinct : Distinct (replicate 64 free)
free_distinct = record { rows = length-replicate {A = ℕ} 64 free; one = λ i j a b e f. absurd (f (get_or-replicate 64 i free 0 a)) }

-- a row is set to a key that no other row has, or is freed
pub set_distinct : {xs : List ℕ} → Distinct xs → (i v : ℕ) → i < 64 → ((j : ℕ) → j < 64 → (j ≡ i → ⊥) → get_or xs j 0 ≡ v → v ≡ free) → Distinct (set xs i v)
set_distinct {xs} d i v h f = record { rows = length-set xs i v ∙ d.rows; one = λ a b k l e g. two a b k l e g (eqb a i) (eqb b i) refl refl }
  where
    here : get_or (set xs i v) i 0 ≡ v
    here = get_or-set_same xs i v 0 (let l = d.rows in omega arith)

    two : (a b : ℕ) → a < 64 → b < 64 → get_or (set xs i v) a 0 ≡ get_or (set xs i v) b 0 → (get_or (set xs i v) a 0 ≡ free → ⊥) → (s t : Bool) → eqb a i ≡ s → eqb b i ≡ t → a ≡ b
    two a b k l e g true true x y = eqb-true a i x ∙ sym (eqb-true b i y)
    two a b k l e g true false x y =
        let w = eqb-true a i x in
        let n = eqb-false b i y in
        let va : get_or (set xs i v) a 0 ≡ v = rw w (get_or-set_same xs i v 0 (let m = d.rows in omega arith)) in
        let vb : get_or xs b 0 ≡ v = sym (get_or-set_other xs i b v 0 n) ∙ sym e ∙ va in
        absurd (g (va ∙ f b l n vb))
    two a b k l e g false true x y =
        let w = eqb-true b i y in
        let n = eqb-false a i x in
        let vb : get_or (set xs i v) b 0 ≡ v = rw w (get_or-set_same xs i v 0 (let m = d.rows in omega arith)) in
        let va : get_or xs a 0 ≡ v = sym (get_or-set_other xs i a v 0 n) ∙ e ∙ vb in
        absurd (g (e ∙ vb ∙ f a k n va))
    two a b k l e g false false x y =
        let n = eqb-false a i x in
        let m = eqb-false b i y in
        let p = get_or-set_other xs i a v 0 n in
        let q = get_or-set_other xs i b v 0 m in
        d.one a b k l (sym p ∙ e ∙ q) (λ z. g (p ∙ z))
