-- What holds of the definitions in specs/ReadingLaws.antt.
use Rattle.std.specs.Prelude.{ℕ, ◌-◌, ◌^◌, ◌<◌, ◌≤◌, ◌≡◌, refl, Bool, true, false, cond, List, [], ◌++◌, length, take, drop, leb}
use Rattle.std.proofs.Common.{arith, add-sub_of_le, le_of_lt, lt_of_not-le, not-suc-le-zero, sym, ap, ◌∙◌, subst, append_assoc, length-append, take-append-drop, length-take-le, le-leb, leb-true}
use Rattle.std.proofs.Math.Decide.{dec_le}
use Rattle.std.proofs.Math.Seq.{take-append_seam, drop-append_seam, take-append-add}
use Rattle.std.proofs.lemmas.List.{take-append-le}
use Rattle.std.proofs.lemmas.Bool.{lt-leb}
use Rattle.numbers.specs.Numbers.{Bytes, from_le, to_le}
use Rattle.numbers.proofs.Numbers.{length_to_le, from_to, to_from, from_bound, bytes_split}
use Rattle.numbers.specs.Reading.{Reading, ok, bad, after, raw, read_num}
use Rattle.numbers.specs.declared.Refusal.{Refusal}
use Rattle.numbers.specs.declared.Refusal.TheVariants.{Short}
use Rattle.numbers.specs.ReadingLaws.{Reads, Took}

-- one order or the other
pub or_else {ℓ} : {X : Type ℓ} (a b : ℕ) → (a ≤ b → X) → (b < a → X) → X
or_else a b f g = elim (dec_le a b) [ yes h ↦ f h | no h ↦ g (lt_of_not-le h) ]

-- an accepted run came through both readers; what they read is handed to a continuation, so that it is a variable there
pub after_inv : {A B X : Type 0} (m : Reading A) (k : A → List ℕ → Reading B) {b : B} {r : List ℕ} → after m k ≡ ok b r
    → ((a : A) (s : List ℕ) → m ≡ ok a s → k a s ≡ ok b r → X) → X
after_inv (ok a s) k e f = f a s refl e
after_inv (bad n m) k e f = absurd (let z : ◌≡◌ {A = ℕ} 0 1 = cc in omega arith)

-- an accepted run passed its test
pub cond_inv : {A : Type 0} (t : Bool) (m : Reading A) (n : Refusal) (j : ℕ) {a : A} {r : List ℕ} → cond t m (bad n j) ≡ ok a r → (t ≡ true) × (m ≡ ok a r)
cond_inv true m n j e = (refl, e)
cond_inv false m n j e = absurd (let z : ◌≡◌ {A = ℕ} 0 1 = cc in omega arith)

pub reads_nil : {A : Type 0} (d : List ℕ → Reading A) (a : A) → ((r : List ℕ) → d r ≡ ok a r) → Reads d [] a
reads_nil d a e = record { back = e; cut = λ j h. absurd (not-suc-le-zero h) }

raw_back : (bs r : List ℕ) → raw (length bs) (bs ++ r) ≡ ok bs r
unfolding raw
raw_back bs r =
    rw (le-leb (length bs) (length (bs ++ r)) (simp length-append (omega arith)), take-append_seam, drop-append_seam)

pub raw_short : (n : ℕ) (xs : List ℕ) → length xs < n → raw n xs ≡ bad Short 0
unfolding raw
raw_short n xs h = rw (lt-leb n (length xs))

pub reads_raw : (n : ℕ) (bs : List ℕ) → length bs ≡ n → Reads (raw n) bs bs
reads_raw n bs h = record {
  back = λ r. rw (← h) (raw_back bs r);
  cut = λ j k. raw_short n (take j bs) (rw (length-take-le j bs (omega arith)) (omega arith));
}

-- x and y cut short: the cut is in x, and x is refused; or x is read, and y is cut
pub cutting : {X A : Type 0} {d : List ℕ → Reading A} {x : List ℕ} {a : A} → Reads d x a → (y : List ℕ) (j : ℕ) → j < length (x ++ y)
    → (d (take j (x ++ y)) ≡ bad Short 0 → X) → ((m : ℕ) → m < length y → d (take j (x ++ y)) ≡ ok a (take m y) → X) → X
cutting {x = x} R y j h f g =
    or_else (length x) j (λ l. g (j - length x) (let q = length-append x y in omega arith) (rw (cong l) (R.back (take (j - length x) y))))
    (λ l. f (rw (take-append-le j x y (le_of_lt l)) (R.cut j l)))
  where
    cong : length x ≤ j → take j (x ++ y) ≡ x ++ take (j - length x) y
    cong l = ap (λ k. take k (x ++ y)) (sym (add-sub_of_le l)) ∙ take-append-add x y (j - length x)

module _ {A B : Type 0} {d : List ℕ → Reading A} {x : List ℕ} {a : A} where
  pub reads_then : {b : B} (k : A → List ℕ → Reading B) → ((r : List ℕ) → k a r ≡ ok b r) → Reads d x a → Reads (λ xs. after (d xs) k) x b
  reads_then k e R = record { back = λ r. rw (R.back r) (e r); cut = λ j h. rw (R.cut j h) }

  pub reads_map : (f : A → B) → Reads d x a → Reads (λ xs. after (d xs) (λ y r. ok (f y) r)) x (f a)
  reads_map f R = reads_then (λ y r. ok (f y) r) (λ r. refl) R

  pub reads_after : {y : List ℕ} {b : B} (k : A → List ℕ → Reading B) → Reads d x a → Reads (k a) y b → Reads (λ xs. after (d xs) k) (x ++ y) b
  reads_after {y} {b} k R S = record { back = back; cut = cut }
    where
      back : (r : List ℕ) → after (d (x ++ y ++ r)) k ≡ ok b r
      back r = rw (append_assoc x y r, R.back (y ++ r)) (S.back r)

      cut : (j : ℕ) → j < length (x ++ y) → after (d (take j (x ++ y))) k ≡ bad Short 0
      cut j h = cutting R y j h (λ e. rw e) (λ m l e. rw e (S.cut m l))

pub reads_cond : {A : Type 0} {d : List ℕ → Reading A} {x : List ℕ} {a : A} {t : Bool} (e : Reading A) → t ≡ true → Reads d x a
    → Reads (λ xs. cond t (d xs) e) x a
reads_cond e h R = record { back = λ r. rw h (R.back r); cut = λ j k. rw h (R.cut j k) }

pub reads_num : (w n : ℕ) → n < 256 ^ w → Reads (read_num w) (to_le w n) n
unfolding read_num
reads_num w n h =
    subst (λ (m : ℕ). Reads (read_num w) (to_le w n) m) (from_to w n h) (reads_map from_le (reads_raw w (to_le w n) (length_to_le w n)))

pub took_then : {P Q R : Type 0} {xs x s y r : List ℕ} → Took xs x s P → Took s y r Q → (P → Q → R) → Took xs (x ++ y) r R
took_then {x = x} {y = y} {r = r} p q f = record {
  whole = p.whole ∙ ap (λ t. x ++ t) q.whole ∙ sym (append_assoc x y r);
  rest = q.rest;
  good = f p.good q.good;
}

pub took_map : {P Q : Type 0} {xs x r : List ℕ} → Took xs x r P → (P → Q) → Took xs x r Q
took_map p f = record { whole = p.whole; rest = p.rest; good = f p.good }

raw_forth : (n : ℕ) (xs : List ℕ) {bs r : List ℕ} → raw n xs ≡ ok bs r → (xs ≡ bs ++ r) × (length bs ≡ n)
unfolding raw
raw_forth n xs {bs} {r} e = go (leb n (length xs)) refl e
  where
    go : (t : Bool) → leb n (length xs) ≡ t → cond t (ok (take n xs) (drop n xs)) (bad Short 0) ≡ ok bs r → (xs ≡ bs ++ r) × (length bs ≡ n)
    go true h e =
        let a : take n xs ≡ bs = cc in
        let b : drop n xs ≡ r = cc in
        (rw (← a, ← b) (sym (take-append-drop n xs)), rw (← a) (length-take-le n xs (leb-true n (length xs) h)))
    go false h e = absurd (let z : ◌≡◌ {A = ℕ} 0 1 = cc in omega arith)

pub took_raw : (n : ℕ) (xs : List ℕ) {bs r : List ℕ} → Bytes xs → raw n xs ≡ ok bs r → Took xs bs r ((length bs ≡ n) × Bytes bs)
took_raw n xs {bs} {r} h e =
    let p = raw_forth n xs e in
    let hb = bytes_split bs r (rw p.0 at h) in
    record { whole = p.0; rest = hb.1; good = (p.1, hb.0) }

pub took_num : (w : ℕ) (xs : List ℕ) {n : ℕ} {r : List ℕ} → Bytes xs → read_num w xs ≡ ok n r → Took xs (to_le w n) r (n < 256 ^ w)
unfolding read_num
took_num w xs {n} {r} h e =
    after_inv (raw w xs) (λ bs r. ok (from_le bs) r) e
    (λ bs s e1 e2.
    let p = took_raw w xs h e1 in
    let en : from_le bs ≡ n = cc in
    let er : s ≡ r = cc in
    rw (← en, ← er, ← p.good.0, to_from bs p.good.1) (took_map p (λ g. from_bound bs g.1)))
