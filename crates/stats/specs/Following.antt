-- Fields followed by their counts, one after another at places (F14.3); and what that says of a box.
use Rattle.numbers.specs.Place.{Place}
use Rattle.std.specs.Prelude.{ℕ, ◌+◌, ◌-◌, ◌≤◌, ◌<◌, ◌≡◌, refl, Bool, true, false, cond, List, [], ◌∷◌, ◌++◌, map, length, take, drop, leb, Ok, Err}
use Rattle.std.proofs.Common.{arith, sym, ap, ◌∙◌, append_assoc, length-append, take-append-drop, drop_at}
use Rattle.std.proofs.Math.ListN.{length-drop}
use Rattle.std.proofs.Math.Seq.{drop-drop}
use borrow.Author.Tests.{le-leb}
use Rattle.numbers.specs.Numbers.{from_le}
use Rattle.numbers.specs.Reading.{Reading, ok, bad, after, raw, read_num}
use Rattle.numbers.proofs.ReadingLaws.{or_else, after_inv, raw_short}
use Rattle.numbers.specs.Places.{Within, read_at, rest_at, NumRead}
use Rattle.numbers.proofs.PlaceLaws.{inside, outside, short_num, held_num, num_holds, num_refused}
use Rattle.numbers.specs.declared.Refusal.{Refusal}
use Rattle.numbers.specs.declared.Refusal.TheVariants as R
use Rattle.fields.specs.Layouts.{Shape, fixed, worded, follow}
use Rattle.laying.specs.LayingLaws.{total}
use Rattle.stats.specs.Stats.{Followed}

-- ---- what is left is the end of what there was

record Suffix (xs r : List ℕ) : Type 0 where
  pub front : List ℕ
  pub whole : xs ≡ front ++ r

suffix_on : {xs r t : List ℕ} → Suffix xs r → Suffix r t → Suffix xs t
suffix_on {t = t} a b = record { front = a.front ++ b.front; whole = a.whole ∙ ap (λ (z : List ℕ). a.front ++ z) b.whole ∙ sym (append_assoc a.front b.front t) }

raw_suffix : (n : ℕ) (xs : List ℕ) {bs r : List ℕ} → raw n xs ≡ ok bs r → Suffix xs r
unfolding raw
raw_suffix n xs {bs} {r} e = go (leb n (length xs)) e
  where
    go : (t : Bool) → cond t (ok (take n xs) (drop n xs)) (bad R.Short 0) ≡ ok bs r → Suffix xs r
    go true f = let h : drop n xs ≡ r = cc f in rw (← h) (record { front = take n xs; whole = sym (take-append-drop n xs) })
    go false f = absurd (let z : ◌≡◌ {A = ℕ} 0 1 = cc f in omega arith)

num_suffix : (w : ℕ) (xs : List ℕ) {n : ℕ} {r : List ℕ} → read_num w xs ≡ ok n r → Suffix xs r
unfolding read_num
num_suffix w xs {n} {r} e = after_inv (raw w xs) _ e (λ bs s f g. let h : s ≡ r = cc g in rw (← h) (raw_suffix w xs f))

follow_suffix : (fs : List Shape) (xs : List ℕ) {n : ℕ} {r : List ℕ} → follow fs xs ≡ ok n r → Suffix xs r
unfolding follow
follow_suffix [] xs {n} {r} e = let h : xs ≡ r = cc e in rw (← h) (record { front = []; whole = refl })
follow_suffix (fixed w ∷ fs) xs e = after_inv (read_num w xs) _ e (λ n s f g. suffix_on (num_suffix w xs f) (follow_suffix fs s g))
follow_suffix (worded ∷ fs) xs e =
    after_inv (read_num 2 xs) _ e
    (λ n s f g. after_inv (raw n s) _ g (λ bs t h i. suffix_on (num_suffix 2 xs f) (suffix_on (raw_suffix n s h) (follow_suffix fs t i))))

-- so the place after it is where it begins
at_suffix : (a : ℕ) (s t : List ℕ) → Suffix (drop a s) t → drop (length s - length t) s ≡ t
at_suffix a s t x =
    let w : s ≡ (take a s ++ x.front) ++ t = sym (take-append-drop a s) ∙ ap (λ (z : List ℕ). take a s ++ z) x.whole ∙ sym (append_assoc (take a s) x.front t) in
    let l = ap length w ∙ length-append (take a s ++ x.front) t in
    ap (drop (length s - length t)) w ∙ drop_at (take a s ++ x.front) t (length s - length t) (omega arith)

pub length_follow : (fs : List Shape) (xs : List ℕ) {n : ℕ} {r : List ℕ} → follow fs xs ≡ ok n r → length r ≤ length xs
length_follow fs xs {r = r} e = let x = follow_suffix fs xs e in let l = ap length x.whole ∙ length-append x.front r in omega arith

-- ---- one after another

pub follow_append : (fs gs : List Shape) (xs : List ℕ) → follow (fs ++ gs) xs ≡ after (follow fs xs) (λ n r. follow gs r)
unfolding follow
follow_append [] gs xs = refl
follow_append (fixed w ∷ fs) gs xs = go (read_num w xs) (λ r. follow_append fs gs r)
  where
    go : (m : Reading ℕ) → ((r : List ℕ) → follow (fs ++ gs) r ≡ after (follow fs r) (λ n t. follow gs t))
        → after m (λ n r. follow (fs ++ gs) r) ≡ after (after m (λ n r. follow fs r)) (λ n r. follow gs r)
    go (ok n r) ih = ih r
    go (bad k at) ih = refl
follow_append (worded ∷ fs) gs xs = go (read_num 2 xs) (λ r. follow_append fs gs r)
  where
    inner : (m : Reading (List ℕ)) → ((r : List ℕ) → follow (fs ++ gs) r ≡ after (follow fs r) (λ n t. follow gs t))
        → after m (λ bs r. follow (fs ++ gs) r) ≡ after (after m (λ bs r. follow fs r)) (λ n r. follow gs r)
    inner (ok bs r) ih = ih r
    inner (bad k at) ih = refl

    go : (m : Reading ℕ) → ((r : List ℕ) → follow (fs ++ gs) r ≡ after (follow fs r) (λ n t. follow gs t))
        → after m (λ n r. after (raw n r) (λ bs t. follow (fs ++ gs) t)) ≡ after (after m (λ n r. after (raw n r) (λ bs t. follow fs t))) (λ n r. follow gs r)
    go (ok n r) ih = inner (raw n r) ih
    go (bad k at) ih = refl

pub then_follow : {fs gs : List Shape} {s : List ℕ} {p q r : Place} → Followed fs s p q → Followed gs s q r → Followed (fs ++ gs) s p r
then_follow {fs} {gs} {s} {p} x y = record { is = y.is ∙ ap (λ z. rest_at (length s) (read_at (follow gs) s z)) x.is ∙ from p }
  where
    at : (a : ℕ) (m : Reading ℕ) → follow fs (drop a s) ≡ m → rest_at (length s) (read_at (follow gs) s (rest_at (length s) m)) ≡ rest_at (length s) (after m (λ n r. follow gs r))
    at a (ok n t) e = ap (λ (z : List ℕ). rest_at (length s) (follow gs z)) (at_suffix a s t (follow_suffix fs (drop a s) e))
    at a (bad k i) e = refl

    from : (z : Place) → rest_at (length s) (read_at (follow gs) s (rest_at (length s) (read_at (follow fs) s z))) ≡ rest_at (length s) (read_at (follow (fs ++ gs)) s z)
    from (Ok a) = at a (follow fs (drop a s)) refl ∙ ap (rest_at (length s)) (sym (follow_append fs gs (drop a s)))
    from (Err f) = refl

-- ---- numbers that stand together are passed as one

num_cut : (w : ℕ) (xs : List ℕ) → length xs < w → read_num w xs ≡ bad R.Short 0
unfolding read_num
num_cut w xs h = rw (raw_short w xs h)

num_there : (w : ℕ) (xs : List ℕ) → w ≤ length xs → read_num w xs ≡ ok (from_le (take w xs)) (drop w xs)
unfolding read_num raw
num_there w xs h = rw (le-leb w (length xs) h)

merge : (v w : ℕ) (fs : List Shape) (xs : List ℕ) → follow (fixed v ∷ fixed w ∷ fs) xs ≡ follow (fixed (v + w) ∷ fs) xs
unfolding follow
merge v w fs xs =
    let d = length-drop v xs in
    or_else v (length xs)
    (λ h. or_else (v + w) (length xs)
    (λ l. rw (num_there v xs h, num_there w (drop v xs) (omega arith), num_there (v + w) xs l, drop-drop w v xs))
    (λ l. rw (num_there v xs h, num_cut w (drop v xs) (omega arith), num_cut (v + w) xs l)))
    (λ h. rw (num_cut v xs h, num_cut (v + w) xs (omega arith)))

together : (w : ℕ) (ws : List ℕ) (fs : List Shape) (xs : List ℕ) → follow (map fixed (w ∷ ws) ++ fs) xs ≡ follow (fixed (total (w ∷ ws)) ∷ fs) xs
together w [] fs xs = ap (λ n. follow (fixed n ∷ fs) xs) (omega arith)
together w (v ∷ ws) fs xs = merge w v (map fixed ws ++ fs) xs ∙ together (w + v) ws fs xs ∙ ap (λ n. follow (fixed n ∷ fs) xs) (omega arith)

pub merged : (s : List ℕ) (p : Place) {q : Place} (w : ℕ) (ws : List ℕ) (fs : List Shape) → Followed (fixed (total (w ∷ ws)) ∷ fs) s p q → Followed (map fixed (w ∷ ws) ++ fs) s p q
merged s (Ok a) w ws fs f = record { is = f.is ∙ ap (rest_at (length s)) (sym (together w ws fs (drop a s))) }
merged s (Err e) w ws fs f = record { is = f.is }

-- ---- numbers, and a string

pub pass_refused : {fs : List Shape} {s : List ℕ} {p : Place} {k : Refusal} {at : ℕ} → p ≡ Err (k, at) → Followed fs s p p
pass_refused e = record { is = rw e }

module _ {n a : ℕ} {s : List ℕ} {p : Place} (e : p ≡ Ok a) {t : Bool} (i : Within a n (length s) t) where
  pub skip_held : t ≡ true → Followed (fixed n ∷ []) s p (Ok (a + n))
  unfolding follow
  skip_held h = let l = inside i h in let d = length-drop (a + n) s in record { is = rw (e, held_num n a s l) (ap Ok (omega arith)) }

  pub skip_short : 0 < n → t ≡ false → Followed (fixed n ∷ []) s p (Err (R.Short, 0))
  unfolding follow
  skip_short o h = record { is = rw (e, short_num n a s o (outside i h)) }

module _ {s : List ℕ} {p q : Place} {x : ℕ} (r : NumRead 2 s p x q) where
  pub pass_cut : {k : Refusal} {at : ℕ} → q ≡ Err (k, at) → Followed (worded ∷ []) s p (Err (k, at))
  unfolding follow
  pass_cut {k} {at} f = record { is = go p (num_refused r f).reads }
    where
      go : (z : Place) → read_at (read_num 2) s z ≡ bad k at → Err (k, at) ≡ rest_at (length s) (read_at (follow (worded ∷ [])) s z)
      go (Ok a) g = rw g
      go (Err f) g = let h : f.0 ≡ k = cc g in let i : f.1 ≡ at = cc g in rw (← h, ← i)

  module _ {b : ℕ} (f : q ≡ Ok b) {u : Bool} (j : Within b x (length s) u) where
    pub pass_end : u ≡ true → Followed (worded ∷ []) s p (Ok (b + x))
    unfolding follow raw
    pass_end g =
        let H = num_holds (omega arith) r f in
        let l = inside j g in
        let d = length-drop b s in
        let c = length-drop (b + x) s in
        record { is = rw (H.place, H.reads, le-leb x (length (drop b s)) (omega arith), drop-drop x b s) (ap Ok (omega arith)) }

    pub pass_out : u ≡ false → Followed (worded ∷ []) s p (Err (R.Short, 0))
    unfolding follow
    pass_out g =
        let H = num_holds (omega arith) r f in
        let l = outside j g in
        let y = H.fits in
        let z = H.ends in
        let d = length-drop b s in
        record { is = rw (H.place, H.reads, raw_short x (drop b s) (omega arith)) }
