-- The path of a place (F15.4): of a root, of a child; bytes put after the stretch alter none.
use Rattle.numbers.specs.Place.{Place}
use Prim.Native.Nat.{ℕ, zero, suc, ◌+◌, ◌-◌, ◌<◌, ◌≤◌}
use Rattle.std.proofs.Common.{not-suc-le-zero, lt-suc_self, add-zero, zero-add, arith, sym, ap, ◌∙◌, length-append, take-append-drop}
use Rattle.std.specs.Prelude.{◌≡◌, Bool, length, take, drop, leb, Ok, Err}
use Rattle.std.proofs.Math.Path.{refl}
use Rattle.std.proofs.Math.Bool.{true, false}
use mathlib.Core.List.{List, [], ◌∷◌, ◌++◌, append-nil}
use Rattle.std.proofs.Math.ListN.{get_or}
use Rattle.std.proofs.Math.Dec.{ltb}
use borrow.Author.Tests.{ltb-true, lt-ltb, le-ltb, le-leb, lt-leb}
use Rattle.numbers.specs.Numbers.{to_le}
use Rattle.numbers.specs.Reading.{Reading, ok, bad}
use Rattle.numbers.proofs.ReadingLaws.{or_else}
use Rattle.numbers.specs.Places.{over, put_at, past_put, Put}
use Rattle.numbers.proofs.PlaceLaws.{over_then, length_over}
use Rattle.numbers.specs.declared.Refusal.TheVariants as R
use Rattle.strings.specs.Spans.{bytes_in, show_span, check_at, SpanPut}
use Rattle.places.specs.Places.{name_in, path_within, path_in}

leb_less : (a n l : ℕ) → n < l → leb a (l - n - 1) ≡ leb (a + suc n) l
leb_less a n l h =
    or_else (a + suc n) l (λ g. le-leb a (l - n - 1) (omega arith) ∙ sym (le-leb (a + suc n) l g)) (λ g. lt-leb a (l - n - 1) (omega arith) ∙ sym (lt-leb (a + suc n) l g))

front_then : (o bs cs : List ℕ) → length (bs ++ cs) ≤ length o → over (over o 0 bs) (length bs) cs ≡ over o 0 (bs ++ cs)
front_then o bs cs h = ap (λ (n : ℕ). over (over o 0 bs) n cs) (sym (zero-add (length bs))) ∙ over_then o 0 bs cs (rw zero-add h)

module _ (s os xs ys : List ℕ) where
  -- any number of steps above the place's is enough
  enough : (f g i : ℕ) → i < f → i < g → path_within f s os xs ys i ≡ path_within g s os xs ys i
  unfolding path_within
  enough zero g i hf hg = absurd (not-suc-le-zero hf)
  enough (suc f) zero i hf hg = absurd (not-suc-le-zero hg)
  enough (suc f) (suc g) i hf hg = go (λ a ha hb. enough f g a ha hb) (ltb (get_or os i 0) i) refl
    where
      go : ((a : ℕ) → a < f → a < g → path_within f s os xs ys a ≡ path_within g s os xs ys a) → (t : Bool) → ltb (get_or os i 0) i ≡ t → path_within (suc f) s os xs ys i ≡ path_within (suc g) s os xs ys i
      go below true e =
          let h : get_or os i 0 < i = ltb-true _ _ e in
          rw e (ap (λ (l : List ℕ). l ++ (47 ∷ name_in s (get_or xs i 0) (get_or ys i 0))) (below (get_or os i 0) (omega arith) (omega arith)))
      go below false e = rw e

  -- a child's is that of its older place, a '/' and the name
  pub path_child : (i : ℕ) → get_or os i 0 < i → path_in s os xs ys i ≡ path_in s os xs ys (get_or os i 0) ++ (47 ∷ name_in s (get_or xs i 0) (get_or ys i 0))
  unfolding path_within
  path_child i h =
      rw (lt-ltb _ _ h) (ap (λ (l : List ℕ). l ++ (47 ∷ name_in s (get_or xs i 0) (get_or ys i 0))) (enough i (suc (get_or os i 0)) (get_or os i 0) h (lt-suc_self (get_or os i 0))))

  -- a root's is empty
  pub path_root : (i : ℕ) → i ≤ get_or os i 0 → path_in s os xs ys i ≡ []
  unfolding path_within
  path_root i h = rw (le-ltb _ _ h)

  -- a root fits any room, and nothing is put for it
  pub fits_root : (i l : ℕ) → i ≤ get_or os i 0 → true ≡ leb (length (path_in s os xs ys i)) l
  fits_root i l h = rw (path_root i h) (sym (le-leb 0 l (omega arith)))

  pub put_root : (i : ℕ) (o : List ℕ) → i ≤ get_or os i 0 → (0 ≡ length (path_in s os xs ys i)) × (o ≡ over o 0 (path_in s os xs ys i))
  put_root i o h = (rw (path_root i h), rw (path_root i h))

  -- a child, whose name is shown by the span x y
  module _ {i x y : ℕ} (h : get_or os i 0 < i) (a : x ≡ get_or xs i 0) (b : y ≡ get_or ys i 0) where
    pub path_longer : length (path_in s os xs ys i) ≡ length (path_in s os xs ys (get_or os i 0)) + suc (length (name_in s x y))
    path_longer = ap length (path_child i h) ∙ length-append (path_in s os xs ys (get_or os i 0)) (47 ∷ name_in s (get_or xs i 0) (get_or ys i 0)) ∙ rw (a, b)

    module _ {t : List ℕ} (l : ℕ) (f : t ≡ name_in s x y) where
      longer : length (path_in s os xs ys i) ≡ length (path_in s os xs ys (get_or os i 0)) + suc (length t)
      longer = path_longer ∙ rw f

      pub fits_not : l ≤ length t → false ≡ leb (length (path_in s os xs ys i)) l
      fits_not g = sym (lt-leb (length (path_in s os xs ys i)) l (let k = longer in omega arith))

      pub fits_older : length t < l → leb (length (path_in s os xs ys (get_or os i 0))) (l - length t - 1) ≡ leb (length (path_in s os xs ys i)) l
      fits_older g = leb_less (length (path_in s os xs ys (get_or os i 0))) (length t) l g ∙ ap (λ (n : ℕ). leb n l) (sym longer)

    put_child : path_in s os xs ys i ≡ path_in s os xs ys (get_or os i 0) ++ (47 ∷ name_in s x y)
    put_child = path_child i h ∙ rw (a, b)

    pub put_older : (o : List ℕ) {o1 o2 : List ℕ} {n m : ℕ} → length (path_in s os xs ys i) ≤ length o → n ≡ length (path_in s os xs ys (get_or os i 0))
        → o1 ≡ over o 0 (path_in s os xs ys (get_or os i 0)) → m ≡ n + suc (length (name_in s x y)) → o2 ≡ over o1 n (47 ∷ name_in s x y)
        → (m ≡ length (path_in s os xs ys i)) × (o2 ≡ over o 0 (path_in s os xs ys i))
    put_older o g z w e f =
        let k : length (path_in s os xs ys (get_or os i 0) ++ (47 ∷ name_in s x y)) ≤ length o = rw put_child at g in
        (e ∙ rw z (sym path_longer), f ∙ rw (z, w) (front_then o (path_in s os xs ys (get_or os i 0)) (47 ∷ name_in s x y) k) ∙ ap (over o 0) (sym put_child))

  -- j is i as an index
  module _ {i j : ℕ} (o : List ℕ) (e : j ≡ i) (h : get_or os j 0 < i) (g : length (path_in s os xs ys i) ≤ length o) where
    put_falls : get_or os i 0 < i
    put_falls = rw e at h

    pub put_longer : length (path_in s os xs ys i) ≡ length (path_in s os xs ys (get_or os j 0)) + suc (length (name_in s (get_or xs j 0) (get_or ys j 0)))
    put_longer = path_longer put_falls refl refl ∙ rw e

-- ---- a name

over_none : (o : List ℕ) (a : ℕ) → over o a [] ≡ o
over_none o a = ap (λ (k : ℕ). take a o ++ [] ++ drop k o) (add-zero a) ∙ ap (λ (r : List ℕ). r ++ drop a o) (append-nil (take a o)) ∙ take-append-drop a o

span_put : {s o o' : List ℕ} {x y a : ℕ} {p q : Place} → SpanPut s x y o p o' q → p ≡ Ok a → a + length (name_in s x y) ≤ length o → o' ≡ over o a (name_in s x y)
unfolding put_at
span_put {s} {o} {o'} {x} {y} {a} w e h = w.put.bytes ∙ rw e (go (show_span s x y) h)
  where
    go : (m : Reading (List ℕ)) → a + length (bytes_in m) ≤ length o → put_at (bytes_in m) o (check_at m (Ok a)) ≡ over o a (bytes_in m)
    go (ok bs r) g = rw (le-leb (a + length bs) (length o) g)
    go (bad k j) g = sym (over_none o a)

-- a '/' and then the name
pub name_put : {s o o1 o2 : List ℕ} {x y n : ℕ} {p q : Place} → Put (to_le 1 47) o (Ok n) o1 p → SpanPut s x y o1 p o2 q → n + suc (length (name_in s x y)) ≤ length o
    → o2 ≡ over o n (47 ∷ name_in s x y)
unfolding to_le put_at past_put
name_put {s} {o} {o1} {o2} {x} {y} {n} {p} v w h =
    let k = le-leb (n + 1) (length o) (omega arith) in
    let e : o1 ≡ over o n (47 ∷ []) = rw k at v.bytes in
    let f : p ≡ Ok (n + 1) = rw k at v.next in
    let g : length o1 ≡ length o = ap length e ∙ length_over o n (47 ∷ []) (omega arith) in
    span_put w f (omega arith) ∙ ap (λ (l : List ℕ). over l (n + 1) (name_in s x y)) e ∙ over_then o n (47 ∷ []) (name_in s x y) h

-- ---- what is written

from_front : (n l : ℕ) {b : Bool} → b ≡ leb n l → leb (0 + n) l ≡ b
from_front n l e = ap (λ (m : ℕ). leb m l) (zero-add n) ∙ sym e

module _ {bs o : List ℕ} {b : Bool} (e : b ≡ leb (length bs) (length o)) where
  pub path_put : {o' : List ℕ} {n : ℕ} → b ≡ true → n ≡ length bs → o' ≡ over o 0 bs → Put bs o (Ok 0) o' (Ok n)
  unfolding put_at past_put
  path_put h f g = record { bytes = rw (from_front (length bs) (length o) e, h) g; next = rw (from_front (length bs) (length o) e, h, f, zero-add) }

  pub path_no_room : b ≡ false → Put bs o (Ok 0) o (Err (R.NoRoom, 0))
  unfolding put_at past_put
  path_no_room h = record { bytes = rw (from_front (length bs) (length o) e, h); next = rw (from_front (length bs) (length o) e, h) }
