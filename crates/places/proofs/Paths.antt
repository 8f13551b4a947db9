-- What holds of the definitions in specs/Paths.antt.
use Prim.Native.Nat.{ℕ, zero, suc, ◌+◌, ◌<◌, ◌≤◌}
use Rattle.std.proofs.Common.{arith, sym, ap₂, ◌∙◌, length-append, length-drop, get_or-set_same}
use Rattle.std.specs.Prelude.{◌≡◌, Bool, length, get_or, set, take, drop, Ok}
use Rattle.std.proofs.Math.Path.{refl, ap}
use Rattle.std.proofs.Math.Bool.{true, false, cond}
use mathlib.Core.List.{List, [], ◌∷◌, ◌++◌}
use Rattle.std.proofs.lemmas.List.{drop-append-le, take-append-le}
use Rattle.std.proofs.Math.Dec.{ltb}
use borrow.Author.Tests.{ltb-true, lt-ltb}
use Rattle.strings.specs.Spans.{bytes_in}
use Rattle.strings.proofs.SpanLaws.{shown_in}
use Rattle.places.specs.declared.Places.{Places}
use Rattle.places.specs.Places.{rowed, added, root, child, name_in, is_up, step, path_within, path}
use Rattle.places.proofs.PathLaws.{path_child, path_root}
use Rattle.places.specs.Sound.{Sound, Kept}
use Rattle.places.proofs.Sound.{rowed_kept}
use Rattle.places.specs.Paths.{Named}

-- rows that agree below b, and names that do, give one path
module _ (s os xs ys s' os' xs' ys' : List ℕ) (b : ℕ) (same : (i : ℕ) → i < b → get_or os' i 0 ≡ get_or os i 0)
    (alike : (i : ℕ) → i < b → name_in s' (get_or xs' i 0) (get_or ys' i 0) ≡ name_in s (get_or xs i 0) (get_or ys i 0)) where
  same_path : (n i : ℕ) → i < b → path_within n s' os' xs' ys' i ≡ path_within n s os xs ys i
  unfolding path_within
  same_path zero i h = refl
  same_path (suc n) i h = rw (same i h, alike i h) (go (λ j k. same_path n j k) (ltb (get_or os i 0) i) refl)
    where
      go : ((j : ℕ) → j < b → path_within n s' os' xs' ys' j ≡ path_within n s os xs ys j) → (t : Bool) → ltb (get_or os i 0) i ≡ t
          → cond (ltb (get_or os i 0) i) (path_within n s' os' xs' ys' (get_or os i 0) ++ (47 ∷ name_in s (get_or xs i 0) (get_or ys i 0))) [] ≡ cond (ltb (get_or os i 0) i) (path_within n s os xs ys (get_or os i 0) ++ (47 ∷ name_in s (get_or xs i 0) (get_or ys i 0))) []
      go less true e = let k = ltb-true (get_or os i 0) i e in rw (e, less (get_or os i 0) (omega arith))
      go less false e = rw e

-- ---- a place keeps its path, whatever places are made after it

pub path_kept : (s : List ℕ) {p q : Places} → Kept p q → (i : ℕ) → i < p.used → path s q i ≡ path s p i
path_kept s {p} {q} k i h =
    same_path s p.older p.starts p.lens s q.older q.starts q.lens p.used k.older (λ j g. ap₂ (name_in s) (k.start j g) (k.len j g)) (suc i) i h

-- ---- of a new root, of a new child, of a step up

module _ {p : Places} (d : Sound p) (s : List ℕ) (h : p.used < 256) where
  pub root_path : path s (root p).places p.used ≡ []
  unfolding added
  root_path =
      rw (lt-ltb p.used 256 h)
      (path_root s (set p.older p.used p.used) (set p.starts p.used 0) (set p.lens p.used 0) p.used (rw (get_or-set_same p.older p.used p.used 0 (let l = d.olders in omega arith)) (omega arith)))

  module _ (from x y : ℕ) (g : from < p.used) where
    older_is : get_or (rowed p from x y).older p.used 0 ≡ from
    older_is = get_or-set_same p.older p.used from 0 (let l = d.olders in omega arith)

    name_is : name_in s (get_or (rowed p from x y).starts p.used 0) (get_or (rowed p from x y).lens p.used 0) ≡ name_in s x y
    name_is = ap₂ (name_in s) (get_or-set_same p.starts p.used x 0 (let l = d.firsts in omega arith)) (get_or-set_same p.lens p.used y 0 (let l = d.counts in omega arith))

    row_path : path s (rowed p from x y) p.used ≡ path s (rowed p from x y) from ++ (47 ∷ name_in s x y)
    row_path =
        path_child s (rowed p from x y).older (rowed p from x y).starts (rowed p from x y).lens p.used (rw older_is g) ∙ rw (older_is, name_is)

    -- the older place's path, a '/' and the name
    pub child_path : path s (child p from x y).places p.used ≡ path s p from ++ (47 ∷ name_in s x y)
    unfolding added
    child_path = rw (lt-ltb p.used 256 h) (row_path ∙ ap (λ (l : List ℕ). l ++ (47 ∷ name_in s x y)) (path_kept s (rowed_kept d from x y h) from g))

-- `..` goes to the older place and makes none; a root stays
module _ (s : List ℕ) (p : Places) (from x y : ℕ) (u : is_up (name_in s x y) ≡ true) where
  pub up_older : step s p from x y ≡ record { places = p; at = Ok (get_or p.older from 0) }
  unfolding step
  up_older = rw u

  pub up_root : get_or p.older from 0 ≡ from → step s p from x y ≡ record { places = p; at = Ok from }
  up_root e = up_older ∙ rw e

pub name_longer : (s t : List ℕ) (x y : ℕ) → x + y ≤ length s → name_in (s ++ t) x y ≡ name_in s x y
name_longer s t x y h =
    let l = length-append s t in
    let d = length-drop x s in
    ap bytes_in (shown_in (s ++ t) x y (omega arith)) ∙ ap (take y) (drop-append-le x s t (omega arith)) ∙ take-append-le y (drop x s) t (omega arith) ∙ sym (ap bytes_in (shown_in s x y h))

pub path_longer_stretch : (s t : List ℕ) (p : Places) → Named s p → (i : ℕ) → i < p.used → path (s ++ t) p i ≡ path s p i
path_longer_stretch s t p n i h =
    same_path s p.older p.starts p.lens (s ++ t) p.older p.starts p.lens p.used (λ j g. refl) (λ j g. name_longer s t (get_or p.starts j 0) (get_or p.lens j 0) (n j g)) (suc i) i h
