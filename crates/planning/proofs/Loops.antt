-- What a turn does, and how it begins and ends, for the loop that puts pieces and the one that looks at them.
use Prim.Native.Nat.{ℕ, suc, ◌+◌, ◌-◌, min, ◌≤◌, ◌<◌}
use native.Mathlib.Omega.{arith}
use mathlib.Core.Path.{◌≡◌, refl, sym, ◌∙◌}
use mathlib.Core.Bool.{Bool, true, false}
use mathlib.Core.List.{List, [], ◌∷◌}
use lib.ListN.{length, drop, set, get_or, drop_of_length-le}
use Rattle.std.proofs.Common.{append-nil}
use lib.Dec.{eqb}
use borrow.Author.Tests.{eq-eqb, ne_eqb, eqb-true, eqb-false}
use lib.Seq.{sets, sets-eq, drop-cons}
use native.Mathlib.Numerals.{add-one}
use Rattle.planning.specs.Plans.{cut, runs_on, accepted, most_data, offset, size}
use Rattle.planning.specs.PlanLaws.{Follows}
use Rattle.planning.proofs.PlanLaws.{length_cut, runs_step, runs_stop, accepted_runs, Good}

-- ---- putting

pub put_begins : (t : List (List ℕ)) (most first len : ℕ) → sets t 0 (cut most (length t - 0) first len) ≡ cut most (length t) first len
put_begins t most first len =
    let e : length t - 0 ≡ length t = omega arith in
    let l = length_cut most (length t) first len in
    rw (e, sets-eq (cut most (length t) first len) t 0 (omega (arith, l)), l) (rw (drop_of_length-le t (let z : length t ≤ 0 + length t = omega arith in z), append-nil) refl)

pub put_turn : (t : List (List ℕ)) (most n at left i m : ℕ) → i < n → m ≡ min left most
    → sets (set t i (at ∷ m ∷ [])) (i + 1) (cut most (n - (i + 1)) (at + m) (left - m)) ≡ sets t i (cut most (n - i) at left)
unfolding cut
put_turn t most n at left i m h f =
    let e : n - i ≡ suc (n - (i + 1)) = omega arith in
    rw (e, f, add-one)

pub put_ends : (t : List (List ℕ)) (most n at left i first len : ℕ) → n ≤ i → sets t i (cut most (n - i) at left) ≡ cut most n first len → t ≡ cut most n first len
unfolding cut
put_ends t most n at left i first len h j = let e : n - i ≡ 0 = omega arith in rw e at j

-- ---- looking: a look at the next piece, where what is left of the plan runs on from here exactly if all of it does from the first offset

-- a piece that comes next is not longer than what is left
pub follows_in : {start n at left most : ℕ} {r : Bool} → Follows start n at left most r → r ≡ true → n ≤ left
follows_in f t = (rw t at f).is.3

module _ {first len msize : ℕ} (g : Good first len msize) {most : ℕ} (is : most ≡ most_data msize) (ps : List (List ℕ)) (at left i : ℕ)
    (e : at + left ≡ first + len) (all : runs_on msize at (first + len) (drop i ps) ≡ runs_on msize first (first + len) ps) where
  abbrev row : List ℕ
  row = get_or ps i []

  abbrev next : Bool → Type 0
  next r = Follows (offset row) (size row) at left most r

  pub look_turn : {r : Bool} → i < length ps → next r → r ≡ true → runs_on msize (at + size row) (first + len) (drop (i + 1) ps) ≡ runs_on msize first (first + len) ps
  look_turn l f t =
      let d = (rw (t, is) at f).is in
      let a = rw (drop-cons ps i [] l) at all in
      rw add-one (sym (runs_step msize g.msize_is at (first + len) row (drop (suc i) ps) d.0 d.1 d.2) ∙ a)

  pub look_stop : {r : Bool} → i < length ps → next r → r ≡ false → false ≡ accepted ps first len msize
  look_stop l f t =
      let d = (rw (t, is) at f).is in
      let s = runs_stop msize g.msize_is at (first + len) row (drop (suc i) ps) (λ a b c. let k = d a b c in omega arith) in
      let a = rw (drop-cons ps i [] l) at all in
      s ∙ a ∙ accepted_runs first len msize ps g

  pub look_ends : length ps ≤ i → eqb left 0 ≡ accepted ps first len msize
  unfolding runs_on
  look_ends l = let a = rw (drop_of_length-le ps l) at all in go (eqb left 0) refl ∙ a ∙ accepted_runs first len msize ps g
    where
      go : (b : Bool) → eqb left 0 ≡ b → b ≡ eqb at (first + len)
      go true t = let k = eqb-true left 0 t in sym (eq-eqb at (first + len) (omega arith))
      go false t = sym (ne_eqb at (first + len) (λ k. eqb-false left 0 t (omega arith)))
