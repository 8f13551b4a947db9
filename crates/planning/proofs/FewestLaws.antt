-- What the promise of `plan` comes to (F12.5): its plan is accepted, no accepted plan has fewer pieces, and 24 is answered exactly where each is longer than the table.
use Rattle.numbers.specs.Place.{Place}
use Rattle.std.specs.Prelude.{ℕ, ◌+◌, ◌≤◌, ◌<◌, Bool, List, ◌++◌, length, take, drop, Ok, Err}
use native.Mathlib.Omega.{arith}
use Rattle.std.proofs.Math.Path.{◌≡◌, refl}
use Rattle.std.proofs.Common.{sym, ap, ◌∙◌, take_at, drop_at}
use Rattle.std.proofs.Math.Bool.{true, false, cond}
use Rattle.std.proofs.Math.Dec.{ltb}
use borrow.Author.Tests.{ltb-true, ltb-false}
use Rattle.std.specs.Result.{is_err}
use Rattle.numbers.proofs.PlaceLaws.{one_answer, refused_one}
use Rattle.numbers.specs.declared.Refusal.{Refusal}
use Rattle.numbers.specs.declared.Refusal.TheVariants as R
use Rattle.planning.specs.Plans.{greatest, agreed, accepted, most_data, fewest, cut, room_for, planned, table_of, Planned}
use Rattle.planning.proofs.PlanLaws.{most_some, fewest_least, fewest_none, runs_within, cut_runs, length_cut, Good, good, accepted_refused, accepted_runs, planned_full, planned_fits}

-- ---- an accepted plan is of a write that is neither 26 nor 27, and it has enough pieces

module _ (first len msize : ℕ) (ps : List (List ℕ)) (e : accepted ps first len msize ≡ true) where
  accepted_good : Good first len msize
  accepted_good = go (agreed first len msize) refl
    where
      go : (q : Place) → agreed first len msize ≡ q → Good first len msize
      go (Ok n) a = good first len msize refl (ap is_err a)
      go (Err f) a = let g = accepted_refused first len msize ps refl (ap is_err a) in absurd (let z : ◌≡◌ {A = ℕ} 0 1 = cc (e, g) in omega arith)

  pub every_accepted : fewest (most_data msize) len ≤ length ps
  every_accepted =
      let g = accepted_good in
      let r = accepted_runs first len msize ps g ∙ e in
      let w = (runs_within msize first (first + len) ps r).1 in
      (fewest_least (most_data msize) (most_some msize g.msize_is) len).least (length ps) (omega arith)

-- ---- what is planned is accepted

pub cut_accepted : (first len msize : ℕ) → Good first len msize → accepted (cut (most_data msize) (fewest (most_data msize) len) first len) first len msize ≡ true
cut_accepted first len msize g =
    let h = g.msize_is in
    let n = fewest (most_data msize) len in
    sym (accepted_runs first len msize (cut (most_data msize) n first len) g)
    ∙ cut_runs msize h n first len (first + len) (fewest_least (most_data msize) (most_some msize h) len) refl

-- ---- the answers that are a plan, and those that are 24

record Fits (room first len msize n : ℕ) : Type 0 where
  is_good : Good first len msize
  is_fewest : n ≡ fewest (most_data msize) len
  is_in : n ≤ room

module _ (room first len msize : ℕ) where
  abbrev least : ℕ
  least = fewest (most_data msize) len

  fits_is : {n : ℕ} → Ok n ≡ planned room first len msize → Fits room first len msize n
  unfolding planned
  fits_is {n} e = go (agreed first len msize) refl e
    where
      rest : (j : ℕ) → agreed first len msize ≡ Ok j → (b : Bool) → ltb room least ≡ b → ◌≡◌ {A = Place} (Ok n) (cond b (Err (R.TableFull, 0)) (Ok least)) → Fits room first len msize n
      rest j a true u f = absurd (let z : ◌≡◌ {A = ℕ} 0 1 = cc in omega arith)
      rest j a false u f = let c : n ≡ least = cc in record { is_good = good first len msize refl (ap is_err a); is_fewest = c; is_in = let k = ltb-false room least u in omega arith }

      go : (q : Place) → agreed first len msize ≡ q → Ok n ≡ room_for q room least → Fits room first len msize n
      go (Ok j) a f = rest j a (ltb room least) refl f
      go (Err e) a f = absurd (let z : ◌≡◌ {A = ℕ} 0 1 = cc in omega arith)

  full_is : {n : ℕ} → Err (R.TableFull, n) ≡ planned room first len msize → room < least
  unfolding planned agreed
  full_is {n} e = go (ltb msize 24) (ltb greatest (first + len)) e
    where
      rest : (c : Bool) → ltb room least ≡ c → ◌≡◌ {A = Place} (Err (R.TableFull, n)) (cond c (Err (R.TableFull, 0)) (Ok least)) → room < least
      rest true u f = ltb-true room least u
      rest false u f = absurd (let z : ◌≡◌ {A = ℕ} 0 1 = cc in omega arith)

      go : (a b : Bool) → Err (R.TableFull, n) ≡ room_for (cond a (Err (R.MsizeTooSmall, 0)) (cond b (Err (R.EndTooFar, 0)) (Ok 0))) room least → room < least
      go true b f = absurd (let k = (refused_one f).0 in let z : ◌≡◌ {A = ℕ} 0 1 = cc k in omega arith)
      go false true f = absurd (let k = (refused_one f).0 in let z : ◌≡◌ {A = ℕ} 0 1 = cc k in omega arith)
      go false false f = rest (ltb room least) refl f

-- ---- what is promised comes to this

module _ {t : List (List ℕ)} {first len msize : ℕ} {t' : List (List ℕ)} {r : Place} (p : Planned t first len msize t' r) where
  pub planned_one : {u : List (List ℕ)} {q : Place} → Planned t first len msize u q → (t' ≡ u) × (r ≡ q)
  planned_one o = (one_answer p.table o.table, one_answer p.answer o.answer)

  -- refused, the table is as it was
  pub untouched : {k : Refusal} {n : ℕ} → r ≡ Err (k, n) → t' ≡ t
  unfolding table_of
  untouched e = p.table ∙ rw (← p.answer, e)

  module _ {n : ℕ} (e : r ≡ Ok n) where
    as_planned : Fits (length t) first len msize n
    as_planned = fits_is (length t) first len msize (sym e ∙ p.answer)

    -- the rows are its pieces, and then what they were
    pub rows : t' ≡ cut (most_data msize) n first len ++ drop n t
    unfolding table_of
    rows = p.table ∙ rw (← p.answer, e)

    pub rows_after : drop n t' ≡ drop n t
    rows_after = rw rows (drop_at (cut (most_data msize) n first len) (drop n t) n (length_cut (most_data msize) n first len))

    -- its plan is accepted
    pub plan_accepted : accepted (take n t') first len msize ≡ true
    plan_accepted =
        let f = as_planned in
        let c = cut_accepted first len msize f.is_good in
        rw (rows, take_at (cut (most_data msize) n first len) (drop n t) n (length_cut (most_data msize) n first len), f.is_fewest) c

    -- every accepted plan has at least as many pieces
    pub plan_fewest : (ps : List (List ℕ)) → accepted ps first len msize ≡ true → n ≤ length ps
    plan_fewest ps a = let f = as_planned.is_fewest in let l = every_accepted first len msize ps a in omega arith

  -- 24: every accepted plan is longer than the table
  pub full : {n : ℕ} → r ≡ Err (R.TableFull, n) → (ps : List (List ℕ)) → accepted ps first len msize ≡ true → length t < length ps
  full e ps a = let f = full_is (length t) first len msize (sym e ∙ p.answer) in let l = every_accepted first len msize ps a in omega arith

  module _ (h : 24 ≤ msize) (l : first + len ≤ greatest) where
    -- and where every one is longer, it is 24: else the plan that is made would be one that fits
    pub full_only : ((ps : List (List ℕ)) → accepted ps first len msize ≡ true → length t < length ps) → r ≡ Err (R.TableFull, 0)
    full_only f =
        let g : Good first len msize = record { msize_is = h; end_is = l } in
        let c = cut_accepted first len msize g in
        let m = length_cut (most_data msize) (fewest (most_data msize) len) first len in
        (planned_one (planned_full first len msize t g refl refl (let k = f _ c in omega arith))).1

    -- nothing to write is the empty plan
    pub nothing : len ≡ 0 → (r ≡ Ok 0) × (t' ≡ t)
    unfolding cut
    nothing z =
        let o = planned_one (planned_fits first len msize t record { msize_is = h; end_is = l } refl (fewest_none (most_data msize) (most_some msize h) len z) (omega arith) refl) in
        (o.1, o.0)
