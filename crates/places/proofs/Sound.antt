-- What holds of the definitions in specs/Sound.antt.
use Rattle.numbers.specs.Place.{Place}
use Rattle.std.specs.Prelude.{ℕ, zero, suc, ◌<◌, ◌≤◌, ◌≡◌, refl, Bool, true, false, cond, List, get_or, ltb, Result, Ok, Err}
use Rattle.std.proofs.Common.{arith, not-suc-le-zero, ◌∙◌, length-set, get_or-set_same, get_or-set_other, ltb-true}
use Rattle.std.proofs.lemmas.List.{length-replicate}
use Rattle.numbers.proofs.ReadingLaws.{or_else}
use Rattle.numbers.specs.declared.Refusal.{Refusal}
use Rattle.numbers.specs.declared.Refusal.TheVariants as R
use Rattle.strings.specs.Spans.{str_start, str_len, past_str}
use Rattle.places.specs.declared.Places.{Places}
use Rattle.places.specs.declared.Reached.{Reached}
use Rattle.places.specs.Places.{unused, rowed, added, child, name_in, is_up, step, stepped, onward, walked}
use Rattle.places.specs.Sound.{Sound, Inside, Kept, Grown}

pub kept_same : (p : Places) → Kept p p
kept_same p = record { more = omega arith; older = λ i h. refl; start = λ i h. refl; len = λ i h. refl }

pub kept_then : {p q r : Places} → Kept p q → Kept q r → Kept p r
kept_then {p} {q} {r} a b =
    let m = a.more in
    let n = b.more in
    record {
      more = omega arith;
      older = λ i h. b.older i (omega arith) ∙ a.older i h;
      start = λ i h. b.start i (omega arith) ∙ a.start i h;
      len = λ i h. b.len i (omega arith) ∙ a.len i h;
    }

pub unused_sound : Sound unused
unused_sound = record {
  olders = length-replicate {A = ℕ} 256 0;
  firsts = length-replicate {A = ℕ} 256 0;
  counts = length-replicate {A = ℕ} 256 0;
  most = omega arith;
  falls = λ i h. absurd (not-suc-le-zero h);
}

-- ---- a new place

below : {i n : ℕ} → i < n → i ≡ n → ⊥
below h e = omega arith

module _ {p : Places} (s : Sound p) (o x y : ℕ) (h : p.used < 256) where
  pub rowed_sound : o ≤ p.used → Sound (rowed p o x y)
  rowed_sound g = record {
    olders = length-set p.older p.used o ∙ s.olders;
    firsts = length-set p.starts p.used x ∙ s.firsts;
    counts = length-set p.lens p.used y ∙ s.counts;
    most = omega arith;
    falls = λ i k. or_else p.used i (λ u. let e : i ≡ p.used = omega arith in rw (e, get_or-set_same p.older p.used o 0 (let l = s.olders in omega arith)) g) (λ u. rw (get_or-set_other p.older p.used i o 0 (below u)) (s.falls i u));
  }

  pub rowed_kept : Kept p (rowed p o x y)
  rowed_kept = record {
    more = omega arith;
    older = λ i k. get_or-set_other p.older p.used i o 0 (below k);
    start = λ i k. get_or-set_other p.starts p.used i x 0 (below k);
    len = λ i k. get_or-set_other p.lens p.used i y 0 (below k);
  }

pub added_grown : {p : Places} → Sound p → (o x y : ℕ) → o ≤ p.used → Grown p (added p o x y)
unfolding added
added_grown {p} s o x y g = go (ltb p.used 256) refl
  where
    go : (b : Bool) → ltb p.used 256 ≡ b → Grown p (cond b (record { places = rowed p o x y; at = Ok p.used }) (record { places = p; at = Err R.TableFull }))
    go true e = let h = ltb-true p.used 256 e in record { sound = rowed_sound s o x y h g; inside = omega arith; kept = rowed_kept s o x y h }
    go false e = record { sound = s; inside = tt; kept = kept_same p }

-- ---- a step, and a walk

pub step_grown : {p : Places} → Sound p → (s : List ℕ) (from x y : ℕ) → from < p.used → Grown p (step s p from x y)
unfolding step
step_grown {p} d s from x y h = go (is_up (name_in s x y))
  where
    go : (b : Bool) → Grown p (cond b (record { places = p; at = Ok (get_or p.older from 0) }) (child p from x y))
    go true = record { sound = d; inside = let k = d.falls from h in omega arith; kept = kept_same p }
    go false = added_grown d from x y (omega arith)

pub onward_grown : {p : Places} {r : Reached} → Grown p r → (s : List ℕ) (x y : ℕ) (q : Place) → Grown p (onward s x y q r)
unfolding onward
onward_grown {p} {r} g s x y q = go r.at refl q
  where
    go : (t : Result ℕ Refusal) → r.at ≡ t → (q : Place) → Grown p (stepped s x y q r t)
    go (Err k) e q = g
    go (Ok from) e (Err f) = record { sound = g.sound; inside = tt; kept = g.kept }
    go (Ok from) e (Ok n) =
        let i : Inside r.places (Ok from) = rw e at g.inside in
        let w = step_grown g.sound s from x y i in
        record { sound = w.sound; inside = w.inside; kept = kept_then g.kept w.kept }

pub walked_grown : (s : List ℕ) (n : ℕ) (q : Place) {p : Places} {r : Reached} → Grown p r → Grown p (walked s n q r)
unfolding walked
walked_grown s zero q g = g
walked_grown s (suc n) q g = walked_grown s n (past_str s q) (onward_grown g s (str_start s q) (str_len s q) (past_str s q))
