-- What holds of the definitions in specs/FrameLaws.antt.
use Rattle.numbers.specs.Place.{Place}
use Rattle.std.specs.Prelude.{ℕ, ◌+◌, ◌≤◌, refl, Bool, true, false, cond, List, take, drop, ltb, Ok, Err}
use native.Mathlib.Omega.{arith}
use Rattle.std.proofs.Math.Path.{◌≡◌, sym}
use Rattle.std.proofs.Common.{◌∙◌, drop_of_length-le, take-append-drop, ltb-false}
use Rattle.std.proofs.Math.ListN.{length, length-drop}
use Rattle.std.proofs.Math.Seq.{length-take-le, drop-drop}
use Rattle.numbers.specs.declared.Refusal.TheVariants as R
use Rattle.layouts.specs.Bodies.{Answer}
use Rattle.framing.specs.Stretch.{Listing, entry, ends, stops}
use Rattle.captures.specs.Captures.{frames_in, counted, fits}
use Rattle.captures.specs.Steps.{rest}
use Rattle.captures.specs.StretchLaws.{Next}
use Rattle.captures.proofs.StretchLaws.{rest_case, at_end_lem}
use Rattle.captures.specs.FrameLaws.{Whole}

module _ (s : List ℕ) where
  small : (n at j : ℕ) (q : Place) → cond (ltb 65535 n) (Err (R.Capture, at)) q ≡ Ok j → (n ≤ 65535) × (q ≡ Ok j)
  small n at j q = go (ltb 65535 n) refl
    where
      go : (b : Bool) → ltb 65535 n ≡ b → cond b (Err (R.Capture, at)) q ≡ Ok j → (n ≤ 65535) × (q ≡ Ok j)
      go true e f = absurd (let z : ◌≡◌ {A = ℕ} 0 1 = cc in omega arith)
      go false e f = (ltb-false 65535 n e, f)

  no_more : {p m k q : ℕ} → length s ≤ p → ◌≡◌ {A = Place} (Ok m) (Ok k) → Whole s (ends q) p m k
  unfolding frames_in
  no_more {p} {m} {k} h e = record { count = let f : m ≡ k = cc e in omega arith; joins = sym (drop_of_length-le s h); goods = tt }

  one_more : {p e n m k at ty tag tail : ℕ} {a : Answer} {l : Listing} → Next s p e → entry at n ty tag a tail l ≡ rest s p → n ≤ 65535 → Whole s l e (m + 1) k → Whole s (entry at n ty tag a tail l) p m k
  unfolding frames_in
  one_more {p} {e} {n} {at = at} x u h w =
      let v = u ∙ x.is in
      let i : n ≡ x.n = cc v in
      let j : at ≡ p = cc v in
      let on = x.on in
      let t = x.held in
      let d = length-drop p s in
      let c = w.count in
      let seven = x.seven in
      let len : length (take n (drop p s)) ≡ n = length-take-le n (drop p s) (omega arith) in
      let e' : e ≡ p + n = omega arith in
      record {
        count = omega arith;
        joins = rw (j, w.joins, e', ← drop-drop n p s) (take-append-drop n (drop p s));
        goods = rw j (record { seven = omega arith; most = omega arith; size = rw i x.size ∙ sym len }, w.goods);
      }

  pub whole : (l : Listing) (p : ℕ) {m k j : ℕ} → p ≤ length s → l ≡ rest s p → counted m l ≡ Ok k → fits l ≡ Ok j → Whole s l p m k
  unfolding counted fits
  whole (stops i q) p h e c f = absurd (let z : ◌≡◌ {A = ℕ} 0 1 = cc c in omega arith)
  whole (ends q) p h e c f =
      rest_case s p h (λ z. no_more (omega arith) c) (λ e' x. absurd (let u = e ∙ x.is in let z : ◌≡◌ {A = ℕ} 0 1 = cc u in omega arith))
      (λ i l g u. absurd (let v = e ∙ u in let z : ◌≡◌ {A = ℕ} 0 1 = cc v in omega arith))
  whole (entry at n ty tag a tail l) p h e c f =
      rest_case s p h (λ z. absurd (let u = e ∙ at_end_lem s p (omega arith) in let z : ◌≡◌ {A = ℕ} 0 1 = cc u in omega arith))
      (λ e' x.
      let u = e ∙ x.is in
      let v : l ≡ rest s e' = cc u in
      let g = small n at _ (fits l) f in
      one_more x e g.0 (whole l e' x.held v c g.1))
      (λ i l' g u. absurd (let v = e ∙ u in let z : ◌≡◌ {A = ℕ} 0 1 = cc v in omega arith))
