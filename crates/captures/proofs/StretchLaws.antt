-- What holds of the definitions in specs/StretchLaws.antt.
use Rattle.numbers.specs.Place.{Place}
use Rattle.std.specs.Prelude.{ℕ, ◌+◌, ◌-◌, ◌≤◌, ◌<◌, ◌≡◌, refl, List, [], ◌∷◌, length, take, drop, Result, Ok, Err, Option, Some, None, is_ok, true, false}
use Rattle.std.proofs.Common.{arith, sym, ap, ◌∙◌, drop_of_length-le, length-take-le, take-take}
use borrow.Author.Tests.{lt-ltb, le-ltb, ne_eqb}
use Rattle.numbers.specs.Numbers.{from_le}
use Rattle.numbers.proofs.ReadingLaws.{or_else}
use Rattle.numbers.proofs.PlaceLaws.{refused_one}
use Rattle.numbers.specs.declared.Fault.{Fault}
use Rattle.numbers.specs.declared.Refusal.{Refusal}
use Rattle.numbers.specs.declared.Refusal.TheVariants as R
use Rattle.layouts.specs.Bodies.{Answer}
use Rattle.framing.specs.Stretch.{Step, frame, end, stop, front, frame_at, ends, stops, list_from, listing}
use Rattle.framing.proofs.ListingLaws.{front_case, list_step, whole_at, moves_on}
use Rattle.framing.specs.Cuts.{CutAt, between}
use Rattle.framing.proofs.CutLaws.{cut_whole, cut_end, cut_stop, length_whole}
use Rattle.framing.specs.declared.Cut.{Cut}
use Rattle.captures.specs.Captures.{frames_in, counted, fits, unless, cut_up}
use Rattle.captures.specs.Steps.{step_to, rest, countable}
use Rattle.captures.specs.StretchLaws.{Next}

-- ---- the ways of a cut

module _ (s : List ℕ) (p : ℕ) {g : Result (Option Cut) Refusal} (c : CutAt s p g) where
  pub end_whole : {x : Cut} → g ≡ Ok (Some x) → Ok x.next ≡ step_to (frame_at [] [] s p)
  end_whole {x} f =
      let w = cut_whole s p c f in
      let l = length_whole w in
      let a = w.seven in
      let n : x.next ≡ p + length (between p x.next s) = omega arith in
      ap Ok n ∙ ap step_to (w.is [] [])

  pub end_end : g ≡ Ok None → Err (R.StretchCut, p) ≡ step_to (frame_at [] [] s p)
  end_end f = ap step_to (cut_end s p c f [] [])

  pub end_stop : {k : Refusal} → g ≡ Err k → Err (k, p) ≡ step_to (frame_at [] [] s p)
  end_stop f = ap step_to (cut_stop s p c f [] [])

module _ (s : List ℕ) (p : ℕ) where
  next_is : {at n ty tag tail e : ℕ} {a : Answer} → p ≤ length s → frame_at [] [] s p ≡ frame at n ty tag a tail e → Next s p e
  next_is {at} {n} {ty} {tag} {tail} {e} {a} h f =
      whole_at [] [] s f
      (λ m x g.
      let z : length (take m (drop p s)) ≡ m = length-take-le m (drop p s) x.held in
      let y : length (take m (drop p s)) ≡ n = cc g in
      let q : p ≡ at = cc g in
      let k : m ≡ n = sym z ∙ y in
      let v = moves_on [] [] s f in
      let w = v.seven in
      record {
        ty = ty;
        tag = tag;
        tail = tail;
        answer = a;
        n = n;
        seven = w;
        on = v.on;
        held = v.within;
        size = ap from_le (take-take 4 n (drop p s) (omega arith)) ∙ x.size ∙ k;
        is = list_step [] [] s p h ∙ rw (f, q);
      })

  pub next : {r : Place} {e : ℕ} → p ≤ length s → r ≡ step_to (frame_at [] [] s p) → r ≡ Ok e → Next s p e
  next {r} {e} h u v = go (frame_at [] [] s p) refl u
    where
      go : (t : Step) → frame_at [] [] s p ≡ t → r ≡ step_to t → Next s p e
      go (frame at n ty tag a tail e') f w = let k : e' ≡ e = cc in next_is h (rw k at f)
      go (end q) f w = absurd (let z : ◌≡◌ {A = ℕ} 0 1 = cc in omega arith)
      go (stop k q) f w = absurd (let z : ◌≡◌ {A = ℕ} 0 1 = cc in omega arith)

  inside : p < length s → frame_at [] [] s p ≡ front [] [] p (drop p s)
  unfolding frame_at
  inside h = rw (le-ltb (length s) p (omega arith), ne_eqb (length s) p (λ e. omega arith))

  pub at_end_lem : length s ≤ p → rest s p ≡ ends p
  unfolding list_from
  at_end_lem h = rw (drop_of_length-le s h)

  -- the end, a frame, or a refusal
  pub rest_case : {X : Type 0} → p ≤ length s → (p ≡ length s → X) → ((e : ℕ) → Next s p e → X) → ((k : Refusal) → p < length s → frame_at [] [] s p ≡ stop k p → rest s p ≡ stops k p → X) → X
  rest_case h f g i =
      or_else (length s) p (λ l. f (omega arith))
      (λ l. front_case [] [] p (drop p s) (λ n x e. g (p + length (take n (drop p s))) (next_is h (inside l ∙ e)))
      (λ k e. let u = inside l ∙ e in i k l u (list_step [] [] s p h ∙ rw u)))

  pub stopped : {r : Place} {k : Refusal} {j : ℕ} → p < length s → r ≡ step_to (frame_at [] [] s p) → r ≡ Err (k, j) → rest s p ≡ stops k j
  stopped {r} {k} {j} h u v = front_case [] [] p (drop p s) (λ n x e. absurd (let t = rw (inside h ∙ e) at u in let z : ◌≡◌ {A = ℕ} 0 1 = cc in omega arith))
      (λ i e.
      let f = inside h ∙ e in
      let t = rw f at u in
      let v' = refused_one (sym t ∙ v) in
      let a : i ≡ k = v'.0 in
      let b : p ≡ j = v'.1 in
      list_step [] [] s p (omega arith) ∙ rw f (rw (a, b)))

-- ---- what the loops make of it

pub starts : (s : List ℕ) → rest s 0 ≡ cut_up s
unfolding listing
starts s = refl

module _ {s : List ℕ} {p e : ℕ} (x : Next s p e) where
  pub count_turn : (m : ℕ) → counted (m + 1) (rest s e) ≡ counted m (rest s p)
  unfolding counted
  count_turn m = rw x.is

  size_is : e - p ≡ x.n
  size_is = let f = x.on in omega arith

  pub fit_turn : e - p ≤ 65535 → fits (rest s e) ≡ fits (rest s p)
  unfolding fits
  fit_turn h = rw (x.is, le-ltb 65535 x.n (let f = size_is in omega arith))

  pub fit_long : 65535 < e - p → Err (R.Capture, p) ≡ fits (rest s p)
  unfolding fits
  fit_long h = rw (x.is, lt-ltb 65535 x.n (let f = size_is in omega arith))

  pub frames_turn : frames_in s (rest s p) ≡ take (e - p) (drop p s) ∷ frames_in s (rest s e)
  unfolding frames_in
  frames_turn = rw (x.is, size_is)

module _ (s : List ℕ) (p : ℕ) {k : Refusal} {j : ℕ} (x : rest s p ≡ stops k j) where
  pub count_stop : (m : ℕ) → Err (k, j) ≡ counted m (rest s p)
  unfolding counted
  count_stop m = rw x

  pub fit_stop : Err (k, j) ≡ fits (rest s p)
  unfolding fits
  fit_stop = rw x

  pub frames_stop : frames_in s (rest s p) ≡ []
  unfolding frames_in
  frames_stop = rw x

module _ (s : List ℕ) (p : ℕ) (x : rest s p ≡ ends p) where
  pub count_end : (m : ℕ) → Ok m ≡ counted m (rest s p)
  unfolding counted
  count_end m = rw x

  pub fit_end : Ok p ≡ fits (rest s p)
  unfolding fits
  fit_end = rw x

  pub frames_end : frames_in s (rest s p) ≡ []
  unfolding frames_in
  frames_end = rw x

-- what the count keeps: n frames come before `at`; none of them, or the first that no record holds
pub record Counting (s : List ℕ) (at n : ℕ) (q : Place) : Type 0 where
  pub within : at ≤ length s
  pub many : n ≤ at
  pub counts : counted n (rest s at) ≡ counted 0 (cut_up s)
  pub fit : unless q (fits (rest s at)) ≡ fits (cut_up s)

pub count_begins : (s : List ℕ) → Counting s 0 0 (Ok 0)
count_begins s = record { within = omega arith; many = omega arith; counts = ap (counted 0) (starts s); fit = ap fits (starts s) }

module _ {s : List ℕ} {at n : ℕ} {q : Place} (w : Counting s at n q) where
  module _ {e : ℕ} (x : Next s at e) where
    turned : {q' : Place} → unless q' (fits (rest s e)) ≡ unless q (fits (rest s at)) → Counting s e (n + 1) q'
    turned f =
        let a = x.on in
        let b = x.seven in
        let c = w.many in
        record { within = x.held; many = omega arith; counts = count_turn x n ∙ w.counts; fit = f ∙ w.fit }

    pub count_long : true ≡ is_ok q → 65535 < e - at → Counting s e (n + 1) (Err (R.Capture, at))
    count_long g h = turned (go q g)
      where
        go : (p : Place) → true ≡ is_ok p → Err (R.Capture, at) ≡ unless p (fits (rest s at))
        go (Ok m) i = fit_long x h
        go (Err f) i = absurd (let z : ◌≡◌ {A = ℕ} 0 1 = cc in omega arith)

    pub count_short : e - at ≤ 65535 → Counting s e (n + 1) q
    count_short h = turned (ap (unless q) (fit_turn x h))

    pub count_refused : false ≡ is_ok q → Counting s e (n + 1) q
    count_refused g = turned (go q g)
      where
        go : (p : Place) → false ≡ is_ok p → unless p (fits (rest s e)) ≡ unless p (fits (rest s at))
        go (Ok m) i = absurd (let z : ◌≡◌ {A = ℕ} 0 1 = cc in omega arith)
        go (Err f) i = refl

  pub count_stops : {k : Refusal} {j : ℕ} → rest s at ≡ stops k j → Err (k, j) ≡ countable (cut_up s)
  count_stops x = let f = count_stop s at x n ∙ w.counts in rw (← f) refl

  module _ (h : length s ≤ at) where
    ended : rest s at ≡ ends at
    ended = at_end_lem s at h

    pub count_unfit : {f : Fault} → q ≡ Err f → Err f ≡ countable (cut_up s)
    count_unfit g =
        let a = count_end s at ended n ∙ w.counts in
        let b = rw g at w.fit in
        rw (← a, ← b) refl

    pub count_fit : {m : ℕ} → q ≡ Ok m → Ok n ≡ countable (cut_up s)
    count_fit g =
        let a = count_end s at ended n ∙ w.counts in
        let b = fit_end s at ended ∙ (rw g at w.fit) in
        rw (← a, ← b) refl
