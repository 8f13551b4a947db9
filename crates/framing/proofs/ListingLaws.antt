-- What holds of the definitions in specs/ListingLaws.antt.
use Prim.Native.Nat.{ℕ, zero, suc, pred, ◌+◌, ◌≤◌, ◌<◌}
use native.Mathlib.Omega.{arith}
use Rattle.std.proofs.Common.{add-zero, ◌∙◌, length-drop, drop-drop}
use Rattle.std.proofs.Math.Path.{◌≡◌, sym, ap}
use Rattle.std.specs.Prelude.{refl, take, drop}
use mathlib.Core.List.{List, [], ◌∷◌}
use Rattle.std.proofs.Math.ListN.{length}
use Rattle.std.proofs.Math.Seq.{length-take-le, drop-length}
use borrow.Author.Tests.{lt-ltb, le-ltb, eq-eqb, ne_eqb}
use Rattle.numbers.proofs.ReadingLaws.{or_else}
use Rattle.numbers.specs.declared.Refusal.{Refusal}
use Rattle.numbers.specs.declared.Refusal.TheVariants as R
use Rattle.layouts.specs.Tables.{Row}
use Rattle.layouts.specs.Bodies.{Answer}
use Rattle.framing.specs.Local.{size_in}
use Rattle.framing.specs.Raising.{raise}
use Rattle.framing.specs.Stretch.{type_in, tag_in, answer_of, tail_in, frame, stop, listed_frame, front, frame_at, Listing, entry, stops, list_from, listing}
use Rattle.framing.specs.ListingLaws.{Front, goes_on, sizes_in, stops_at}

-- a frame or a refusal, whatever the position
pub front_either : (ts rs : List Row) (xs : List ℕ) {X : Type 0} → ((n : ℕ) → Front xs n → X) → ((k : Refusal) → ((p : ℕ) → front ts rs p xs ≡ stop k p) → X) → X
unfolding front
front_either ts rs xs f g =
    or_else 4 (length xs)
    (λ a. or_else 7 (size_in xs)
    (λ b. or_else (size_in xs) (length xs)
    (λ c. f (size_in xs) (record { four = a; size = refl; seven = b; held = c }))
    (λ c. g R.StretchCut (λ p. rw (le-ltb (length xs) 4 a, le-ltb (size_in xs) 7 b, lt-ltb (length xs) (size_in xs) c))))
    (λ b. g R.StretchSize (λ p. rw (le-ltb (length xs) 4 a, lt-ltb (size_in xs) 7 b))))
    (λ a. g R.StretchCut (λ p. rw (lt-ltb (length xs) 4 a)))

module _ (ts rs : List Row) (p : ℕ) (xs : List ℕ) where
  pub front_frame : {n : ℕ} → Front xs n → front ts rs p xs ≡ listed_frame ts rs p (take n xs)
  unfolding front
  front_frame {n} f = rw (le-ltb (length xs) 4 f.four, f.size, le-ltb n 7 f.seven, le-ltb (length xs) n f.held)

  -- it is a frame, or a refusal at that position
  pub front_case : {X : Type 0} → ((n : ℕ) → Front xs n → front ts rs p xs ≡ listed_frame ts rs p (take n xs) → X) → ((k : Refusal) → front ts rs p xs ≡ stop k p → X) → X
  front_case f g = front_either ts rs xs (λ n h. f n h (front_frame h)) (λ k e. g k (e p))

-- ---- the listing, one frame on

entry_sized : {p ty tag m n : ℕ} (a : Answer) {l l' : Listing} → m ≡ n → l ≡ l' → entry p m ty tag (raise p a) (tail_in m a) l ≡ entry p n ty tag (raise p a) (tail_in n a) l'
entry_sized a e f = rw (e, f)

module _ (ts rs : List Row) where
  pub list_frame : (p x : ℕ) (xs : List ℕ) {at n ty tag tail next : ℕ} {a : Answer} → front ts rs p (x ∷ xs) ≡ frame at n ty tag a tail next
      → list_from ts rs p 0 (x ∷ xs) ≡ entry at n ty tag a tail (list_from ts rs (suc p) (pred n) xs)
  unfolding list_from
  list_frame p x xs e = rw (e, list_from)

  pub list_stop : (p x : ℕ) (xs : List ℕ) {k : Refusal} → front ts rs p (x ∷ xs) ≡ stop k p → list_from ts rs p 0 (x ∷ xs) ≡ stops k p
  unfolding list_from
  list_stop p x xs e = rw (e, list_from)

  -- bytes that are to be passed are passed
  pub skip_from : (xs : List ℕ) (p k : ℕ) → k ≤ length xs → list_from ts rs p k xs ≡ list_from ts rs (p + k) 0 (drop k xs)
  unfolding list_from
  skip_from xs p zero h = ap (λ q. list_from ts rs q 0 xs) (sym (add-zero p))
  skip_from [] p (suc k) h = absurd (omega arith)
  skip_from (x ∷ xs) p (suc k) h = skip_from xs (suc p) k (omega arith) ∙ ap (λ q. list_from ts rs q 0 (drop k xs)) (omega arith)

  -- a frame at the front is listed, and the listing goes on after it
  pub list_next : (p n : ℕ) (xs : List ℕ) → Front xs n
      → list_from ts rs p 0 xs ≡ entry p n (type_in (take n xs)) (tag_in (take n xs)) (raise p (answer_of ts rs (take n xs))) (tail_in n (answer_of ts rs (take n xs))) (list_from ts rs (p + n) 0 (drop n xs))
  list_next p n [] f = absurd (let h = f.four in omega arith)
  list_next p zero (x ∷ xs) f = absurd (let h = f.seven in omega arith)
  list_next p (suc n) (x ∷ xs) f =
      let l : length (take (suc n) (x ∷ xs)) ≡ suc n = length-take-le (suc n) (x ∷ xs) f.held in
      list_frame p x xs (front_frame ts rs p (x ∷ xs) f)
      ∙ entry_sized (answer_of ts rs (take (suc n) (x ∷ xs))) l
      (ap (λ m. list_from ts rs (suc p) (pred m) xs) l ∙ skip_from xs (suc p) n (let h = f.held in omega arith) ∙ ap (λ q. list_from ts rs q 0 (drop n xs)) (omega arith))

module _ (ts rs : List Row) (s : List ℕ) where
  abbrev pub listed : ℕ → Listing
  listed p = list_from ts rs p 0 (drop p s)

  at_end_lem : (p : ℕ) → p ≡ length s → listed p ≡ goes_on (frame_at ts rs s p) listed
  unfolding frame_at list_from
  at_end_lem p e = rw (le-ltb (length s) p (omega arith), eq-eqb (length s) p (sym e), e, drop-length s)

  before_end : (p : ℕ) → p < length s → frame_at ts rs s p ≡ front ts rs p (drop p s)
  unfolding frame_at
  before_end p h = rw (le-ltb (length s) p (omega arith), ne_eqb (length s) p (λ e. omega arith))

  stopped : (p : ℕ) (xs : List ℕ) {k : Refusal} → 0 < length xs → front ts rs p xs ≡ stop k p → list_from ts rs p 0 xs ≡ stops k p
  stopped p [] h e = absurd (omega arith)
  stopped p (x ∷ xs) h e = list_stop ts rs p x xs e

  -- the listing is these answers in order (F6.8)
  pub list_step : (p : ℕ) → p ≤ length s → listed p ≡ goes_on (frame_at ts rs s p) listed
  list_step p h =
      or_else (length s) p (λ l. at_end_lem p (omega arith))
      (λ l.
      let d = length-drop p s in
      front_case ts rs p (drop p s)
      (λ n f e.
      let z : length (take n (drop p s)) ≡ n = length-take-le n (drop p s) f.held in
      rw (before_end p l, e) (list_next ts rs p n (drop p s) f ∙ entry_sized (answer_of ts rs (take n (drop p s))) (sym z) (ap (list_from ts rs (p + n) 0) (drop-drop n p s) ∙ ap listed (ap (λ m. p + m) (sym z)))))
      (λ k e. rw (before_end p l, e) (stopped p (drop p s) (omega arith) e)))

  -- a frame that is listed stands whole at its position
  pub whole_at : {X : Type 0} {p at n ty tag tail next : ℕ} {a : Answer} → frame_at ts rs s p ≡ frame at n ty tag a tail next
      → ((m : ℕ) → Front (drop p s) m → listed_frame ts rs p (take m (drop p s)) ≡ frame at n ty tag a tail next → X) → X
  unfolding frame_at
  whole_at {p = p} e f =
      or_else (length s) p (λ l. absurd (none l))
      (λ l. front_case ts rs p (drop p s) (λ m x g. f m x (sym g ∙ sym (before_end p l) ∙ e))
      (λ k g. absurd (let u = sym g ∙ sym (before_end p l) ∙ e in let c : ◌≡◌ {A = ℕ} 0 1 = cc u in omega arith)))
    where
      none : length s ≤ p → ⊥
      none l =
          or_else p (length s)
          (λ m. let u = (rw (le-ltb (length s) p (omega arith), eq-eqb (length s) p (omega arith)) at e) in let c : ◌≡◌ {A = ℕ} 0 1 = cc u in omega arith)
          (λ m. let u = (rw (lt-ltb (length s) p m) at e) in let c : ◌≡◌ {A = ℕ} 0 1 = cc u in omega arith)

  -- a step moves on by seven bytes or more (F6.8)
  pub record Moved (p n next : ℕ) : Type 0 where
    pub seven : 7 ≤ n
    pub on : next ≡ p + n
    pub within : next ≤ length s

  pub moves_on : {p at n ty tag tail next : ℕ} {a : Answer} → frame_at ts rs s p ≡ frame at n ty tag a tail next → Moved p n next
  moves_on {p} {at} {n} {ty} {tag} {tail} {next} e =
      whole_at e
      (λ m f u.
      let z : length (take m (drop p s)) ≡ m = length-take-le m (drop p s) f.held in
      let x : length (take m (drop p s)) ≡ n = cc u in
      let y : p + length (take m (drop p s)) ≡ next = cc u in
      let d = length-drop p s in
      let v = f.seven in
      let w = f.held in
      record { seven = omega arith; on = omega arith; within = omega arith })

module _ (ts rs : List Row) where
  adds_up : (xs : List ℕ) (p k : ℕ) → k ≤ length xs → p + k + sizes_in (list_from ts rs p k xs) ≡ stops_at (list_from ts rs p k xs)
  unfolding list_from
  adds_up [] p zero h = omega arith
  adds_up [] p (suc k) h = absurd (omega arith)
  adds_up (x ∷ xs) p (suc k) h = let i = adds_up xs (suc p) k (omega arith) in omega arith
  adds_up (x ∷ xs) p zero h = go (λ k l. adds_up xs (suc p) k l)
    where
      go : ((k : ℕ) → k ≤ length xs → suc p + k + sizes_in (list_from ts rs (suc p) k xs) ≡ stops_at (list_from ts rs (suc p) k xs))
          → p + 0 + sizes_in (list_from ts rs p 0 (x ∷ xs)) ≡ stops_at (list_from ts rs p 0 (x ∷ xs))
      go ih =
          front_case ts rs p (x ∷ xs)
          (λ n f e.
          let m : ℕ = length (take n (x ∷ xs)) in
          let z : m ≡ n = length-take-le n (x ∷ xs) f.held in
          let v = f.seven in
          let w = f.held in
          let i = ih (pred m) (omega arith) in
          rw (list_frame ts rs p x xs e) (omega arith))
          (λ k e. rw (list_stop ts rs p x xs e) (omega arith))

  pub sizes_add_up : (s : List ℕ) → sizes_in (listing ts rs s) ≡ stops_at (listing ts rs s)
  unfolding listing
  sizes_add_up s = let e = adds_up s 0 0 (omega arith) in omega arith
