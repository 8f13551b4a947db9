-- What holds of the definitions in specs/DamageLaws.antt.
use Rattle.std.specs.Prelude.{ℕ, ◌+◌, ◌≤◌, ◌≡◌, Bool, true, false, cond, ◌⊎◌, List, length, take, drop, eqb}
use Rattle.std.proofs.Common.{arith, sym, ap, ap₂, ◌∙◌, subst, inl, inr, length-drop, take-take, drop-drop, eq-eqb}
use Rattle.std.proofs.Math.Path.{refl}
use Rattle.numbers.specs.Numbers.{from_le}
use Rattle.laying.proofs.LayingLaws.{drop_take}
use Rattle.layouts.specs.Tables.{Row}
use Rattle.layouts.specs.Bodies.{Answer}
use Rattle.framing.specs.Raising.{raise}
use Rattle.framing.specs.Stretch.{type_in, tag_in, answer_of, tail_in, Step, frame, end, stop, frame_at, Listing, entry, ends, stops, list_from, listing}
use Rattle.framing.specs.ListingLaws.{Front, goes_on}
use Rattle.framing.proofs.ListingLaws.{listed, list_step, list_next, whole_at}
use Rattle.framing.specs.Damage.{Has, Damaged, EqualBut, there, other}
use Rattle.framing.specs.DamageLaws.{without}

-- ---- the frames of a listing, one after the other

module _ (ts rs : List Row) where
  -- the entry of the frame f at p
  abbrev entry_of : ℕ → ℕ → List ℕ → Listing → Listing
  entry_of p n f l = entry p n (type_in f) (tag_in f) (raise p (answer_of ts rs f)) (tail_in n (answer_of ts rs f)) l

  module _ (s : List ℕ) where
    -- a frame that stands at p is listed, and the listing goes on after it
    next_listed : (p n : ℕ) → Front (drop p s) n → listed ts rs s p ≡ entry_of p n (take n (drop p s)) (listed ts rs s (p + n))
    next_listed p n f = list_next ts rs p n (drop p s) f ∙ ap (λ x. entry_of p n (take n (drop p s)) (list_from ts rs (p + n) 0 x)) (drop-drop n p s)

    -- a listing with a frame in it begins with a frame
    begins : {X : Type 0} (p q n : ℕ) → q ≤ length s → Has p n (listed ts rs s q) → ((m : ℕ) → Front (drop q s) m → X) → X
    begins {X} p q n h x f = go (frame_at ts rs s q) refl
      where
        go : (r : Step) → frame_at ts rs s q ≡ r → X
        go (frame at m ty tag a tail next) e = whole_at ts rs s e (λ k g u. f k g)
        go (end z) e = absurd (subst (λ r. Has p n (goes_on r (listed ts rs s))) e (subst (Has p n) (list_step ts rs s q h) x))
        go (stop k z) e = absurd (subst (λ r. Has p n (goes_on r (listed ts rs s))) e (subst (Has p n) (list_step ts rs s q h) x))

-- ---- two stretches

module _ (ts rs : List Row) {p n : ℕ} {s t : List ℕ} (d : Damaged p n s t) where
  -- what ends before the damage begins is the same
  same_part : (q k : ℕ) → q + k ≤ p + 4 → take k (drop q t) ≡ take k (drop q s)
  same_part q k h =
      sym (drop_take q k t) ∙ ap (drop q) (sym (take-take (q + k) (p + 4) t h) ∙ ap (take (q + k)) d.before ∙ take-take (q + k) (p + 4) s h) ∙ drop_take q k s

  -- so a frame that stands there, or that is the damaged one, has the same size
  same_front : (q m : ℕ) → q ≤ p → Front (drop q s) m → Front (drop q t) m
  same_front q m h f =
      let x = length-drop q s in
      let y = length-drop q t in
      let z = d.long in
      let a = f.four in
      let b = f.held in
      record { four = omega arith; size = ap from_le (same_part q 4 (omega arith)) ∙ f.size; seven = f.seven; held = omega arith }

  -- the damaged frame itself, and all after it
  at_damage : {ty tag tail : ℕ} {a : Answer} → Front (drop p s) n → EqualBut p n (entry p n ty tag a tail (listed ts rs s (p + n))) (listed ts rs t p)
  at_damage {ty} {tag} {tail} {a} f =
      let l : listed ts rs t p ≡ entry_of ts rs p n (take n (drop p t)) (listed ts rs s (p + n))
      = next_listed ts rs t p n (same_front p n (omega arith) f) ∙ ap (λ x. entry_of ts rs p n (take n (drop p t)) (list_from ts rs (p + n) 0 x)) d.after in
      subst (EqualBut p n (entry p n ty tag a tail (listed ts rs s (p + n)))) (sym l) there

  -- a frame before it
  before_damage : (q m : ℕ) {l : Listing} → q + m ≤ p → Front (drop q s) m → EqualBut p n l (listed ts rs t (q + m)) → EqualBut p n (entry_of ts rs q m (take m (drop q s)) l) (listed ts rs t q)
  before_damage q m {l} h f e =
      let x : listed ts rs t q ≡ entry_of ts rs q m (take m (drop q s)) (listed ts rs t (q + m))
      = next_listed ts rs t q m (same_front q m (omega arith) f) ∙ ap (λ g. entry_of ts rs q m g (listed ts rs t (q + m))) (same_part q m (omega arith)) in
      subst (EqualBut p n (entry_of ts rs q m (take m (drop q s)) l)) (sym x) (other e)

  -- from q on, of a listing that has the frame
  record From (q : ℕ) (L : Listing) : Type 0 where
    start : q ≤ p
    alike : EqualBut p n L (listed ts rs t q)

  is_damaged : {q m at size ty tag tail : ℕ} {a : Answer} {l : Listing} → q ≡ p → m ≡ n → at ≡ p → size ≡ n → l ≡ listed ts rs s (p + n) → Front (drop q s) m → From q (entry at size ty tag a tail l)
  is_damaged g h x y z f = rw (g, x, y, z) (record { start = omega arith; alike = at_damage (rw (g, h) at f) })

  is_before : (q m : ℕ) {l : Listing} → Front (drop q s) m → From (q + m) l → From q (entry_of ts rs q m (take m (drop q s)) l)
  is_before q m f e = let h = e.start in record { start = omega arith; alike = before_damage q m h f e.alike }

  from : (L : Listing) (q : ℕ) → q ≤ length s → L ≡ listed ts rs s q → Has p n L → From q L
  from (ends z) q h e x = absurd x
  from (stops k z) q h e x = absurd x
  from (entry at size ty tag a tail l) q h e x = begins ts rs s p q n h (subst (Has p n) e x) (λ m f. go m f (λ u v w. from l u v w) x)
    where
      go : (m : ℕ) → Front (drop q s) m → ((u : ℕ) → u ≤ length s → l ≡ listed ts rs s u → Has p n l → From u l) → ((at ≡ p) × (size ≡ n)) ⊎ Has p n l → From q (entry at size ty tag a tail l)
      go m f ih y =
          let r : entry at size ty tag a tail l ≡ entry_of ts rs q m (take m (drop q s)) (listed ts rs s (q + m)) = e ∙ next_listed ts rs s q m f in
          let c : at ≡ q = cc r in
          let k : size ≡ m = cc r in
          let i : l ≡ listed ts rs s (q + m) = cc r in
          let b = f.held in
          let g = length-drop q s in
          pick c k i (omega arith) (r ∙ ap (entry_of ts rs q m (take m (drop q s))) (sym i)) y
        where
          pick : at ≡ q → size ≡ m → l ≡ listed ts rs s (q + m) → q + m ≤ length s → entry at size ty tag a tail l ≡ entry_of ts rs q m (take m (drop q s)) l
              → ((at ≡ p) × (size ≡ n)) ⊎ Has p n l → From q (entry at size ty tag a tail l)
          pick c k i b r (inl (y, z)) = is_damaged (sym c ∙ y) (sym k ∙ z) y z (i ∙ ap (listed ts rs s) (ap₂ (λ u v. u + v) (sym c ∙ y) (sym k ∙ z))) f
          pick c k i b r (inr y) = subst (From q) (sym r) (is_before q m f (ih (q + m) b i y))

  -- if the stretch has the frame, the other one has it too, and the two are listed alike but for it
  pub damaged_listing : Has p n (listing ts rs s) → EqualBut p n (listing ts rs s) (listing ts rs t)
  unfolding listing
  damaged_listing h = (from (listing ts rs s) 0 (omega arith) refl h).alike

-- all else is the same, before and after, and the last line
pub rest_equal : {p n : ℕ} {L M : Listing} → EqualBut p n L M → without p L ≡ without p M
rest_equal {p} there = rw (eq-eqb p p refl)
rest_equal {p} (other {at} {size} {ty} {tag} {tail} {a} e) = go (eqb at p) (rest_equal e)
  where
    go : (t : Bool) {l m : Listing} → l ≡ m → cond t l (entry at size ty tag a tail l) ≡ cond t m (entry at size ty tag a tail m)
    go true h = h
    go false h = ap (entry at size ty tag a tail) h

-- and the frame is there in both
pub has_both : {p n : ℕ} {L M : Listing} → EqualBut p n L M → Has p n L × Has p n M
has_both there = (inl (refl, refl), inl (refl, refl))
has_both (other e) = let h = has_both e in (inr h.0, inr h.1)
