-- The listing of two stretches joined is their listings joined, over any two tables.
use Prim.Native.Nat.{ℕ, zero, suc, pred, ◌+◌, ◌≤◌}
use native.Mathlib.Omega.{arith}
use Rattle.std.specs.Prelude.{◌≡◌, Bool, true, false, cond, eqb}
use Rattle.std.proofs.Math.Path.{refl, ap}
use Rattle.std.proofs.Common.{sym, ap₂, ◌∙◌, subst, length-append}
use mathlib.Core.List.{List, [], ◌∷◌, ◌++◌, map}
use Rattle.std.proofs.Math.ListN.{length, take}
use Rattle.std.proofs.Math.Seq.{take-append-le, length-take-le}
use Rattle.numbers.specs.Numbers.{from_le}
use Rattle.numbers.specs.Refusals.{number_of}
use Rattle.numbers.specs.declared.Refusal.{Refusal}
use Rattle.fields.specs.Values.{Slot, slot, text, Value, val, span, part, block}
use Rattle.layouts.specs.Tables.{Row}
use Rattle.layouts.specs.Bodies.{Answer, accepted, refused}
use Rattle.framing.specs.Raising.{raise_slot, raise_value, raise_place, raise}
use Rattle.framing.proofs.RaisedLaws.{raise_zero}
use Rattle.framing.specs.Stretch.{type_in, tag_in, answer_of, tail_in, listed_frame, Listing, entry, ends, stops, list_from, listing}
use Rattle.framing.specs.ListingLaws.{Front, stops_at}
use Rattle.framing.proofs.ListingLaws.{front_either, front_frame, list_frame, list_stop}
use Rattle.framing.specs.Joining.{raise_listing, joined, Ends}

-- ---- raised twice

slots_twice : (c d : ℕ) (l : List Slot) → map (raise_slot c) (map (raise_slot d) l) ≡ map (raise_slot (c + d)) l
slots_twice c d [] = refl
slots_twice c d (slot n ∷ l) = ap (λ (z : List Slot). slot n ∷ z) (slots_twice c d l)
slots_twice c d (text x y ∷ l) = ap₂ (λ u (z : List Slot). text u y ∷ z) (omega arith) (slots_twice c d l)

value_twice : (c d : ℕ) (v : Value) → raise_value c (raise_value d v) ≡ raise_value (c + d) v
value_twice c d (val n) = refl
value_twice c d (span x y) = ap (λ z. span z y) (omega arith)
value_twice c d (part k x y) = ap (λ z. part k z y) (omega arith)
value_twice c d (block l) = ap block (slots_twice c d l)

values_twice : (c d : ℕ) (vs : List Value) → map (raise_value c) (map (raise_value d) vs) ≡ map (raise_value (c + d)) vs
values_twice c d [] = refl
values_twice c d (v ∷ vs) = ap₂ (λ (x : Value) (y : List Value). x ∷ y) (value_twice c d v) (values_twice c d vs)

place_twice : (c d : ℕ) (k : Refusal) (at : ℕ) → raise_place c k (raise_place d k at) ≡ raise_place (c + d) k at
place_twice c d k at = go (eqb (number_of k) 5) (eqb (number_of k) 6)
  where
    lift : Bool → Bool → ℕ → ℕ → ℕ
    lift t u e x = cond t (e + x) (cond u (e + x) x)

    go : (t u : Bool) → lift t u c (lift t u d at) ≡ lift t u (c + d) at
    go true u = omega arith
    go false true = omega arith
    go false false = refl

raise_twice : (c d : ℕ) (a : Answer) → raise c (raise d a) ≡ raise (c + d) a
raise_twice c d (accepted ty vs used) = ap (λ x. accepted ty x used) (values_twice c d vs)
raise_twice c d (refused k at) = ap (refused k) (place_twice c d k at)

entries : {at at' n ty tag tail : ℕ} {a a' : Answer} {l l' : Listing} → at ≡ at' → a ≡ a' → l ≡ l' → entry at n ty tag a tail l ≡ entry at' n ty tag a' tail l'
entries e f g = rw (e, f, g)

listing_twice : (c d : ℕ) (l : Listing) → raise_listing c (raise_listing d l) ≡ raise_listing (c + d) l
listing_twice c d (entry at n ty tag a tail l) = entries (omega arith) (raise_twice c d a) (listing_twice c d l)
listing_twice c d (ends p) = ap ends (omega arith)
listing_twice c d (stops k p) = ap (stops k) (omega arith)

listing_zero : (l : Listing) → raise_listing 0 l ≡ l
listing_zero (entry at n ty tag a tail l) = entries (omega arith) (raise_zero a) (listing_zero l)
listing_zero (ends p) = ap ends (omega arith)
listing_zero (stops k p) = ap (stops k) (omega arith)

-- ---- of listings: however they are bracketed

raise_joined : (c : ℕ) (l m : Listing) → joined (raise_listing c l) m ≡ raise_listing c (joined l m)
raise_joined c (entry at n ty tag a tail l) m = ap (entry (c + at) n ty tag (raise c a) tail) (raise_joined c l m)
raise_joined c (ends p) m = sym (listing_twice c p m)
raise_joined c (stops k p) m = refl

pub joined_three : (l m n : Listing) → joined (joined l m) n ≡ joined l (joined m n)
joined_three (entry at z ty tag a tail l) m n = ap (entry at z ty tag a tail) (joined_three l m n)
joined_three (ends p) m n = raise_joined p m n
joined_three (stops k p) m n = refl

-- ---- of stretches

-- a frame at the front is there whatever comes after it
front_append : {xs : List ℕ} {n : ℕ} (ys : List ℕ) → Front xs n → Front (xs ++ ys) n
front_append {xs} ys f =
    let l = length-append xs ys in
    let h = f.four in
    let k = f.held in
    record { four = omega arith; size = ap from_le (take-append-le 4 xs ys h) ∙ f.size; seven = f.seven; held = omega arith }

module _ (ts rs : List Row) where
  -- c bytes further on, all is listed c later
  raise_from : (xs : List ℕ) (c p k : ℕ) → list_from ts rs (c + p) k xs ≡ raise_listing c (list_from ts rs p k xs)
  unfolding list_from
  raise_from [] c p k = refl
  raise_from (x ∷ xs) c p (suc k) = ap (λ q. list_from ts rs q k xs) (omega arith) ∙ raise_from xs c (suc p) k
  raise_from (x ∷ xs) c p zero = go (λ k. ap (λ q. list_from ts rs q k xs) (omega arith) ∙ raise_from xs c (suc p) k)
    where
      go : ((k : ℕ) → list_from ts rs (suc (c + p)) k xs ≡ raise_listing c (list_from ts rs (suc p) k xs)) → list_from ts rs (c + p) 0 (x ∷ xs) ≡ raise_listing c (list_from ts rs p 0 (x ∷ xs))
      go ih =
          front_either ts rs (x ∷ xs)
          (λ n f.
          let g : List ℕ = take n (x ∷ xs) in
          list_frame ts rs (c + p) x xs (front_frame ts rs (c + p) (x ∷ xs) f) ∙ entries refl (sym (raise_twice c p (answer_of ts rs g))) (ih (pred (length g)))
          ∙ ap (raise_listing c) (sym (list_frame ts rs p x xs (front_frame ts rs p (x ∷ xs) f))))
          (λ k e. list_stop ts rs (c + p) x xs (e (c + p)) ∙ ap (raise_listing c) (sym (list_stop ts rs p x xs (e p))))

  join_from : (a b : List ℕ) (p k : ℕ) → k ≤ length a → Ends (list_from ts rs p k a) → list_from ts rs p k (a ++ b) ≡ joined (list_from ts rs p k a) (list_from ts rs 0 0 b)
  unfolding list_from
  join_from [] b p zero h e = ap (λ q. list_from ts rs q 0 b) (omega arith) ∙ raise_from b p 0 0
  join_from [] b p (suc k) h e = absurd (omega arith)
  join_from (x ∷ a) b p (suc k) h e = join_from a b (suc p) k (omega arith) e
  join_from (x ∷ a) b p zero h e = go (λ k l m. join_from a b (suc p) k l m)
    where
      go : ((k : ℕ) → k ≤ length a → Ends (list_from ts rs (suc p) k a) → list_from ts rs (suc p) k (a ++ b) ≡ joined (list_from ts rs (suc p) k a) (list_from ts rs 0 0 b))
          → list_from ts rs p 0 (x ∷ a ++ b) ≡ joined (list_from ts rs p 0 (x ∷ a)) (list_from ts rs 0 0 b)
      go ih =
          front_either ts rs (x ∷ a)
          (λ n f.
          let g : List ℕ = take n (x ∷ a) in
          let z : length g ≡ n = length-take-le n (x ∷ a) f.held in
          let v = f.seven in
          let w = f.held in
          let l = list_frame ts rs p x a (front_frame ts rs p (x ∷ a) f) in
          let s : take n (x ∷ (a ++ b)) ≡ g = take-append-le n (x ∷ a) b f.held in
          list_frame ts rs p x (a ++ b) (front_frame ts rs p (x ∷ (a ++ b)) (front_append b f) ∙ ap (listed_frame ts rs p) s)
          ∙ ap (entry p (length g) (type_in g) (tag_in g) (raise p (answer_of ts rs g)) (tail_in (length g) (answer_of ts rs g))) (ih (pred (length g)) (omega arith) (subst Ends l e))
          ∙ ap (λ m. joined m (list_from ts rs 0 0 b)) (sym l))
          (λ k m. absurd (subst Ends (list_stop ts rs p x a (m p)) e))

  end_from : (xs : List ℕ) (p k : ℕ) → Ends (list_from ts rs p k xs) → stops_at (list_from ts rs p k xs) ≡ p + length xs
  unfolding list_from
  end_from [] p k e = omega arith
  end_from (x ∷ xs) p (suc k) e = end_from xs (suc p) k e ∙ (omega arith)
  end_from (x ∷ xs) p zero e = go (λ k m. end_from xs (suc p) k m)
    where
      go : ((k : ℕ) → Ends (list_from ts rs (suc p) k xs) → stops_at (list_from ts rs (suc p) k xs) ≡ suc p + length xs) → stops_at (list_from ts rs p 0 (x ∷ xs)) ≡ p + suc (length xs)
      go ih =
          front_either ts rs (x ∷ xs)
          (λ n f.
          let l = list_frame ts rs p x xs (front_frame ts rs p (x ∷ xs) f) in
          ap stops_at l ∙ ih (pred (length (take n (x ∷ xs)))) (subst Ends l e) ∙ (omega arith))
          (λ k m. absurd (subst Ends (list_stop ts rs p x xs (m p)) e))

  -- a stretch that reads to its end does so at its length
  pub end_is_length : (s : List ℕ) → Ends (listing ts rs s) → stops_at (listing ts rs s) ≡ length s
  unfolding listing
  end_is_length s e = end_from s 0 0 e ∙ (omega arith)

  -- if the first stretch reads to its end, the two joined are listed as the first is, and then as the second is, later by the first's length
  pub joined_listing : (s t : List ℕ) → Ends (listing ts rs s) → listing ts rs (s ++ t) ≡ joined (listing ts rs s) (listing ts rs t)
  unfolding listing
  joined_listing s t e = join_from s t 0 0 (omega arith) e

  -- an empty stretch changes nothing, on either side
  pub empty_first : (l : Listing) → joined (listing ts rs []) l ≡ l
  unfolding listing list_from
  empty_first l = listing_zero l

  pub empty_last : (l : Listing) → joined l (listing ts rs []) ≡ l
  unfolding listing list_from
  empty_last (entry at n ty tag a tail l) = ap (entry at n ty tag a tail) (empty_last l)
  empty_last (ends p) = ap ends (omega arith)
  empty_last (stops k p) = refl
