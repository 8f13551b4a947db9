-- What holds of the definitions in specs/ListingLaws.antt.
use Rattle.std.specs.Prelude.{ℕ, zero, suc, ◌+◌, ◌-◌, ◌≤◌, ◌<◌, refl, List, [], ◌∷◌, map, drop}
use native.Mathlib.Omega.{arith}
use Rattle.std.proofs.Common.{add-zero, ap₂, ◌∙◌, length-append, drop-drop}
use Rattle.std.proofs.Math.Path.{◌≡◌, sym, ap}
use Rattle.std.proofs.Math.ListN.{length, length-drop}
use Rattle.std.proofs.Math.Seq.{drop-length, drop-append_seam}
use borrow.Author.Tests.{lt-ltb, le-ltb, eq-eqb, ne_eqb}
use Rattle.numbers.specs.Numbers.{Bytes}
use Rattle.numbers.proofs.Numbers.{length_to_le, bytes_drop}
use Rattle.numbers.specs.Reading.{Reading, ok, bad}
use Rattle.numbers.proofs.ReadingLaws.{or_else}
use Rattle.numbers.specs.declared.Refusal.{Refusal}
use Rattle.numbers.specs.declared.Refusal.TheVariants as R
use Rattle.strings.specs.Strings.{string_bytes}
use Rattle.fields.specs.Layouts.{Layout, Item, number, string, bytes, strings, qids, box, kind, read_fields, item_bytes, items_bytes}
use Rattle.fields.proofs.LayoutLaws.{took_fields}
use Rattle.fields.specs.Values.{Value, places}
use Rattle.laying.specs.Laying.{head_width}
use Rattle.layouts.specs.Tables.{layout_dirent}
use Rattle.blocks.specs.Blocks.{entry, stop, entry_of, front, entry_at, Listing, line, ends, stops, list_from, listing}
use Rattle.blocks.specs.ListingLaws.{Front, goes_on, steps_in, stops_at}

-- ---- no record is shorter than its numbers and its counts, over any layout

abbrev least : Layout → ℕ
least [] = 0
least (f ∷ fs) = head_width f + least fs

item_least : (i : Item) → head_width (kind i) ≤ length (item_bytes i)
unfolding item_bytes string_bytes
item_least (number w n) = let l = length_to_le w n in omega arith
item_least (string bs) = simp (length-append, length_to_le) (omega arith)
item_least (bytes bs) = simp (length-append, length_to_le) (omega arith)
item_least (strings l) = simp (length-append, length_to_le) (omega arith)
item_least (qids n bs) = simp (length-append, length_to_le) (omega arith)
item_least (box cs) = simp (length-append, length_to_le) (omega arith)

items_least : (is : List Item) → least (map kind is) ≤ length (items_bytes is)
unfolding items_bytes
items_least [] = omega arith
items_least (i ∷ is) =
    let a = item_least i in
    let b = items_least is in
    let l = length-append (item_bytes i) (items_bytes is) in
    omega arith

module _ {p : ℕ} {xs : List ℕ} {is : List Item} (f : Front p xs is) where
  pub front_least : 24 ≤ length (items_bytes is)
  front_least = let e : least (map kind is) ≡ 24 = ap least f.kinds in let l = items_least is in omega arith

  pub front_held : length (items_bytes is) ≤ length xs
  front_held = let e = ap length f.whole ∙ length-append (items_bytes is) f.left in omega arith

  pub front_left : drop (length (items_bytes is)) xs ≡ f.left
  front_left = ap (drop (length (items_bytes is))) f.whole ∙ drop-append_seam (items_bytes is) f.left

  pub front_entry : front p xs ≡ entry p (places p is) (p + length (items_bytes is))
  unfolding front
  front_entry = ap (entry_of p) f.reads

-- it is an entry, or a refusal at that position
pub front_case : {X : Type 0} (p : ℕ) (xs : List ℕ) → Bytes xs → ((is : List Item) → Front p xs is → X) → ((k : Refusal) (at : ℕ) → front p xs ≡ stop k at p → X) → X
unfolding front
front_case {X} p xs b f g = go (read_fields layout_dirent p xs) refl
  where
    go : (m : Reading (List Item)) → read_fields layout_dirent p xs ≡ m → X
    go (ok is r) e = let t = took_fields layout_dirent p xs b e in f is (record { left = r; reads = e; whole = t.whole; kinds = t.good.0 })
    go (bad k at) e = g k at (ap (entry_of p) e)

-- ---- the listing, one entry on

list_entry : (p x : ℕ) (xs : List ℕ) {at next : ℕ} {vs : List Value} → front p (x ∷ xs) ≡ entry at vs next → list_from p 0 (x ∷ xs) ≡ line at vs next (list_from (suc p) (next - suc p) xs)
unfolding list_from
list_entry p x xs e = rw (e, list_from)

list_stop : (p x : ℕ) (xs : List ℕ) {k : Refusal} {at : ℕ} → front p (x ∷ xs) ≡ stop k at p → list_from p 0 (x ∷ xs) ≡ stops k at p
unfolding list_from
list_stop p x xs e = rw (e, list_from)

pub list_end : (p k : ℕ) → list_from p k [] ≡ ends p
unfolding list_from
list_end p zero = refl
list_end p (suc k) = refl

-- bytes that are to be passed are passed
skip_from : (xs : List ℕ) (p k : ℕ) → k ≤ length xs → list_from p k xs ≡ list_from (p + k) 0 (drop k xs)
unfolding list_from
skip_from xs p zero h = ap (λ q. list_from q 0 xs) (sym (add-zero p))
skip_from [] p (suc k) h = absurd (omega arith)
skip_from (x ∷ xs) p (suc k) h = skip_from xs (suc p) k (omega arith) ∙ ap (λ q. list_from q 0 (drop k xs)) (omega arith)

-- an entry at the front is listed, and the listing goes on after it
pub list_next : (p : ℕ) (xs : List ℕ) {is : List Item} → Front p xs is → list_from p 0 xs ≡ line p (places p is) (p + length (items_bytes is)) (list_from (p + length (items_bytes is)) 0 (drop (length (items_bytes is)) xs))
list_next p [] f = absurd (let a = front_least f in let b = front_held f in omega arith)
list_next p (x ∷ xs) {is} f = go (length (items_bytes is)) refl (front_least f) (front_held f)
  where
    go : (n : ℕ) → length (items_bytes is) ≡ n → 24 ≤ n → n ≤ length (x ∷ xs) → list_from p 0 (x ∷ xs) ≡ line p (places p is) (p + length (items_bytes is)) (list_from (p + length (items_bytes is)) 0 (drop (length (items_bytes is)) (x ∷ xs)))
    go zero e a b = absurd (omega arith)
    go (suc n) e a b =
        let k : p + length (items_bytes is) - suc p ≡ n = omega arith in
        let q : suc p + n ≡ p + length (items_bytes is) = omega arith in
        list_entry p x xs (front_entry f)
        ∙ ap (line p (places p is) (p + length (items_bytes is)))
        (ap (λ m. list_from (suc p) m xs) k ∙ skip_from xs (suc p) n (omega arith) ∙ ap₂ (λ m j. list_from m 0 (drop j (x ∷ xs))) q (sym e))

module _ (s : List ℕ) (b : Bytes s) where
  abbrev pub listed : ℕ → Listing
  listed p = list_from p 0 (drop p s)

  at_end_lem : (p : ℕ) → p ≡ length s → listed p ≡ goes_on (entry_at s p) listed
  unfolding entry_at list_from
  at_end_lem p e = rw (le-ltb (length s) p (omega arith), eq-eqb (length s) p (sym e), e, drop-length s)

  before_end : (p : ℕ) → p < length s → entry_at s p ≡ front p (drop p s)
  unfolding entry_at
  before_end p h = rw (le-ltb (length s) p (omega arith), ne_eqb (length s) p (λ e. omega arith))

  stopped : (p : ℕ) (xs : List ℕ) {k : Refusal} {at : ℕ} → 0 < length xs → front p xs ≡ stop k at p → list_from p 0 xs ≡ stops k at p
  stopped p [] h e = absurd (omega arith)
  stopped p (x ∷ xs) h e = list_stop p x xs e

  -- the listing is these answers in order (F11.3)
  pub list_step : (p : ℕ) → p ≤ length s → listed p ≡ goes_on (entry_at s p) listed
  list_step p h =
      or_else (length s) p (λ l. at_end_lem p (omega arith))
      (λ l.
      let d = length-drop p s in
      front_case p (drop p s) (bytes_drop p s b)
      (λ is f.
      rw (before_end p l, front_entry f) (list_next p (drop p s) f ∙ ap (λ (xs : List ℕ). line p (places p is) (p + length (items_bytes is)) (list_from (p + length (items_bytes is)) 0 xs)) (drop-drop (length (items_bytes is)) p s)))
      (λ k at e. rw (before_end p l, e) (stopped p (drop p s) (omega arith) e)))

  -- past the end it is 1, at that position
  pub past_end : (p : ℕ) → length s < p → entry_at s p ≡ stop R.Short 0 p
  unfolding entry_at
  past_end p h = rw (lt-ltb (length s) p h)

  -- a step moves on by 24 bytes or more, and stays in the block
  pub record Moved (p at next : ℕ) : Type 0 where
    pub begins : at ≡ p
    pub on : p + 24 ≤ next
    pub within : next ≤ length s

  pub moves_on : {p at next : ℕ} {vs : List Value} → entry_at s p ≡ entry at vs next → Moved p at next
  unfolding entry_at
  moves_on {p} {at} {next} {vs} e =
      or_else (length s) p (λ l. absurd (none l))
      (λ l. front_case p (drop p s) (bytes_drop p s b)
      (λ is f.
      let u = sym (front_entry f) ∙ sym (before_end p l) ∙ e in
      let x : p ≡ at = cc u in
      let y : p + length (items_bytes is) ≡ next = cc u in
      let d = length-drop p s in
      let v = front_least f in
      let w = front_held f in
      record { begins = sym x; on = omega arith; within = omega arith })
      (λ k n g. absurd (let u = sym g ∙ sym (before_end p l) ∙ e in let c : ◌≡◌ {A = ℕ} 0 1 = cc u in omega arith)))
    where
      none : length s ≤ p → ⊥
      none l =
          or_else p (length s)
          (λ m. let u = (rw (le-ltb (length s) p (omega arith), eq-eqb (length s) p (omega arith)) at e) in let c : ◌≡◌ {A = ℕ} 0 1 = cc u in omega arith)
          (λ m. let u = (rw (lt-ltb (length s) p m) at e) in let c : ◌≡◌ {A = ℕ} 0 1 = cc u in omega arith)

adds_up : (xs : List ℕ) (p k : ℕ) → Bytes xs → k ≤ length xs → p + k + steps_in (list_from p k xs) ≡ stops_at (list_from p k xs)
unfolding list_from
adds_up [] p zero b h = omega arith
adds_up [] p (suc k) b h = absurd (omega arith)
adds_up (x ∷ xs) p (suc k) b h = let i = adds_up xs (suc p) k b.1 (omega arith) in omega arith
adds_up (x ∷ xs) p zero b h = go (λ k l. adds_up xs (suc p) k b.1 l)
  where
    go : ((k : ℕ) → k ≤ length xs → suc p + k + steps_in (list_from (suc p) k xs) ≡ stops_at (list_from (suc p) k xs)) → p + 0 + steps_in (list_from p 0 (x ∷ xs)) ≡ stops_at (list_from p 0 (x ∷ xs))
    go ih =
        front_case p (x ∷ xs) b
        (λ is f.
        let v = front_least f in
        let w = front_held f in
        let i = ih (p + length (items_bytes is) - suc p) (omega arith) in
        rw (list_entry p x xs (front_entry f)) (omega arith))
        (λ k at e. rw (list_stop p x xs e) (omega arith))

pub steps_add_up : (s : List ℕ) → Bytes s → steps_in (listing s) ≡ stops_at (listing s)
unfolding listing
steps_add_up s b = let e = adds_up s 0 0 b (omega arith) in omega arith
