-- What holds of the definitions in specs/FileLaws.antt.
use Rattle.numbers.specs.Place.{Place}
use Prim.Native.Nat.{ℕ, zero, suc, ◌+◌, ◌*◌, ◌≤◌, ◌<◌}
use Rattle.std.proofs.Common.{arith, add-zero, add-one, ap₂, ◌∙◌, drop_of_length-le, drop-cons, drop-drop, take-add, length-take-le}
use Rattle.std.specs.Prelude.{◌≡◌, Bool, length, take, drop, get_or, ltb, eqb, Ok, Err}
use Rattle.std.specs.Int.{w16, w32, from_le_bytes, from_be_bytes}
use Rattle.std.proofs.Math.Path.{refl, sym, ap}
use Rattle.std.proofs.Math.Bool.{true, false, cond}
use mathlib.Core.Logic.{◌⊎◌, inl, inr}
use mathlib.Core.List.{List, [], ◌∷◌, ◌++◌}
use Rattle.std.proofs.Math.ListN.{length-drop}
use borrow.Author.Tests.{lt-ltb, le-ltb, ltb-false, eq-eqb, ne_eqb, eqb-true}
use Rattle.numbers.specs.Numbers.{from_le}
use Rattle.numbers.specs.declared.Fault.{Fault}
use Rattle.numbers.specs.declared.Refusal.TheVariants as R
use Rattle.framing.specs.Local.{size_in}
use Rattle.captures.specs.Captures.{from_order, num_in, headed, captured, time_in, frame_in, taken, Packets, packet, complete, broken, packets_from, bytes_in, times_in, Held, tallied}
use Rattle.captures.specs.Steps.{size_at, from}
use Rattle.captures.specs.FileLaws.{Taken}

-- ---- numbers

two_at : (s : List ℕ) (at : ℕ) → at + 2 ≤ length s → take 2 (drop at s) ≡ get_or s at 0 ∷ get_or s (at + 1) 0 ∷ []
two_at s at h = rw (drop-cons s at 0 (omega arith), drop-cons s (suc at) 0 (omega arith), add-one)

pub short_big : (s : List ℕ) (at : ℕ) → at + 2 ≤ length s → get_or s at 0 * 256 + get_or s (at + 1) 0 ≡ num_in true 2 at s
unfolding from_order from_le
short_big s at h = rw (two_at s at h) (omega arith)

pub short_little : (s : List ℕ) (at : ℕ) → at + 2 ≤ length s → get_or s at 0 + get_or s (at + 1) 0 * 256 ≡ num_in false 2 at s
unfolding from_order from_le
short_little s at h = rw (two_at s at h) (omega arith)

four_at : (s : List ℕ) (at : ℕ) → take 4 (drop at s) ≡ take 2 (drop at s) ++ take 2 (drop (at + 2) s)
four_at s at = take-add 2 2 (drop at s) ∙ ap (λ (x : List ℕ). take 2 (drop at s) ++ take 2 x) (drop-drop 2 at s)

module _ (s : List ℕ) (at a b : ℕ) (h : at + 4 ≤ length s) where
  pub number_big : a ≡ num_in true 2 at s → b ≡ num_in true 2 (at + 2) s → a * 65536 + b ≡ num_in true 4 at s
  unfolding from_order from_le
  number_big e f = rw (e, f, four_at s at, two_at s at (omega arith), two_at s (at + 2) (omega arith)) (omega arith)

  pub number_little : a ≡ num_in false 2 at s → b ≡ num_in false 2 (at + 2) s → a + b * 65536 ≡ num_in false 4 at s
  unfolding from_order from_le
  number_little e f = rw (e, f, four_at s at, two_at s at (omega arith), two_at s (at + 2) (omega arith)) (omega arith)

-- by the functions of the library
four_bytes_at : (s : List ℕ) (at : ℕ) → at + 4 ≤ length s → take 4 (drop at s) ≡ get_or s at 0 ∷ get_or s (at + 1) 0 ∷ get_or s (at + 2) 0 ∷ get_or s (at + 3) 0 ∷ []
four_bytes_at s at h =
    let plus_one : at + 2 + 1 ≡ at + 3 = omega arith in
    rw (take-add 2 2 (drop at s), drop-drop 2 at s, two_at s at (omega arith), two_at s (at + 2) (omega arith), plus_one) refl

module _ (s : List ℕ) (at : ℕ) {n : ℕ} where
  module _ (h : at + 2 ≤ length s) where
    pub short_from_be : n ≡ from_be_bytes w16 (get_or s at 0 ∷ get_or s (at + 1) 0 ∷ []) → n ≡ num_in true 2 at s
    unfolding from_order from_le
    short_from_be e = rw (two_at s at h) (omega arith)

    pub short_from_le : n ≡ from_le_bytes w16 (get_or s at 0 ∷ get_or s (at + 1) 0 ∷ []) → n ≡ num_in false 2 at s
    unfolding from_order from_le
    short_from_le e = rw (two_at s at h) (omega arith)

  module _ (h : at + 4 ≤ length s) where
    pub number_from_be : n ≡ from_be_bytes w32 (get_or s at 0 ∷ get_or s (at + 1) 0 ∷ get_or s (at + 2) 0 ∷ get_or s (at + 3) 0 ∷ []) → n ≡ num_in true 4 at s
    unfolding from_order from_le
    number_from_be e = rw (four_bytes_at s at h) (omega arith)

    pub number_from_le : n ≡ from_le_bytes w32 (get_or s at 0 ∷ get_or s (at + 1) 0 ∷ get_or s (at + 2) 0 ∷ get_or s (at + 3) 0 ∷ []) → n ≡ num_in false 4 at s
    unfolding from_order from_le
    number_from_le e = rw (four_bytes_at s at h) (omega arith)

-- ---- the header

module _ (big : Bool) (s : List ℕ) where
  pub head_short : length s < 24 → false ≡ headed big s
  unfolding headed
  head_short h = rw (lt-ltb (length s) 24 h)

  module _ (l : 24 ≤ length s) {m : ℕ} (e1 : m ≡ num_in big 4 0 s) where
    pub head_magic : (m ≡ 2712847316 → ⊥) → false ≡ headed big s
    unfolding headed
    head_magic h = rw (le-ltb (length s) 24 l, ← e1, ne_eqb m 2712847316 h)

    module _ {v : ℕ} (h1 : m ≡ 2712847316) (e2 : v ≡ num_in big 2 4 s) where
      pub head_major : (v ≡ 2 → ⊥) → false ≡ headed big s
      unfolding headed
      head_major h = rw (le-ltb (length s) 24 l, ← e1, eq-eqb m 2712847316 h1, ← e2, ne_eqb v 2 h)

      module _ {w : ℕ} (h2 : v ≡ 2) (e3 : w ≡ num_in big 2 6 s) where
        pub head_minor : (w ≡ 4 → ⊥) → false ≡ headed big s
        unfolding headed
        head_minor h = rw (le-ltb (length s) 24 l, ← e1, eq-eqb m 2712847316 h1, ← e2, eq-eqb v 2 h2, ← e3, ne_eqb w 4 h)

        pub head_link : {n : ℕ} → w ≡ 4 → n ≡ num_in big 4 20 s → eqb n 147 ≡ headed big s
        unfolding headed
        head_link h3 e4 = rw (le-ltb (length s) 24 l, ← e1, eq-eqb m 2712847316 h1, ← e2, eq-eqb v 2 h2, ← e3, eq-eqb w 4 h3, ← e4)

-- ---- a record that is taken

pub is_taken : (big : Bool) (xs : List ℕ) {n : ℕ} → Taken big xs n → taken big xs ≡ true
unfolding taken
is_taken big xs {n} t =
    rw (le-ltb (length xs) 16 t.sixteen, t.is, t.original, eq-eqb n n refl, le-ltb n 7 t.seven, le-ltb 65535 n t.most, le-ltb (length xs) (16 + n) t.held, eq-eqb (size_in (drop 16 xs)) n t.size)

taken_inv : (big : Bool) (xs : List ℕ) → taken big xs ≡ true → Taken big xs (captured big xs)
unfolding taken
taken_inv big xs e = go (ltb (length xs) 16) (eqb (captured big xs) (num_in big 4 12 xs)) (ltb (captured big xs) 7) (ltb 65535 (captured big xs)) (ltb (length xs) (16 + captured big xs)) refl refl refl refl refl e
  where
    no : false ≡ true → ⊥
    no f = let z : ◌≡◌ {A = ℕ} 0 1 = cc in omega arith

    go : (a b c d g : Bool) → ltb (length xs) 16 ≡ a → eqb (captured big xs) (num_in big 4 12 xs) ≡ b → ltb (captured big xs) 7 ≡ c → ltb 65535 (captured big xs) ≡ d → ltb (length xs) (16 + captured big xs) ≡ g
        → cond a false (cond b (cond c false (cond d false (cond g false (eqb (size_in (drop 16 xs)) (captured big xs))))) false) ≡ true → Taken big xs (captured big xs)
    go true b c d g x1 x2 x3 x4 x5 f = absurd (no f)
    go false false c d g x1 x2 x3 x4 x5 f = absurd (no f)
    go false true true d g x1 x2 x3 x4 x5 f = absurd (no f)
    go false true false true g x1 x2 x3 x4 x5 f = absurd (no f)
    go false true false false true x1 x2 x3 x4 x5 f = absurd (no f)
    go false true false false false x1 x2 x3 x4 x5 f = record {
      sixteen = ltb-false (length xs) 16 x1;
      is = refl;
      original = sym (eqb-true (captured big xs) (num_in big 4 12 xs) x2);
      seven = ltb-false (captured big xs) 7 x3;
      most = ltb-false 65535 (captured big xs) x4;
      held = ltb-false (length xs) (16 + captured big xs) x5;
      size = eqb-true (size_in (drop 16 xs)) (captured big xs) f;
    }

-- ---- the ways that its size is asked

module _ (big : Bool) (s : List ℕ) (at : ℕ) where
  pub size_cut : length s < at + 16 → Err (R.Capture, at) ≡ size_at big at (drop at s)
  unfolding size_at taken
  size_cut h = rw (lt-ltb (length (drop at s)) 16 (let d = length-drop at s in omega arith))

  module _ {c o : ℕ} (h : at + 16 ≤ length s) (e : c ≡ num_in big 4 (at + 8) s) (f : o ≡ num_in big 4 (at + 12) s) where
    cap : captured big (drop at s) ≡ c
    cap = ap (λ (x : List ℕ). from_order big (take 4 x)) (drop-drop 8 at s) ∙ sym e

    orig : num_in big 4 12 (drop at s) ≡ o
    orig = ap (λ (x : List ℕ). from_order big (take 4 x)) (drop-drop 12 at s) ∙ sym f

    long : 16 ≤ length (drop at s)
    long = let d = length-drop at s in omega arith

    pub size_unlike : (c ≡ o → ⊥) → Err (R.Capture, at) ≡ size_at big at (drop at s)
    unfolding size_at taken
    size_unlike g = rw (le-ltb (length (drop at s)) 16 long, cap, orig, ne_eqb c o g)

    module _ (g : c ≡ o) where
      pub size_out : (c < 7) ⊎ ((7 ≤ c) × (65535 < c)) → Err (R.Capture, at) ≡ size_at big at (drop at s)
      unfolding size_at taken
      size_out (inl i) = rw (le-ltb (length (drop at s)) 16 long, cap, orig, eq-eqb c o g, lt-ltb c 7 i)
      size_out (inr (i, j)) = rw (le-ltb (length (drop at s)) 16 long, cap, orig, eq-eqb c o g, le-ltb c 7 i, lt-ltb 65535 c j)

      pub size_small : c < 7 → Err (R.Capture, at) ≡ size_at big at (drop at s)
      size_small i = size_out (inl i)

      pub size_large : 7 ≤ c → 65535 < c → Err (R.Capture, at) ≡ size_at big at (drop at s)
      size_large i j = size_out (inr (i, j))

      module _ (i : 7 ≤ c) (j : c ≤ 65535) where
        pub size_long : length s < at + 16 + c → Err (R.Capture, at) ≡ size_at big at (drop at s)
        unfolding size_at taken
        size_long k = rw (le-ltb (length (drop at s)) 16 long, cap, orig, eq-eqb c o g, le-ltb c 7 i, le-ltb 65535 c j, lt-ltb (length (drop at s)) (16 + c) (let d = length-drop at s in omega arith))

        module _ {z : ℕ} (k : at + 16 + c ≤ length s) (w : z ≡ num_in false 4 (at + 16) s) where
          inner : size_in (drop 16 (drop at s)) ≡ z
          unfolding from_order
          inner = ap size_in (drop-drop 16 at s) ∙ sym w

          pub size_other : (z ≡ c → ⊥) → Err (R.Capture, at) ≡ size_at big at (drop at s)
          unfolding size_at taken
          size_other u = rw (le-ltb (length (drop at s)) 16 long, cap, orig, eq-eqb c o g, le-ltb c 7 i, le-ltb 65535 c j, le-ltb (length (drop at s)) (16 + c) (let d = length-drop at s in omega arith), inner, ne_eqb z c u)

          pub size_held : z ≡ c → Ok c ≡ size_at big at (drop at s)
          unfolding size_at taken
          size_held u = rw (le-ltb (length (drop at s)) 16 long, cap, orig, eq-eqb c o g, le-ltb c 7 i, le-ltb 65535 c j, le-ltb (length (drop at s)) (16 + c) (let d = length-drop at s in omega arith), inner, eq-eqb z c u)

-- ---- the records, one on

module _ (big : Bool) where
  -- bytes that are to be passed are passed
  pub pass : (xs : List ℕ) (p k : ℕ) → k ≤ length xs → packets_from big p k xs ≡ packets_from big (p + k) 0 (drop k xs)
  unfolding packets_from
  pass xs p zero h = ap (λ q. packets_from big q 0 xs) (sym (add-zero p))
  pass [] p (suc k) h = absurd (omega arith)
  pass (x ∷ xs) p (suc k) h = pass xs (suc p) k (omega arith) ∙ ap (λ q. packets_from big q 0 (drop k xs)) (omega arith)

  packet_first : (x : ℕ) (xs : List ℕ) (p : ℕ) → taken big (x ∷ xs) ≡ true → packets_from big p 0 (x ∷ xs) ≡ packet (time_in big (x ∷ xs)) (frame_in big (x ∷ xs)) (packets_from big (suc p) (15 + captured big (x ∷ xs)) xs)
  unfolding packets_from
  packet_first x xs p e = rw (e, packets_from)

  pub packet_next : (xs : List ℕ) (p n : ℕ) → Taken big xs n → packets_from big p 0 xs ≡ packet (time_in big xs) (take n (drop 16 xs)) (packets_from big (p + (16 + n)) 0 (drop (16 + n) xs))
  packet_next [] p n t = absurd (let h = t.sixteen in omega arith)
  packet_next (x ∷ xs) p n t =
      let h = t.held in
      let e : 16 + n ≡ suc (15 + n) = omega arith in
      let d : drop (16 + n) (x ∷ xs) ≡ drop (15 + n) xs = ap (λ m. drop m (x ∷ xs)) e in
      packet_first x xs p (is_taken big (x ∷ xs) t)
      ∙ ap₂ {C = Packets} (λ m r. packet (time_in big (x ∷ xs)) (take m (drop 16 (x ∷ xs))) r) t.is
      (ap (λ m. packets_from big (suc p) (15 + m) xs) t.is ∙ pass xs (suc p) (15 + n) (omega arith) ∙ ap (λ q. packets_from big q 0 (drop (15 + n) xs)) (omega arith) ∙ ap (packets_from big (p + (16 + n)) 0) (sym d))

  packet_none : (xs : List ℕ) (p : ℕ) → 0 < length xs → taken big xs ≡ false → packets_from big p 0 xs ≡ broken p
  unfolding packets_from
  packet_none [] p h e = absurd (omega arith)
  packet_none (x ∷ xs) p h e = rw (e, packets_from)

  size_inv : (xs : List ℕ) (p : ℕ) {X : Type 0} {r : Place} → r ≡ size_at big p xs
      → (Taken big xs (captured big xs) → r ≡ Ok (captured big xs) → X) → (taken big xs ≡ false → r ≡ Err (R.Capture, p) → X) → X
  unfolding size_at
  size_inv xs p {X} {r} e f g = go (taken big xs) refl e
    where
      go : (b : Bool) → taken big xs ≡ b → r ≡ cond b (Ok (captured big xs)) (Err (R.Capture, p)) → X
      go true t u = f (taken_inv big xs t) u
      go false t u = g t u

  -- the end, a record, or nothing that is taken
  pub packet_case : {X : Type 0} (xs : List ℕ) (p : ℕ) → (xs ≡ [] → packets_from big p 0 xs ≡ complete → X)
      → ((n : ℕ) → Taken big xs n → packets_from big p 0 xs ≡ packet (time_in big xs) (take n (drop 16 xs)) (packets_from big (p + (16 + n)) 0 (drop (16 + n) xs)) → X)
      → (packets_from big p 0 xs ≡ broken p → X) → X
  unfolding packets_from
  packet_case [] p f g h = f refl refl
  packet_case {X} (x ∷ xs) p f g h = go (taken big (x ∷ xs)) refl
    where
      go : (b : Bool) → taken big (x ∷ xs) ≡ b → X
      go true t = let k = taken_inv big (x ∷ xs) t in g (captured big (x ∷ xs)) k (packet_next (x ∷ xs) p (captured big (x ∷ xs)) k)
      go false t = h (packet_none (x ∷ xs) p (omega arith) t)

  module _ (s : List ℕ) (p : ℕ) where
    -- what the code knows of a record whose size it has
    pub record Stands (n : ℕ) : Type 0 where
      pub held : p + 16 + n ≤ length s
      pub seven : 7 ≤ n
      pub is : from big s p ≡ packet (num_in big 4 p s ∷ num_in big 4 (p + 4) s ∷ []) (take n (drop (p + 16) s)) (from big s (p + 16 + n))

    pub stands : {r : Place} {n : ℕ} → r ≡ size_at big p (drop p s) → r ≡ Ok n → Stands n
    stands {r} {n} e f = size_inv (drop p s) p e (λ t u. yes t (let k : captured big (drop p s) ≡ n = cc in k)) (λ t u. absurd (let z : ◌≡◌ {A = ℕ} 0 1 = cc in omega arith))
      where
        yes : Taken big (drop p s) (captured big (drop p s)) → captured big (drop p s) ≡ n → Stands n
        yes t k =
            let u : Taken big (drop p s) n = rw k at t in
            let h = u.held in
            let d = length-drop p s in
            let a : p + (16 + n) ≡ p + 16 + n = omega arith in
            record {
              held = omega arith;
              seven = u.seven;
              is =
                  packet_next (drop p s) p n u
                  ∙ rw (drop-drop 4 p s, drop-drop 16 p s, drop-drop (16 + n) p s, a);
            }

    pub none_stands : {r : Place} {x : Fault} → p < length s → r ≡ size_at big p (drop p s) → r ≡ Err x → (x ≡ (R.Capture, p)) × (from big s p ≡ broken p)
    none_stands {r} {x} h e f =
        size_inv (drop p s) p e (λ t u. absurd (let z : ◌≡◌ {A = ℕ} 0 1 = cc in omega arith))
        (λ t u. (let k : ◌≡◌ {A = Fault} x (R.Capture, p) = cc (sym f ∙ u) in k, packet_none (drop p s) p (let d = length-drop p s in omega arith) t))

    pub none_left : length s ≤ p → from big s p ≡ complete
    unfolding packets_from
    none_left h = rw (drop_of_length-le s h)

-- ---- what the loops make of it

module _ (big : Bool) (s : List ℕ) (p : ℕ) where
  module _ {n : ℕ} (x : Stands big s p n) where
    frame_length : length (take n (drop (p + 16) s)) ≡ n
    frame_length =
        let h = x.held in
        let d = length-drop (p + 16) s in
        length-take-le n (drop (p + 16) s) (omega arith)

    pub tally_turn : (b m : ℕ) → tallied (b + n) (m + 1) (from big s (p + 16 + n)) ≡ tallied b m (from big s p)
    unfolding tallied
    tally_turn b m = sym (ap (tallied b m) x.is ∙ ap (λ k. tallied (b + k) (m + 1) (from big s (p + 16 + n))) frame_length)

    pub bytes_turn : bytes_in (from big s p) ≡ take n (drop (p + 16) s) ++ bytes_in (from big s (p + 16 + n))
    unfolding bytes_in
    bytes_turn = rw x.is

    pub times_turn : times_in (from big s p) ≡ (num_in big 4 p s ∷ num_in big 4 (p + 4) s ∷ []) ∷ times_in (from big s (p + 16 + n))
    unfolding times_in
    times_turn = rw x.is

  module _ (x : from big s p ≡ broken p) where
    pub tally_stop : (b m : ℕ) → Err (R.Capture, p) ≡ tallied b m (from big s p)
    unfolding tallied
    tally_stop b m = rw x

    pub nothing_broken : (bytes_in (from big s p) ≡ []) × (times_in (from big s p) ≡ [])
    unfolding bytes_in times_in
    nothing_broken = (rw x, rw x)

  module _ (x : from big s p ≡ complete) where
    pub tally_end : (b m : ℕ) → Held b m ≡ tallied b m (from big s p)
    unfolding tallied
    tally_end b m = rw x

    pub nothing_left : (bytes_in (from big s p) ≡ []) × (times_in (from big s p) ≡ [])
    unfolding bytes_in times_in
    nothing_left = (rw x, rw x)
