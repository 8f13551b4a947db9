-- The ways that the reader of a stat goes, over any box: whether its counts agree, and where its fields are.
use Rattle.numbers.specs.Place.{Place}
use Rattle.std.specs.Prelude.{ℕ, ◌+◌, ◌-◌, ◌≤◌, refl, Bool, true, false, cond, List, [], ◌∷◌, ◌++◌, map, length, take, drop, eqb, Ok, Err}
use Rattle.std.proofs.Common.{arith, ap, ◌∙◌, length-take-le}
use Rattle.std.proofs.Math.Path.{◌≡◌, sym}
use Rattle.std.proofs.lemmas.List.{map-append}
use Rattle.std.proofs.Math.ListN.{length-drop}
use Rattle.std.proofs.Math.Seq.{drop-drop}
use borrow.Author.Tests.{le-leb, lt-leb, eq-eqb, ne_eqb}
use Rattle.numbers.specs.Numbers.{from_le, to_le}
use Rattle.numbers.specs.Reading.{Reading, ok, bad, after, raw, read_num}
use Rattle.numbers.proofs.ReadingLaws.{or_else, raw_short}
use Rattle.numbers.specs.Places.{Within, read_at, rest_at, NumRead, Put}
use Rattle.numbers.specs.PlaceLaws.{Held}
use Rattle.numbers.proofs.PlaceLaws.{inside, outside, held_num, num_holds, num_refused}
use Rattle.numbers.specs.declared.Fault.{Fault}
use Rattle.numbers.specs.declared.Refusal.{Refusal}
use Rattle.numbers.specs.declared.Refusal.TheVariants as R
use Rattle.fields.specs.Layouts.{Shape, fixed, worded, boxed, box, read_cells, follow, at_end, agrees, read_field}
use Rattle.fields.proofs.LayoutLaws.{agreed}
use Rattle.fields.specs.Values.{Slot, slot, text, block}
use Rattle.fields.specs.Fields.{no_slot, past_field, FieldRead}
use Rattle.fields.specs.BoxLaws.{plain_of, Opened}
use Rattle.laying.specs.Laying.{with_sizes, sized, FieldMeasured, Measured, CellsPut, Countable, Advanced}
use Rattle.laying.specs.BoxLaws.{value_of}
use Rattle.laying.proofs.BoxLaws.{box_measured, put_amount, put_cells_length}
use Rattle.layouts.specs.Plain.{stat_shape}
use Rattle.laying.proofs.LayingLaws.{drop_take}
use Rattle.stats.specs.Unix as U
use Rattle.stats.specs.Stats.{Followed, Blank, Sized}
use Rattle.stats.specs.Appending.{put_then}
use Rattle.stats.specs.Following.{length_follow, then_follow, merged}

-- ---- whether the bytes from `start` on agree

-- the size that stands there: where the fields begin after it, and what it says
record Size (s : List ℕ) (start x first : ℕ) : Type 0 where
  pub two : start + 2 ≤ length s
  pub first_is : first ≡ start + 2
  pub value : x ≡ from_le (take 2 (drop start s))
  pub inner : drop 2 (drop start s) ≡ drop first s
  pub length_is : length (drop start s) - 2 ≡ length s - first

size : {s : List ℕ} {start x first : ℕ} {p : Place} → NumRead 2 s (Ok start) x p → p ≡ Ok first → Size s start x first
size {s} {start} {x} {first} r e =
    let H = num_holds (omega arith) r e in
    let k : start ≡ H.at = (let z = H.place in cc z) in
    let f = H.fits in
    let g = H.ends in
    let d = length-drop start s in
    let h : start + 2 ≤ length s = omega arith in
    let i : first ≡ start + 2 = omega arith in
    let v = sym (rw (← k) at H.reads) ∙ held_num 2 start s h in
    record { two = h; first_is = i; value = cc v; inner = drop-drop 2 start s ∙ ap (λ n. drop n s) (sym i); length_is = omega arith }

pub first_within : {s : List ℕ} {start x first : ℕ} {p : Place} → NumRead 2 s (Ok start) x p → p ≡ Ok first → first ≤ length s
first_within r e = let S = size r e in let a = S.two in let b = S.first_is in omega arith

module _ (fs : List Shape) {s : List ℕ} {start x : ℕ} {p : Place} (l : start ≤ length s) (r : NumRead 2 s (Ok start) x p) where
  pub agree_short : {f : Fault} → p ≡ Err f → false ≡ agrees fs (drop start s)
  unfolding agrees
  agree_short e =
      let d = length-drop start s in
      or_else (start + 2) (length s)
      (λ h. absurd (let f = sym (num_refused r e).reads ∙ held_num 2 start s h in let z : ◌≡◌ {A = ℕ} 0 1 = cc f in omega arith))
      (λ h. rw (lt-leb 2 (length (drop start s)) (omega arith)))

  module _ {first : ℕ} (e : p ≡ Ok first) where
    pub agree_size : (x ≡ length s - first → ⊥) → false ≡ agrees fs (drop start s)
    unfolding agrees
    agree_size n =
        let S = size r e in
        let d = length-drop start s in
        let a = S.two in
        rw (le-leb 2 (length (drop start s)) (omega arith), ← S.value, S.length_is, ne_eqb x (length s - first) n)

    module _ (n : x ≡ length s - first) {q : Place} (f : Followed fs s (Ok first) q) where
      told : agrees fs (drop start s) ≡ at_end (follow fs (drop first s))
      unfolding agrees
      told =
          let S = size r e in
          let d = length-drop start s in
          let a = S.two in
          rw (le-leb 2 (length (drop start s)) (omega arith), ← S.value, S.length_is, eq-eqb x (length s - first) n, S.inner)

      pub agree_refused : {k : Refusal} {at : ℕ} → q ≡ Err (k, at) → false ≡ agrees fs (drop start s)
      agree_refused {k} {at} h = sym (told ∙ go (follow fs (drop first s)) (sym f.is ∙ h))
        where
          go : (m : Reading ℕ) → rest_at (length s) m ≡ Err (k, at) → at_end m ≡ false
          go (ok a t) g = absurd (let z : ◌≡◌ {A = ℕ} 0 1 = cc g in omega arith)
          go (bad j b) g = refl

      pub agree_end : {end : ℕ} {t : Bool} → q ≡ Ok end → t ≡ eqb end (length s) → t ≡ agrees fs (drop start s)
      agree_end {end} {t} h u = u ∙ sym (told ∙ go (follow fs (drop first s)) refl (sym f.is ∙ h))
        where
          go : (m : Reading ℕ) → follow fs (drop first s) ≡ m → rest_at (length s) m ≡ Ok end → at_end m ≡ eqb end (length s)
          go (ok a []) i g = let w : length s - 0 ≡ end = cc g in sym (eq-eqb end (length s) (omega arith))
          go (ok a (y ∷ ys)) i g =
              let w : length s - length (y ∷ ys) ≡ end = cc g in
              let o = first_within r e in
              let v = length_follow fs (drop first s) i in
              let d = length-drop first s in
              sym (ne_eqb end (length s) (λ z. omega arith))
          go (bad k b) i g = absurd (let z : ◌≡◌ {A = ℕ} 0 1 = cc g in omega arith)

-- ---- where its fields are

pub start_within : (s : List ℕ) {start n : ℕ} {t : Bool} → Within start n (length s) t → t ≡ true → start ≤ length (take (start + n) s)
start_within s {start} {n} i h = let l = length-take-le (start + n) s (inside i h) in omega arith

-- what agrees has room for its size
pub start_two : (fs : List Shape) (s : List ℕ) (start n : ℕ) {b : Bool} → start + n ≤ length s → b ≡ agrees fs (drop start (take (start + n) s)) → b ≡ true → start + 2 ≤ length s
start_two fs s start n a g w =
    let l = length-take-le (start + n) s a in
    let d = length-drop start (take (start + n) s) in
    let two = (agreed fs (drop start (take (start + n) s)) (sym g ∙ w)).two in
    omega arith

-- the count is cut off
pub open_cut : {fs : List Shape} {s : List ℕ} {p q : Place} {n : ℕ} {w : Fault} → NumRead 2 s p n q → q ≡ Err w → Opened fs s p q (length s)
unfolding past_field read_field
open_cut {fs} {s} {p} {q} {n} {w} r e = record { lies = omega arith; refuses = λ j b f. from p (num_refused r e).reads ∙ sym e ∙ f; opens = λ m f. absurd (let d = sym e ∙ f in let z : ◌≡◌ {A = ℕ} 0 1 = cc d in omega arith) }
  where
    from : (x : Place) → read_at (read_num 2) s x ≡ bad w.0 w.1 → past_field (boxed fs) s x ≡ Err w
    from (Ok a) f = rw f
    from (Err d) f = let g : d.0 ≡ w.0 = cc f in let h : d.1 ≡ w.1 = cc f in rw (← g, ← h)

module _ (fs : List Shape) {s : List ℕ} {p : Place} {n start : ℕ} (H : Held 2 s p n start) where
  past_is : past_field (boxed fs) s p
      ≡ rest_at (length s) (after (raw n (drop start s)) (λ bs u. cond (agrees fs bs) (after (read_cells fs (H.at + 4) (drop 2 bs)) (λ cs v. ok (box cs) u)) (bad R.StatMalformed 0)))
  unfolding past_field read_field
  past_is = rw (H.place, H.reads)

  -- its bytes are cut off
  pub open_short : {t : Bool} → Within start n (length s) t → t ≡ false → Opened fs s p (Err (R.Short, 0)) (length s)
  open_short i h =
      let a = H.fits in
      let b = H.ends in
      let c = outside i h in
      let d = length-drop start s in
      record {
        lies = omega arith;
        refuses = λ k at f. past_is ∙ rw (raw_short n (drop start s) (omega arith)) f;
        opens = λ m f. absurd (let z : ◌≡◌ {A = ℕ} 0 1 = cc f in omega arith);
      }

  module _ (a : start + n ≤ length s) {b : Bool} (g : b ≡ agrees fs (drop start (take (start + n) s))) where
    bytes_are : drop start (take (start + n) s) ≡ take n (drop start s)
    bytes_are = drop_take start n s

    held : raw n (drop start s) ≡ ok (take n (drop start s)) (drop (start + n) s)
    unfolding raw
    held = let d = length-drop start s in rw (le-leb n (length (drop start s)) (omega arith), drop-drop n start s)

    agreeing : b ≡ agrees fs (take n (drop start s))
    agreeing = g ∙ ap (agrees fs) bytes_are

    -- its counts do not agree
    pub open_wrong : b ≡ false → Opened fs s p (Err (R.StatMalformed, 0)) (length s)
    open_wrong w = record {
      lies = omega arith;
      refuses = λ k at f. past_is ∙ rw (held, sym agreeing ∙ w) f;
      opens = λ m f. absurd (let z : ◌≡◌ {A = ℕ} 0 1 = cc f in omega arith);
    }

    pub open_well : b ≡ true → Opened fs s p (Ok (start + 2)) (start + n)
    open_well w =
        let two = (agreed fs (take n (drop start s)) (sym agreeing ∙ w)).two in
        let len = length-take-le n (drop start s) (let d = length-drop start s in omega arith) in
        let x = H.fits in
        let y = H.ends in
        let d = length-drop (start + n) s in
        let z : start + 2 ≡ H.at + 4 = omega arith in
        record {
          lies = a;
          refuses = λ k at f. absurd (let z : ◌≡◌ {A = ℕ} 0 1 = cc f in omega arith);
          opens =
              λ m f.
              let k : start + 2 ≡ m = cc f in (
                omega arith,
                record {
                  at = H.at;
                  bytes = take n (drop start s);
                  left = drop (start + n) s;
                  place = H.place;
                  within = omega arith;
                  start = sym k ∙ z;
                  held = rw H.reads held;
                  ends = omega arith;
                  inner = ap (λ j. drop j (take (start + n) s)) (sym k) ∙ sym (drop-drop 2 start (take (start + n) s)) ∙ ap (drop 2) bytes_are;
                  agree = sym agreeing ∙ w;
                },
              );
        }

-- ---- a stat of 9P2000, and the longer one of 9P2000.u

-- its numbers together, then its four strings
pub stat_followed : {s : List ℕ} {p p1 p2 p3 p4 p5 : Place} → Followed (fixed 39 ∷ []) s p p1 → Followed (worded ∷ []) s p1 p2 → Followed (worded ∷ []) s p2 p3 → Followed (worded ∷ []) s p3 p4
    → Followed (worded ∷ []) s p4 p5 → Followed stat_shape s p p5
stat_followed {s} {p} a b c d e = merged s p 2 (4 ∷ 1 ∷ 4 ∷ 8 ∷ 4 ∷ 4 ∷ 4 ∷ 8 ∷ []) (worded ∷ worded ∷ worded ∷ worded ∷ []) (then_follow a (then_follow b (then_follow c (then_follow d e))))

-- then a string and its numbers together
pub unix_followed : {s : List ℕ} {p p5 p6 p7 : Place} → Followed stat_shape s p p5 → Followed (worded ∷ []) s p5 p6 → Followed (fixed 12 ∷ []) s p6 p7 → Followed U.stat_shape s p p7
unix_followed {s} {p6 = p6} a b c = then_follow a (then_follow b (merged s p6 4 (4 ∷ 4 ∷ []) [] c))

pub blank_read : {fs : List Shape} {vs : List Slot} {q k : Place} {s : List ℕ} {p : Place} → Blank fs vs q k → FieldRead (boxed fs) s p (block (map no_slot fs)) k → FieldRead (boxed fs) s p (block vs) q
blank_read b f = record { value = ap block b.value ∙ f.value; next = b.next ∙ f.next }

pub blank_more : {fs : List Shape} (gs : List Shape) {vs : List Slot} {q k : Place} → Blank fs vs q k → Blank (fs ++ gs) (vs ++ map no_slot gs) k k
blank_more {fs} gs b = record { value = ap (λ (z : List Slot). z ++ map no_slot gs) b.value ∙ sym (map-append no_slot fs gs); next = refl }

pub stat_measured : {fs : List Shape} {vs : List Slot} {lent : List ℕ} {p a e q : Place} {n : ℕ} → Advanced 4 p a → Measured (map plain_of fs) lent (map value_of vs) a e → Sized fs vs n → Countable (2 + n) e q
    → FieldMeasured (boxed fs) lent (block vs) p q
stat_measured x y z c = box_measured x y (rw z.is at c)

pub stat_put : {fs : List Shape} {vs : List Slot} {lent : List ℕ} {n : ℕ} {o0 o1 o2 o3 : List ℕ} {p0 p1 p2 p3 : Place} → Sized fs vs n
    → Put (to_le 2 (2 + n)) o0 p0 o1 p1
    → Put (to_le 2 n) o1 p1 o2 p2
    → CellsPut fs lent vs o2 p2 o3 p3
    → CellsPut (with_sizes fs) lent (sized fs vs) o0 p0 o3 p3
stat_put e a1 a2 a3 = rw (← e.is) (put_amount a1 (put_amount a2 a3))

-- over plain variables: said of the code itself, each field would carry the types of all that follow
pub fields_put : {lent : List ℕ} {x1 x2 x3 x4 x5 x6 x7 x8 x9 s1 l1 s2 l2 s3 l3 s4 l4 : ℕ} {o0 o1 o2 o3 o4 o5 o6 o7 o8 o9 o10 o11 o12 o13 : List ℕ} {p0 p1 p2 p3 p4 p5 p6 p7 p8 p9 p10 p11 p12 p13 : Place}
    → Put (to_le 2 x1) o0 p0 o1 p1
    → Put (to_le 4 x2) o1 p1 o2 p2
    → Put (to_le 1 x3) o2 p2 o3 p3
    → Put (to_le 4 x4) o3 p3 o4 p4
    → Put (to_le 8 x5) o4 p4 o5 p5
    → Put (to_le 4 x6) o5 p5 o6 p6
    → Put (to_le 4 x7) o6 p6 o7 p7
    → Put (to_le 4 x8) o7 p7 o8 p8
    → Put (to_le 8 x9) o8 p8 o9 p9
    → CellsPut (worded ∷ []) lent (text s1 l1 ∷ []) o9 p9 o10 p10
    → CellsPut (worded ∷ []) lent (text s2 l2 ∷ []) o10 p10 o11 p11
    → CellsPut (worded ∷ []) lent (text s3 l3 ∷ []) o11 p11 o12 p12
    → CellsPut (worded ∷ []) lent (text s4 l4 ∷ []) o12 p12 o13 p13
    → CellsPut stat_shape lent (slot x1 ∷ slot x2 ∷ slot x3 ∷ slot x4 ∷ slot x5 ∷ slot x6 ∷ slot x7 ∷ slot x8 ∷ slot x9 ∷ text s1 l1 ∷ text s2 l2 ∷ text s3 l3 ∷ text s4 l4 ∷ []) o0 p0 o13 p13
fields_put a1 a2 a3 a4 a5 a6 a7 a8 a9 b1 b2 b3 b4 =
    put_amount a1 (put_amount a2 (put_amount a3 (put_amount a4 (put_amount a5 (put_amount a6 (put_amount a7 (put_amount a8 (put_amount a9 (put_then refl b1 (put_then refl b2 (put_then refl b3 b4)))))))))))

pub cells_length : {fs : List Shape} {lent : List ℕ} {vs : List Slot} {o o' : List ℕ} {p q : Place} → CellsPut fs lent vs o p o' q → length o' ≡ length o
cells_length {fs} {lent} {vs} {o} {p = p} c = ap length c.bytes ∙ put_cells_length fs lent vs o p
