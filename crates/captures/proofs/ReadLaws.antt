-- What holds of the definitions in specs/ReadLaws.antt.
use Rattle.std.specs.Prelude.{ℕ, suc, ◌+◌, ◌^◌, ◌≤◌, ◌<◌, ◌≡◌, refl, Bool, true, false, drop, get_or, Ok}
use native.Mathlib.Omega.{arith}
use Rattle.std.proofs.Math.Path.{sym, ap, ap₂}
use Rattle.std.proofs.Common.{◌∙◌, length-drop, take-append-drop, length-take-le, take_at, drop_at, drop-drop, take-take, le-ltb}
use mathlib.Core.List.{List, [], ◌∷◌, ◌++◌, append_assoc, append-nil}
use Rattle.std.proofs.Math.Option.{some}
use Rattle.std.proofs.Math.ListN.{length, take, length-append}
use Rattle.std.proofs.lemmas.List.{take-append-le}
use Rattle.std.proofs.Math.Seq.{take-append_seam, drop-append_seam}
use Rattle.numbers.specs.Numbers.{Bytes, from_le, to_le}
use Rattle.numbers.proofs.Numbers.{length_to_le, from_to, to_from, bytes_take, bytes_drop}
use Rattle.layouts.specs.Tables.{Row}
use Rattle.framing.specs.Local.{size_in}
use Rattle.framing.specs.Stretch.{list_from, listing}
use Rattle.framing.specs.ListingLaws.{Front}
use Rattle.framing.proofs.ListingLaws.{list_next}
use Rattle.captures.specs.Captures.{from_order, num_in, headed, order_of, time_in, Packets, packet, complete, broken, packets_from, packets_of, bytes_in, times_in, Held, tallied, frames_in, counted, fits, paired, header, record_bytes, records_of, file_of}
use Rattle.captures.specs.Steps.{joined, Good, Goods}
use Rattle.captures.specs.FileLaws.{Taken}
use Rattle.captures.proofs.FileLaws.{packet_next, packet_case}
use Rattle.captures.proofs.PutLaws.{head_length}
use Rattle.captures.specs.ReadLaws.{Pair, Pairs, Read, frames_of, Back, Reads}

-- a number at the front, and what stands after it
peel : (w at n : ℕ) (xs ys : List ℕ) → drop at xs ≡ to_le w n ++ ys → n < 256 ^ w → (num_in false w at xs ≡ n) × (drop (at + w) xs ≡ ys)
unfolding from_order
peel w at n xs ys e h = (
  ap (λ (z : List ℕ). from_le (take w z)) e ∙ ap from_le (take_at (to_le w n) ys w (length_to_le w n)) ∙ from_to w n h,
  sym (drop-drop w at xs) ∙ ap (drop w) e ∙ drop_at (to_le w n) ys w (length_to_le w n),
)

pub reads_record : (t f ys : List ℕ) → Pair t → Good f → Read (record_bytes (get_or t 0 0) (get_or t 1 0) f ++ ys) t f ys
reads_record t f ys p g =
    let a : ℕ = p.seconds in
    let b : ℕ = p.micros in
    let n : ℕ = length f in
    let h = g.most in
    let v = g.seven in
    let xs : List ℕ = record_bytes (get_or t 0 0) (get_or t 1 0) f ++ ys in
    let e : xs ≡ to_le 4 a ++ (to_le 4 b ++ (to_le 4 n ++ (to_le 4 n ++ (f ++ ys)))) = rw p.is (simp append_assoc) in
    let p1 = peel 4 0 a xs (to_le 4 b ++ (to_le 4 n ++ (to_le 4 n ++ (f ++ ys)))) e p.first in
    let p2 = peel 4 4 b xs (to_le 4 n ++ (to_le 4 n ++ (f ++ ys))) p1.1 p.second in
    let p3 = peel 4 8 n xs (to_le 4 n ++ (f ++ ys)) p2.1 (omega arith) in
    let p4 = peel 4 12 n xs (f ++ ys) p3.1 (omega arith) in
    let d : drop 16 xs ≡ f ++ ys = p4.1 in
    let k = length-append f ys in
    let m = ap length d in
    let o = length-drop 16 xs in
    record {
      took = record {
        sixteen = omega arith;
        is = p3.0;
        original = p4.0;
        seven = v;
        most = h;
        held = omega arith;
        size = ap size_in d ∙ ap from_le (take-append-le 4 f ys (omega arith)) ∙ g.size;
      };
      time = ap₂ {C = List ℕ} (λ x y. x ∷ y ∷ []) p1.0 p2.0 ∙ sym p.is;
      frame = ap (take n) d ∙ take-append_seam f ys;
      after = sym (drop-drop n 16 xs) ∙ ap (drop n) d ∙ drop-append_seam f ys;
    }

-- ---- the records and the file, written and then read

pub reads_records : (ts fs : List (List ℕ)) (p : ℕ) → length fs ≤ length ts → Pairs ts → Goods fs → packets_from false p 0 (records_of (paired ts fs)) ≡ paired ts fs
unfolding records_of paired packets_from
reads_records ts [] p h x y = refl
reads_records [] (f ∷ fs) p h x y = absurd (omega arith)
reads_records (t ∷ ts) (f ∷ fs) p h (x, xs) (y, ys) =
    let r = reads_record t f (records_of (paired ts fs)) x y in
    packet_next false (record_bytes (get_or t 0 0) (get_or t 1 0) f ++ records_of (paired ts fs)) p (length f) r.took
    ∙ rw (r.time, r.frame, r.after, reads_records ts fs (p + (16 + length f)) (omega arith) xs ys)

head_back : (r : List ℕ) → headed false (header ++ r) ≡ true
unfolding headed from_order from_le to_le
head_back r =
    let l = length-append header r in
    let h = head_length in
    rw (le-ltb (length (header ++ r)) 24 (omega arith))

order_back : (r : List ℕ) → order_of (header ++ r) ≡ some false
unfolding order_of
order_back r = rw (head_back r)

pub packets_after : (r : List ℕ) → packets_of (header ++ r) ≡ packets_from false 24 0 r
unfolding packets_of
packets_after r = rw (order_back r) (ap (packets_from false 24 0) (drop_at header r 24 head_length))

pub reads_file : (ts fs : List (List ℕ)) → length fs ≤ length ts → Pairs ts → Goods fs → packets_of (file_of (paired ts fs)) ≡ paired ts fs
reads_file ts fs h x y = packets_after (records_of (paired ts fs)) ∙ reads_records ts fs 24 h x y

pub bytes_joined : (r : Packets) → bytes_in r ≡ joined (frames_of r)
unfolding bytes_in frames_of
bytes_joined (packet t f r) = ap (λ (x : List ℕ). f ++ x) (bytes_joined r)
bytes_joined complete = refl
bytes_joined (broken p) = refl

pub bytes_paired : (ts fs : List (List ℕ)) → length fs ≤ length ts → bytes_in (paired ts fs) ≡ joined fs
unfolding bytes_in paired
bytes_paired ts [] h = refl
bytes_paired [] (f ∷ fs) h = absurd (omega arith)
bytes_paired (t ∷ ts) (f ∷ fs) h = ap (λ (x : List ℕ). f ++ x) (bytes_paired ts fs (omega arith))

pub times_paired : (ts fs : List (List ℕ)) → length fs ≤ length ts → times_in (paired ts fs) ≡ take (length fs) ts
unfolding times_in paired
times_paired ts [] h = refl
times_paired [] (f ∷ fs) h = absurd (omega arith)
times_paired (t ∷ ts) (f ∷ fs) h = ap (λ (x : List (List ℕ)). t ∷ x) (times_paired ts fs (omega arith))

pub tally_paired : (ts fs : List (List ℕ)) (b n : ℕ) → length fs ≤ length ts → tallied b n (paired ts fs) ≡ Held (b + length (joined fs)) (n + length fs)
unfolding tallied paired
tally_paired ts [] b n h = ap₂ Held (omega arith) (omega arith)
tally_paired [] (f ∷ fs) b n h = absurd (omega arith)
tally_paired (t ∷ ts) (f ∷ fs) b n h =
    let l = length-append f (joined fs) in
    tally_paired ts fs (b + length f) (n + 1) (omega arith) ∙ ap₂ Held (omega arith) (omega arith)

pub frame_good : {big : Bool} {xs : List ℕ} {n : ℕ} → Taken big xs n → Good (take n (drop 16 xs))
frame_good {big} {xs} {n} t =
    let h = t.held in
    let s = t.seven in
    let d = length-drop 16 xs in
    let l : length (take n (drop 16 xs)) ≡ n = length-take-le n (drop 16 xs) (omega arith) in
    let u = t.most in
    record { seven = omega arith; most = omega arith; size = ap from_le (take-take 4 n (drop 16 xs) (omega arith)) ∙ t.size ∙ sym l }

pub reads_back : (big : Bool) (r : Packets) (xs : List ℕ) (p b n : ℕ) {b' n' : ℕ} → r ≡ packets_from big p 0 xs → tallied b n r ≡ Held b' n' → Back big xs r
unfolding tallied times_in paired frames_of
reads_back big (broken q) xs p b n e h = absurd (let z : ◌≡◌ {A = ℕ} 0 1 = cc h in omega arith)
reads_back big complete xs p b n e h = record { goods = tt; pairs = refl; many = refl }
reads_back big (packet t f r) xs p b n e h =
    packet_case big xs p (λ u v. absurd (let w = e ∙ v in let z : ◌≡◌ {A = ℕ} 0 1 = cc w in omega arith))
    (λ m t' v.
    let w = e ∙ v in
    let fr : f ≡ take m (drop 16 xs) = cc w in
    let re : r ≡ packets_from big (p + (16 + m)) 0 (drop (16 + m) xs) = cc w in
    let i = reads_back big r (drop (16 + m) xs) (p + (16 + m)) (b + length f) (n + 1) re h in
    record { goods = (rw fr (frame_good t'), i.goods); pairs = ap (packet t f) i.pairs; many = ap suc i.many })
    (λ v. absurd (let w = e ∙ v in let z : ◌≡◌ {A = ℕ} 0 1 = cc w in omega arith))

-- the bytes of a record that was read, in the little order
four_back : (at : ℕ) (xs : List ℕ) → Bytes xs → at + 4 ≤ length xs → to_le 4 (num_in false 4 at xs) ≡ take 4 (drop at xs)
unfolding from_order
four_back at xs b h =
    let d = length-drop at xs in
    let l : length (take 4 (drop at xs)) ≡ 4 = length-take-le 4 (drop at xs) (omega arith) in
    ap (λ w. to_le w (from_le (take 4 (drop at xs)))) (sym l) ∙ to_from (take 4 (drop at xs)) (bytes_take 4 (drop at xs) (bytes_drop at xs b))

split_off : (n at : ℕ) (xs : List ℕ) → take n (drop at xs) ++ drop (at + n) xs ≡ drop at xs
split_off n at xs = ap (λ (y : List ℕ). take n (drop at xs) ++ y) (sym (drop-drop n at xs)) ∙ take-append-drop n (drop at xs)

record_back : (xs : List ℕ) (n : ℕ) → Bytes xs → Taken false xs n
    → record_bytes (get_or (time_in false xs) 0 0) (get_or (time_in false xs) 1 0) (take n (drop 16 xs)) ++ drop (16 + n) xs ≡ xs
record_back xs n b t =
    let h = t.held in
    let d = length-drop 16 xs in
    let l : length (take n (drop 16 xs)) ≡ n = length-take-le n (drop 16 xs) (omega arith) in
    let b3 : to_le 4 n ≡ take 4 (drop 8 xs) = ap (to_le 4) (sym t.is) ∙ four_back 8 xs b (omega arith) in
    let b4 : to_le 4 n ≡ take 4 (drop 12 xs) = ap (to_le 4) (sym t.original) ∙ four_back 12 xs b (omega arith) in
    let b1 = four_back 0 xs b (omega arith) in
    let b2 = four_back 4 xs b (omega arith) in
    let e : record_bytes (get_or (time_in false xs) 0 0) (get_or (time_in false xs) 1 0) (take n (drop 16 xs)) ≡ take 4 (drop 0 xs) ++ take 4 (drop 4 xs) ++ take 4 (drop 8 xs) ++ take 4 (drop 12 xs) ++ take n (drop 16 xs)
    = same (take n (drop 16 xs)) b1 b2 (ap (to_le 4) l ∙ b3) (ap (to_le 4) l ∙ b4) in
    ap (λ (y : List ℕ). y ++ drop (16 + n) xs) e
    ∙ simp append_assoc (rw (split_off n 16 xs, split_off 4 12 xs, split_off 4 8 xs, split_off 4 4 xs, split_off 4 0 xs))
  where
    same : {a a' c c' d d' g g' : List ℕ} (f : List ℕ) → a ≡ a' → c ≡ c' → d ≡ d' → g ≡ g' → a ++ c ++ d ++ g ++ f ≡ a' ++ c' ++ d' ++ g' ++ f
    same f x y z w = rw (x, y, z, w)

pub writes_back : (r : Packets) (xs : List ℕ) (p b n : ℕ) {b' n' : ℕ} → Bytes xs → r ≡ packets_from false p 0 xs → tallied b n r ≡ Held b' n' → records_of r ≡ xs
unfolding tallied records_of
writes_back (broken q) xs p b n y e h = absurd (let z : ◌≡◌ {A = ℕ} 0 1 = cc h in omega arith)
writes_back complete xs p b n y e h =
    packet_case false xs p (λ u v. sym u) (λ m t' v. absurd (let w = e ∙ v in let z : ◌≡◌ {A = ℕ} 0 1 = cc w in omega arith))
    (λ v. absurd (let w = e ∙ v in let z : ◌≡◌ {A = ℕ} 0 1 = cc w in omega arith))
writes_back (packet t f r) xs p b n y e h =
    packet_case false xs p (λ u v. absurd (let w = e ∙ v in let z : ◌≡◌ {A = ℕ} 0 1 = cc w in omega arith))
    (λ m t' v.
    let w = e ∙ v in
    let ti : t ≡ time_in false xs = cc w in
    let fr : f ≡ take m (drop 16 xs) = cc w in
    let re : r ≡ packets_from false (p + (16 + m)) 0 (drop (16 + m) xs) = cc w in
    rw (writes_back r (drop (16 + m) xs) (p + (16 + m)) (b + length f) (n + 1) (bytes_drop (16 + m) xs y) re h, ti, fr) (record_back xs m y t'))
    (λ v. absurd (let w = e ∙ v in let z : ◌≡◌ {A = ℕ} 0 1 = cc w in omega arith))

module _ (ts rs : List Row) where
  pub reads_joined : (pre : List ℕ) (fs : List (List ℕ)) → Goods fs → Reads (pre ++ joined fs) (list_from ts rs (length pre) 0 (joined fs)) fs
  unfolding frames_in counted fits list_from
  reads_joined pre [] g = record { frames = refl; count = λ m. ap Ok (omega arith); fit = ap (λ (x : List ℕ). Ok (length x)) (sym (append-nil pre)) }
  reads_joined pre (f ∷ fs) (g, gs) =
      let i = reads_joined (pre ++ f) fs gs in
      let la = length-append f (joined fs) in
      let s7 = g.seven in
      let most = g.most in
      let fr : Front (f ++ joined fs) (length f) = record { four = omega arith; size = ap from_le (take-append-le 4 f (joined fs) (omega arith)) ∙ g.size; seven = s7; held = omega arith } in
      let q : length pre + length f ≡ length (pre ++ f) = sym (length-append pre f) in
      let a : pre ++ (f ++ joined fs) ≡ pre ++ f ++ joined fs = sym (append_assoc pre f (joined fs)) in
      let d : take (length f) (drop (length pre) (pre ++ (f ++ joined fs))) ≡ f = ap (take (length f)) (drop-append_seam pre (f ++ joined fs)) ∙ take-append_seam f (joined fs) in
      let l = rw (drop-append_seam f (joined fs), q) at (list_next ts rs (length pre) (length f) (f ++ joined fs) fr) in
      record {
        frames = ap (frames_in (pre ++ (f ++ joined fs))) l ∙ ap₂ {C = List (List ℕ)} (λ x y. x ∷ y) d (ap (λ (x : List ℕ). frames_in x (list_from ts rs (length (pre ++ f)) 0 (joined fs))) a ∙ i.frames);
        count = λ m. ap (counted m) l ∙ i.count (m + 1) ∙ ap Ok (omega arith);
        fit = ap fits l ∙ rw (le-ltb 65535 (length f) most) (i.fit ∙ ap (λ (x : List ℕ). Ok (length x)) (sym a));
      }

  pub reads_stretch : (fs : List (List ℕ)) → Goods fs → Reads (joined fs) (listing ts rs (joined fs)) fs
  unfolding listing
  reads_stretch fs g = reads_joined [] fs g
