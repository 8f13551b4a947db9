-- What a turn does, and how it begins and ends, for the two loops over a number's bytes: over the width and over any bytes.
use Rattle.std.specs.Prelude.{ℕ, suc, ◌+◌, ◌*◌, ◌-◌, ◌^◌, ◌/◌, ◌%◌, ◌≤◌, ◌<◌, ◌≡◌, refl, List, [], ◌∷◌, ◌++◌, length, take, drop, set}
use Rattle.std.specs.List.{push}
use Rattle.std.proofs.Common.{arith, ap, sym, ◌∙◌, pow-suc, lit<, append-nil, append_assoc, length-take-le, length-drop, drop-drop}
use Rattle.std.proofs.lemmas.List.{length_push}
use Rattle.std.proofs.lemmas.List.Edits.{sets-eq}
use Rattle.std.proofs.Math.Seq.{sets}
use Rattle.std.proofs.Math.ListN.{drop_of_length-le}
use Rattle.std.proofs.Math.Nat.{pow-le-pow_right, add-mul, mul_assoc, mul_comm}
use borrow.Rule.Slice.PartMut.{put_mid}
use Rattle.numbers.specs.Numbers.{from_le, to_le, Bytes}
use Rattle.numbers.specs.Places.{over}
use Rattle.numbers.proofs.Numbers.{length_to_le, bytes_take, bytes_drop, bytes_split}

-- ---- reading: the highest byte first, so that each turn multiplies what it has

-- of the number n of w bytes, the bytes that are left are the lowest, and v is what the others hold
pub record Taken (w : ℕ) (left : List ℕ) (v n : ℕ) : Type 0 where
  pub bytes : Bytes left
  pub fits : length left ≤ w
  pub bound : v < 256 ^ (w - length left)
  pub whole : n ≡ from_le left + v * 256 ^ length left

-- a byte above others
from_push : (xs : List ℕ) (b : ℕ) → from_le (xs ++ b ∷ []) ≡ from_le xs + b * 256 ^ length xs
unfolding from_le
from_push [] b = omega arith
from_push (x ∷ xs) b = rw (from_push xs b, pow-suc) (omega arith)

pub taken_begins : (s : List ℕ) (at w : ℕ) {left : List ℕ} → Bytes s → left ≡ take w (drop at s) → at + w ≤ length s → Taken w left 0 (from_le (take w (drop at s)))
taken_begins s at w g e h =
    let l = length-take-le w (drop at s) (rw length-drop (omega arith)) in
    rw e (record { bytes = bytes_take w (drop at s) (bytes_drop at s g); fits = omega (arith, l); bound = rw l (let z : w - w ≡ 0 = omega arith in rw z (lit< tt)); whole = omega arith })

pub taken_turn : {w v n : ℕ} {left : List ℕ} (rest : List ℕ) (b : ℕ) → Taken w left v n → left ≡ push rest b → Taken w rest (v * 256 + b) n
taken_turn {w} {v} {n} {left} rest b t e =
    let g = bytes_split rest (b ∷ []) (rw e at t.bytes) in
    let h = g.1.0 in
    let l : length left ≡ suc (length rest) = ap length e ∙ length_push rest b ∙ omega arith in
    let f = rw l at t.fits in
    let m : w - length rest ≡ suc (w - suc (length rest)) = omega (arith, f) in
    let u = rw l at t.bound in
    let p : 256 ^ suc (w - suc (length rest)) ≡ 256 ^ (w - suc (length rest)) * 256 = pow-suc 256 (w - suc (length rest)) in
    let q : 256 ^ suc (length rest) ≡ 256 ^ length rest * 256 = pow-suc 256 (length rest) in
    let z : from_le left + v * 256 ^ length left ≡ from_le rest + (v * 256 + b) * 256 ^ length rest
    = rw (l, e, from_push rest b, add-mul (v * 256) b (256 ^ length rest), q, mul_assoc v 256 (256 ^ length rest), mul_comm 256 (256 ^ length rest)) (omega arith) in
    record { bytes = g.0; fits = omega (arith, f); bound = rw (m, p) (omega (arith, u, h)); whole = t.whole ∙ z }

-- what a turn makes fits 64 bits
pub taken_fits : {w v n : ℕ} {left : List ℕ} (rest : List ℕ) (b : ℕ) → Taken w left v n → left ≡ push rest b → w ≤ 8 → v * 256 + b < 2 ^ 64
taken_fits {w} {v} {n} {left} rest b t e f =
    let m = (taken_turn rest b t e).bound in
    let p = pow-le-pow_right {n = 256} (lit< tt) (let k : w - length rest ≤ 8 = omega arith in k) in
    omega (arith, m, p)

pub taken_ends : {w v n : ℕ} {left : List ℕ} → Taken w left v n → length left ≡ 0 → v ≡ n
unfolding from_le
taken_ends {left = []} t h = let k = t.whole in omega (arith, k)
taken_ends {left = x ∷ xs} t h = absurd (omega arith)

-- ---- putting: the lowest byte first

-- the part that is put has the width
pub part_length : (o : List ℕ) (at w : ℕ) → at + w ≤ length o → length (take (at + w - at) (drop at o)) ≡ w
part_length o at w h =
    let e : at + w - at ≡ w = omega arith in rw e (length-take-le w (drop at o) (rw length-drop (omega arith)))

pub put_begins : (xs : List ℕ) (w x : ℕ) → length xs ≡ w → sets xs 0 (to_le (w - 0) x) ≡ to_le w x
put_begins xs w x h =
    let e : w - 0 ≡ w = omega arith in
    let l = length_to_le w x in
    rw (e, sets-eq (to_le w x) xs 0 (omega (arith, l, h)), l) (rw (drop_of_length-le xs (let z : length xs ≤ 0 + w = omega (arith, h) in z), append-nil) refl)

pub put_turn : (xs : List ℕ) (w i v : ℕ) → i < w
    → sets (set xs i (v % 256)) (i + 1) (to_le (w - (i + 1)) (v / 256)) ≡ sets xs i (to_le (w - i) v)
unfolding to_le
put_turn xs w i v h =
    let e : w - i ≡ suc (w - (i + 1)) = omega arith in
    let f : i + 1 ≡ suc i = omega arith in
    rw (e, f) refl

pub put_ends : (o xs : List ℕ) (at w i v x : ℕ) → w ≤ i → at + w ≤ length o → sets xs i (to_le (w - i) v) ≡ to_le w x
    → put_mid at (at + w - at) o xs ≡ over o at (to_le w x)
unfolding to_le
put_ends o xs at w i v x h f j =
    let e : w - i ≡ 0 = omega arith in
    let g : at + w - at ≡ w = omega arith in
    let k : xs ≡ to_le w x = rw e at j in
    rw (g, k, drop-drop w at o, length_to_le w x) (sym (append_assoc (take at o) (to_le w x) (drop (at + w) o)))
