-- What holds of the definitions in specs/Round.antt.
use Rattle.numbers.specs.Place.{Place}
use Rattle.std.specs.Prelude.{ℕ, ◌+◌, ◌≤◌, ◌≡◌, refl, Bool, true, false, cond, List, [], ◌++◌, length, take, drop, ltb, Ok, Err}
use Rattle.std.proofs.Common.{arith, zero-add, sym, ap, ap₂, ◌∙◌, take-append-drop, length-take-le, le-ltb, ltb-false}
use Rattle.std.proofs.Math.Option.{Option, none, some}
use Rattle.std.proofs.Math.Seq.{take-append_seam}
use Rattle.numbers.specs.Numbers.{Bytes}
use Rattle.numbers.proofs.Numbers.{bytes_drop}
use Rattle.numbers.proofs.PlaceLaws.{one_answer}
use Rattle.numbers.specs.declared.Refusal.{Refusal}
use Rattle.numbers.specs.declared.Refusal.TheVariants as R
use Rattle.layouts.specs.Tables.{Row}
use Rattle.framing.specs.Stretch.{listing}
use Rattle.captures.specs.Captures.{order_of, Packets, packets_from, packets_in, packets_of, bytes_in, times_in, Import, Held, tallied, within, imported, Imports, frames_in, counted, fits, cut_up, paired, header, records_of, exported_file, exported, Exports, unless}
use Rattle.captures.specs.Steps.{joined, Goods}
use Rattle.captures.proofs.StretchLaws.{starts}
use Rattle.captures.proofs.FrameLaws.{whole}
use Rattle.captures.proofs.WayLaws.{held_one, tallied_held}
use Rattle.captures.specs.ReadLaws.{Pairs, frames_of}
use Rattle.captures.proofs.ReadLaws.{packets_after, reads_file, bytes_joined, bytes_paired, times_paired, tally_paired, reads_back, writes_back, reads_stretch}
use Rattle.captures.specs.Round.{Took, Wrote}

-- ---- one answer, and nothing altered

pub imports_one : {file o a b : List ℕ} {t t1 t2 : List (List ℕ)} {r q : Import} → Imports file o t a t1 r → Imports file o t b t2 q → (a ≡ b) × (t1 ≡ t2) × (r ≡ q)
imports_one x y = (one_answer x.bytes y.bytes, one_answer x.times y.times, one_answer x.answer y.answer)

pub exports_one : {s o a b : List ℕ} {ts : List (List ℕ)} {r q : Place} → Exports s ts o a r → Exports s ts o b q → (a ≡ b) × (r ≡ q)
exports_one x y = (one_answer x.bytes y.bytes, one_answer x.answer y.answer)

-- refused, nothing that was lent differs
pub import_untouched : {file o o' : List ℕ} {t t' : List (List ℕ)} {k : Refusal} {p : ℕ} → Imports file o t o' t' (Err (k, p)) → (o' ≡ o) × (t' ≡ t)
import_untouched x = (rw (← x.answer) at x.bytes, rw (← x.answer) at x.times)

pub export_untouched : {s o o' : List ℕ} {ts : List (List ℕ)} {k : Refusal} {p : ℕ} → Exports s ts o o' (Err (k, p)) → o' ≡ o
export_untouched x = rw (← x.answer) at x.bytes

within_inv : {X : Type 0} (room rows : ℕ) (m : Import) {b n : ℕ} → within room rows m ≡ Held b n → (m ≡ Held b n → n ≤ rows → b ≤ room → X) → X
within_inv room rows (Err x) e f = absurd (let z : ◌≡◌ {A = ℕ} 0 1 = cc e in omega arith)
within_inv {X} room rows (Ok x) {b} {n} e f = go (ltb rows x.frames) (ltb room x.bytes) refl refl e
  where
    go : (c d : Bool) → ltb rows x.frames ≡ c → ltb room x.bytes ≡ d → cond c (Err (R.TableFull, 0)) (cond d (Err (R.NoRoom, 0)) (Ok x)) ≡ Held b n → X
    go true d u v w = absurd (let z : ◌≡◌ {A = ℕ} 0 1 = cc w in omega arith)
    go false true u v w = absurd (let z : ◌≡◌ {A = ℕ} 0 1 = cc w in omega arith)
    go false false u v w =
        let p = held_one {b = x.bytes} {n = x.frames} w in
        let q = p.0 in
        let r = p.1 in
        let g = ltb-false rows x.frames u in
        let h = ltb-false room x.bytes v in
        f w (omega arith) (omega arith)

pub took : {file o o' : List ℕ} {t t' : List (List ℕ)} {b n : ℕ} → Imports file o t o' t' (Held b n) → Took file o t o' t' b n
unfolding imported
took {file} {o} {o'} {t} {t'} {b} {n} x =
    within_inv (length o) (length t) (tallied 0 0 (packets_of file)) (sym x.answer)
    (λ e h k.
    let i = tallied_held (packets_of file) 0 0 e in
    let p : length (bytes_in (packets_of file)) ≡ b = (let u = i.0 in omega arith) in
    let q : length (times_in (packets_of file)) ≡ n = (let u = i.1 in omega arith) in
    record {
      told = e;
      rows = h;
      room = k;
      bytes = (rw (← x.answer, p) at x.bytes);
      times = (rw (← x.answer, q) at x.times);
    })

unless_inv : {X : Type 0} (p q : Place) {n : ℕ} → unless p q ≡ Ok n → ((m : ℕ) → p ≡ Ok m → q ≡ Ok n → X) → X
unless_inv (Err w) q e f = absurd (let z : ◌≡◌ {A = ℕ} 0 1 = cc e in omega arith)
unless_inv (Ok m) q e f = f m refl e

cond_inv : {X : Type 0} (a b : ℕ) (k : Refusal) (q : Place) {n : ℕ} → cond (ltb a b) (Err (k, 0)) q ≡ Ok n → (b ≤ a → q ≡ Ok n → X) → X
cond_inv {X} a b k q {n} e f = go (ltb a b) refl e
  where
    go : (c : Bool) → ltb a b ≡ c → cond c (Err (k, 0)) q ≡ Ok n → X
    go true u v = absurd (let z : ◌≡◌ {A = ℕ} 0 1 = cc v in omega arith)
    go false u v = f (ltb-false a b u) v

pub wrote : {s o o' : List ℕ} {ts : List (List ℕ)} {n : ℕ} → Exports s ts o o' (Ok n) → Wrote s ts o o' n
unfolding exported
wrote {s} {o} {o'} {ts} {n} x =
    unless_inv (counted 0 (cut_up s)) _ (sym (opened x.answer))
    (λ m c e. unless_inv (fits (cut_up s)) _ e
    (λ j f e'. cond_inv (length ts) (length (frames_in s (cut_up s))) R.TableFull _ e'
    (λ h e''. cond_inv (length o) (length (exported_file s ts)) R.NoRoom _ e''
    (λ k e'''.
    let w = whole s (cut_up s) 0 (omega arith) (sym (starts s)) c f in
    let l : length (exported_file s ts) ≡ n = cc e''' in
    record { joins = w.joins; goods = w.goods; rows = h; long = l; room = omega arith; bytes = (rw (← x.answer, l) at x.bytes) }))))
  where
    opened : Ok n ≡ exported (length o) s ts
        → Ok n ≡ unless (counted 0 (cut_up s)) (unless (fits (cut_up s)) (cond (ltb (length ts) (length (frames_in s (cut_up s)))) (Err (R.TableFull, 0)) (cond (ltb (length o) (length (exported_file s ts))) (Err (R.NoRoom, 0)) (Ok (length (exported_file s ts))))))
    opened e = e

-- ---- export, then import (F13.6): the same frames and the same times, wherever there is room for them

pub export_import : {s o o' o2 o2' : List ℕ} {ts t2 t2' : List (List ℕ)} {n : ℕ} {r : Import} → Pairs ts → Exports s ts o o' (Ok n) → Imports (take n o') o2 t2 o2' t2' r
    → length s ≤ length o2 → length (frames_in s (cut_up s)) ≤ length t2
    → (r ≡ Held (length s) (length (frames_in s (cut_up s)))) × (o2' ≡ s ++ drop (length s) o2)
    × (t2' ≡ take (length (frames_in s (cut_up s))) ts ++ drop (length (frames_in s (cut_up s))) t2)
unfolding imported
export_import {s} {o} {o'} {o2} {o2'} {ts} {t2} {t2'} {n} {r} ps x y h k =
    let fs : List (List ℕ) = frames_in s (cut_up s) in
    let w = wrote x in
    let f : take n o' ≡ exported_file s ts = ap (take n) w.bytes ∙ ap (λ j. take j (exported_file s ts ++ drop n o)) (sym w.long) ∙ take-append_seam (exported_file s ts) (drop n o) in
    let back : packets_of (take n o') ≡ paired ts fs = ap packets_of f ∙ reads_file ts fs w.rows ps w.goods in
    let by : bytes_in (paired ts fs) ≡ s = bytes_paired ts fs w.rows ∙ w.joins in
    let ti : times_in (paired ts fs) ≡ take (length fs) ts = times_paired ts fs w.rows in
    let tl : length (take (length fs) ts) ≡ length fs = length-take-le (length fs) ts w.rows in
    let ta : tallied 0 0 (packets_of (take n o')) ≡ Held (length s) (length fs)
    = ap (tallied 0 0) back ∙ tally_paired ts fs 0 0 w.rows ∙ ap₂ Held (zero-add (length (joined fs)) ∙ ap length w.joins) (zero-add (length fs)) in
    let u = le-ltb (length t2) (length fs) k in
    let v = le-ltb (length o2) (length s) h in (
      rw (ta, u, v) at y.answer,
      (rw (ta, u, v, back, by) at y.bytes),
      (rw (ta, u, v, back, ti, tl) at y.times),
    )

-- ---- import, then export (F13.7): the same file, if it has the header that export writes

pub import_export : {file o o' o2 o2' : List ℕ} {t t' : List (List ℕ)} {b n : ℕ} {r : Place} → Bytes file → take 24 file ≡ header → Imports file o t o' t' (Held b n)
    → Exports (take b o') (take n t') o2 o2' r → length file ≤ length o2 → (r ≡ Ok (length file)) × (o2' ≡ file ++ drop (length file) o2)
unfolding exported
import_export {file} {o} {o'} {o2} {o2'} {t} {t'} {b} {n} {r} bs hd x y room =
    let p : Packets = packets_from false 24 0 (drop 24 file) in
    let whole_file : header ++ drop 24 file ≡ file = ap (λ (z : List ℕ). z ++ drop 24 file) (sym hd) ∙ take-append-drop 24 file in
    let is : packets_of file ≡ p = ap packets_of (sym whole_file) ∙ packets_after (drop 24 file) in
    let w = took x in
    let told : tallied 0 0 p ≡ Held b n = ap (tallied 0 0) (sym is) ∙ w.told in
    let i = tallied_held p 0 0 told in
    let bl : length (bytes_in p) ≡ b = (let u = i.0 in omega arith) in
    let tl : length (times_in p) ≡ n = (let u = i.1 in omega arith) in
    let s : take b o' ≡ bytes_in p = ap (take b) w.bytes ∙ ap (λ q. take b (bytes_in q ++ drop b o)) is ∙ ap (λ j. take j (bytes_in p ++ drop b o)) (sym bl) ∙ take-append_seam (bytes_in p) (drop b o) in
    let ts : take n t' ≡ times_in p = ap (take n) w.times ∙ ap (λ q. take n (times_in q ++ drop n t)) is ∙ ap (λ j. take j (times_in p ++ drop n t)) (sym tl) ∙ take-append_seam (times_in p) (drop n t) in
    let k = reads_back false p (drop 24 file) 24 0 0 refl told in
    let e : bytes_in p ≡ joined (frames_of p) = bytes_joined p in
    let g = reads_stretch [] [] (frames_of p) k.goods in
    let s' : take b o' ≡ joined (frames_of p) = s ∙ e in
    let fr : frames_in (take b o') (cut_up (take b o')) ≡ frames_of p = ap (λ (z : List ℕ). frames_in z (cut_up z)) s' ∙ g.frames in
    let co : counted 0 (cut_up (take b o')) ≡ Ok (0 + length (frames_of p)) = ap (λ (z : List ℕ). counted 0 (cut_up z)) s' ∙ g.count 0 in
    let fi : fits (cut_up (take b o')) ≡ Ok (length (joined (frames_of p))) = ap (λ (z : List ℕ). fits (cut_up z)) s' ∙ g.fit in
    let same : exported_file (take b o') (take n t') ≡ file
    = ap₂ {C = List ℕ} (λ u v. header ++ records_of (paired u v)) ts fr ∙ ap (λ q. header ++ records_of q) k.pairs
    ∙ ap (λ (z : List ℕ). header ++ z) (writes_back p (drop 24 file) 24 0 0 (bytes_drop 24 file bs) refl told) ∙ whole_file in
    let m = k.many in
    let u = le-ltb (length (take n t')) (length (frames_of p)) (let q = ap length ts in omega arith) in
    let v = le-ltb (length o2) (length file) room in
    (rw (co, fi, same, fr, u, v) at y.answer, (rw (co, fi, same, fr, u, v) at y.bytes))

-- ---- an imported stretch reads to its end, a frame a record, whatever the tables and the order

read_in : (q : Option Bool) (file : List ℕ) {b n : ℕ} → tallied 0 0 (packets_in q file) ≡ Held b n → Goods (frames_of (packets_in q file)) × (length (frames_of (packets_in q file)) ≡ length (times_in (packets_in q file)))
unfolding tallied
read_in none file e = absurd (let z : ◌≡◌ {A = ℕ} 0 1 = cc e in omega arith)
read_in (some big) file e = let k = reads_back big (packets_from big 24 0 (drop 24 file)) (drop 24 file) 24 0 0 refl e in (k.goods, k.many)

pub imported_reads : {file o o' : List ℕ} {t t' : List (List ℕ)} {b n : ℕ} (ts rs : List Row) → Imports file o t o' t' (Held b n)
    → (counted 0 (listing ts rs (take b o')) ≡ Ok n) × (frames_in (take b o') (listing ts rs (take b o')) ≡ frames_of (packets_of file)) × (fits (listing ts rs (take b o')) ≡ Ok b)
unfolding packets_of
imported_reads {file} {o} {o'} {t} {t'} {b} {n} ts rs x =
    let p : Packets = packets_in (order_of file) file in
    let w = took x in
    let i = tallied_held p 0 0 w.told in
    let bl : length (bytes_in p) ≡ b = (let u = i.0 in omega arith) in
    let tl : length (times_in p) ≡ n = (let u = i.1 in omega arith) in
    let k = read_in (order_of file) file w.told in
    let m = k.1 in
    let s : take b o' ≡ joined (frames_of p) = ap (take b) w.bytes ∙ ap (λ j. take j (bytes_in p ++ drop b o)) (sym bl) ∙ take-append_seam (bytes_in p) (drop b o) ∙ bytes_joined p in
    let g = reads_stretch ts rs (frames_of p) k.0 in
    let jl : length (joined (frames_of p)) ≡ b = ap length (sym (bytes_joined p)) ∙ bl in (
      ap (λ (z : List ℕ). counted 0 (listing ts rs z)) s ∙ g.count 0 ∙ ap Ok (omega arith),
      ap (λ (z : List ℕ). frames_in z (listing ts rs z)) s ∙ g.frames,
      ap (λ (z : List ℕ). fits (listing ts rs z)) s ∙ g.fit ∙ ap Ok jl,
    )
