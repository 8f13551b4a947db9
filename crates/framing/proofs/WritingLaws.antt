-- A body written at 7 and a header put in front of it are the frame that the definition writes.
use Rattle.numbers.specs.Place.{Place}
use Prim.Native.Nat.{ℕ, ◌+◌, ◌≤◌, ◌<◌}
use native.Mathlib.Omega.{arith}
use Rattle.std.specs.Prelude.{◌≡◌, take, drop, Ok, Err}
use Rattle.std.proofs.Math.Path.{refl, ap}
use Rattle.std.proofs.Common.{sym, ◌∙◌, length-append, take-append-drop, length-take-le, drop_at}
use mathlib.Core.List.{List, [], ◌++◌, append_assoc, append-nil}
use Rattle.std.proofs.Math.ListN.{length}
use borrow.Author.Tests.{le-leb, lt-leb, lt-ltb, le-ltb}
use Rattle.numbers.specs.Numbers.{to_le}
use Rattle.numbers.proofs.Numbers.{length_to_le}
use Rattle.numbers.specs.Reading.{Reading, ok, bad}
use Rattle.numbers.proofs.ReadingLaws.{or_else}
use Rattle.numbers.specs.Places.{over, put_at, past_put, Put}
use Rattle.numbers.proofs.PlaceLaws.{put_then, length_over}
use Rattle.numbers.specs.declared.Refusal.{Refusal}
use Rattle.numbers.specs.declared.Refusal.TheVariants as R
use Rattle.fields.specs.Layouts.{Layout, Item, items_bytes}
use Rattle.fields.specs.Values.{Value, shows}
use Rattle.laying.specs.Laying.{limit, written_out, written_past, Written}
use Rattle.framing.specs.Writing.{head_bytes, frame_bytes, frame_out, frame_past, FrameWritten, head_out, head_past, HeadPut}

pub head_length : (n ty tag : ℕ) → length (head_bytes n ty tag) ≡ 7
head_length n ty tag = simp (length-append, length_to_le)

-- ---- what is put where there is room, and where there is none

pub put_fits : (bs o : List ℕ) (a : ℕ) → a + length bs ≤ length o → put_at bs o (Ok a) ≡ over o a bs
unfolding put_at
put_fits bs o a h = rw (le-leb (a + length bs) (length o) h)

pub put_full : (bs o : List ℕ) (a : ℕ) → length o < a + length bs → (put_at bs o (Ok a) ≡ o) × (past_put bs o (Ok a) ≡ Err (R.NoRoom, 0))
unfolding put_at past_put
put_full bs o a h = let f = lt-leb (a + length bs) (length o) h in (rw f, rw f)

-- ---- the header

pub head_stays : {ty tag : ℕ} {e : Place} {o : List ℕ} {k : Refusal} {at : ℕ} → e ≡ Err (k, at) → HeadPut ty tag e o o e
head_stays e = record { bytes = rw e; next = rw e }

pub head_full : {n ty tag : ℕ} {e : Place} {o : List ℕ} → e ≡ Ok n → length o < 7 → HeadPut ty tag e o o (Err (R.NoRoom, 0))
head_full {n} {ty} {tag} {o = o} f h =
    let l = head_length n ty tag in
    record { bytes = rw f (sym (put_full (head_bytes n ty tag) o 0 (omega arith)).0); next = rw (f, lt-leb 7 (length o) h) }

pub head_put : {n ty tag : ℕ} {e a b c : Place} {o o1 o2 o3 : List ℕ} → e ≡ Ok n → 7 ≤ length o → Put (to_le 4 n) o (Ok 0) o1 a → Put (to_le 1 ty) o1 a o2 b → Put (to_le 2 tag) o2 b o3 c
    → HeadPut ty tag e o o3 (Ok n)
head_put {n} {ty} {tag} {e} {o = o} f h p1 p2 p3 =
    let l = head_length n ty tag in
    let m : length (to_le 4 n ++ to_le 1 ty) ≡ 5 = simp (length-append, length_to_le) in
    let q = put_then (put_then p1 p2 refl (omega arith)) p3 refl (omega arith) in
    record { bytes = rw f q.bytes; next = rw (f, le-leb 7 (length o) h) }

-- ---- the frame

in_front : (o hd bs : List ℕ) → length hd ≡ 7 → 7 + length bs ≤ length o → over (over o 7 bs) 0 hd ≡ over o 0 (hd ++ bs)
in_front o hd bs h l =
    let d : List ℕ = drop (7 + length bs) o in
    let e : 0 + length hd ≡ 7 = omega arith in
    let f : 7 + length bs ≡ 0 + length (hd ++ bs) = rw (length-append hd bs) (omega arith) in
    let g : drop 7 (take 7 o ++ bs ++ d) ≡ bs ++ d = ap (drop 7) (append_assoc (take 7 o) bs d) ∙ drop_at (take 7 o) (bs ++ d) 7 (length-take-le 7 o (omega arith)) in
    ap (λ n. hd ++ drop n (over o 7 bs)) e ∙ ap (λ (x : List ℕ). hd ++ x) g ∙ sym (append_assoc hd bs d) ∙ ap (λ n. hd ++ bs ++ drop n o) f

pub past_fits : (bs o : List ℕ) (a : ℕ) → a + length bs ≤ length o → past_put bs o (Ok a) ≡ Ok (a + length bs)
unfolding past_put
past_fits bs o a h = rw (le-leb (a + length bs) (length o) h)

pub put_over : (o : List ℕ) (a : ℕ) (bs : List ℕ) → a + length bs ≤ length o → Put bs o (Ok a) (over o a bs) (Ok (a + length bs))
put_over o a bs h = record { bytes = sym (put_fits bs o a h); next = sym (past_fits bs o a h) }

pub over_none : (o : List ℕ) (a : ℕ) → a ≤ length o → o ≡ over o a []
over_none o a h = sym (ap (λ n. take a o ++ [] ++ drop n o) (let e : a + 0 ≡ a = omega arith in e) ∙ ap (λ (x : List ℕ). x ++ drop a o) (append-nil (take a o)) ∙ take-append-drop a o)

pub frame_length : (ty tag : ℕ) (is : List Item) → length (frame_bytes ty tag is) ≡ 7 + length (items_bytes is)
unfolding frame_bytes
frame_length ty tag is = length-append (head_bytes (7 + length (items_bytes is)) ty tag) (items_bytes is) ∙ ap (λ n. n + length (items_bytes is)) (head_length (7 + length (items_bytes is)) ty tag)

whole_frame : (o : List ℕ) (ty tag : ℕ) (is : List Item) → 0 + length (frame_bytes ty tag is) ≤ length o
    → over o 0 (head_bytes (7 + length (items_bytes is)) ty tag ++ items_bytes is) ≡ put_at (frame_bytes ty tag is) o (Ok 0)
unfolding frame_bytes
whole_frame o ty tag is h = sym (put_fits (frame_bytes ty tag is) o 0 h)

module _ {fs : Layout} {ty tag : ℕ} {lent : List ℕ} {vs : List Value} {o o1 o2 : List ℕ} {e q : Place} (w : Written fs lent vs o (Ok 7) o1 e) (h : HeadPut ty tag e o1 o2 q) where
  nothing : (k : Refusal) (at : ℕ) → e ≡ Err (k, at) → o1 ≡ o → (m : Reading (List Item)) → shows fs lent vs ≡ m → o ≡ frame_out ty tag m o → Err (k, at) ≡ frame_past ty tag m o → FrameWritten fs ty tag lent vs o o2 q
  nothing k at f g m s x y = record {
    bytes = h.bytes ∙ ap (λ z. head_out ty tag z o1) f ∙ g ∙ x ∙ ap (λ z. frame_out ty tag z o) (sym s);
    next = h.next ∙ ap (λ z. head_past z o1) f ∙ y ∙ ap (λ z. frame_past ty tag z o) (sym s);
  }

  fitting : (is : List Item) (r : List ℕ) → shows fs lent vs ≡ ok is r → 7 + length (items_bytes is) < limit → 7 + length (items_bytes is) ≤ length o → FrameWritten fs ty tag lent vs o o2 q
  unfolding frame_out frame_past
  fitting is r s x y =
      let bs : List ℕ = items_bytes is in
      let hd : List ℕ = head_bytes (7 + length bs) ty tag in
      let f = lt-ltb (7 + length bs) limit x in
      let a : o1 ≡ over o 7 bs = (rw (s, f) at w.bytes) ∙ put_fits bs o 7 y in
      let b : e ≡ Ok (7 + length bs) = (rw (s, f) at w.next) ∙ past_fits bs o 7 y in
      let l : length o1 ≡ length o = ap length a ∙ length_over o 7 bs y in
      let k : length hd ≡ 7 = head_length (7 + length bs) ty tag in
      let n = frame_length ty tag is in
      let c : o2 ≡ over o1 0 hd = h.bytes ∙ ap (λ z. head_out ty tag z o1) b ∙ put_fits hd o1 0 (omega arith) in
      let d : o2 ≡ over o 0 (hd ++ bs) = c ∙ ap (λ (z : List ℕ). over z 0 hd) a ∙ in_front o hd bs k y in
      let g : 0 + length (frame_bytes ty tag is) ≡ 7 + length bs = omega arith in
      let room : head_past (Ok (7 + length bs)) o1 ≡ Ok (7 + length bs) = rw (le-leb 7 (length o1) (omega arith)) in
      record {
        bytes = rw (s, f) (d ∙ whole_frame o ty tag is (omega arith));
        next = h.next ∙ ap (λ z. head_past z o1) b ∙ room ∙ rw (s, f) (sym (past_fits (frame_bytes ty tag is) o 0 (omega arith) ∙ ap Ok g));
      }

  pub frame_written : FrameWritten fs ty tag lent vs o o2 q
  unfolding frame_out frame_past
  frame_written = go (shows fs lent vs) refl w.bytes w.next
    where
      go : (m : Reading (List Item)) → shows fs lent vs ≡ m → o1 ≡ written_out (shows fs lent vs) o (Ok 7) → e ≡ written_past (shows fs lent vs) o (Ok 7) → FrameWritten fs ty tag lent vs o o2 q
      go (bad k at) s x y = nothing k at (rw s at y) (rw s at x) (bad k at) s refl refl
      go (ok is r) s x y =
          let bs : List ℕ = items_bytes is in
          or_else limit (7 + length bs)
          (λ l. let f = le-ltb (7 + length bs) limit l in nothing R.FrameTooLong 0 (rw (s, f) at y) (rw (s, f) at x) (ok is r) s (rw f) (rw f))
          (λ l.
          let f = lt-ltb (7 + length bs) limit l in
          or_else (7 + length bs) (length o) (λ n. fitting is r s l n)
          (λ n.
          let g = put_full bs o 7 n in
          let u = put_full (frame_bytes ty tag is) o 0 (rw (frame_length ty tag is) (omega arith)) in
          nothing R.NoRoom 0 ((rw (s, f) at y) ∙ g.1) ((rw (s, f) at x) ∙ g.0) (ok is r) s (rw f (sym u.0)) (rw f (sym u.1))))

pub frame_as : {fs : Layout} {ty ty' tag : ℕ} {lent : List ℕ} {vs : List Value} {o o1 o2 : List ℕ} {e q : Place} → ty' ≡ ty → Written fs lent vs o (Ok 7) o1 e → HeadPut ty' tag e o1 o2 q
    → FrameWritten fs ty tag lent vs o o2 q
frame_as f w h = frame_written w (rw f at h)
