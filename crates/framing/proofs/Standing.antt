-- What holds of the definitions in specs/Standing.antt.
use Rattle.std.specs.Prelude.{ℕ, ◌+◌, ◌-◌, ◌≤◌, min, ◌≡◌, List, length, take, drop, Result, Ok, Err}
use Rattle.std.proofs.Common.{arith, sym, ◌∙◌, length-drop, drop_of_length-le, take_all}
use Rattle.std.proofs.Math.Nat.{min-eq_left, min-eq_right}
use Rattle.std.proofs.Math.Path.{ap}
use Rattle.std.proofs.Math.Seq.{drop-length}
use Rattle.numbers.specs.Numbers.{Bytes}
use Rattle.numbers.specs.Reading.{bad}
use Rattle.numbers.proofs.ReadingLaws.{or_else}
use Rattle.numbers.specs.declared.Refusal.{Refusal}
use Rattle.layouts.specs.Tables.{Row}
use Rattle.framing.specs.Frames.{read_header, headless, framed, read_frame}
use Rattle.framing.specs.Raising.{raise_frame, read_frame_at, body_from}
use Rattle.framing.proofs.RaisedLaws.{frame_there}
use Rattle.framing.specs.Headers.{HeadIs}
use Rattle.framing.proofs.HeaderLaws.{frame_headless, head_yes}
use Rattle.framing.specs.declared.Head.{Head}
use Rattle.framing.specs.Standing.{Why}

pub why_not : {h : Result Head Refusal} {x : Head} (k : Refusal) → h ≡ Ok x → Why h k
why_not k e = record { is = λ j f. absurd (let d = sym e ∙ f in let z : ◌≡◌ {A = ℕ} 0 1 = cc d in omega arith) }

pub why_so : {h : Result Head Refusal} {k : Refusal} → h ≡ Err k → Why h k
why_so e = record { is = λ j f. (let d = sym e ∙ f in cc d) }

-- a position past the end is the end
same_bytes : (s : List ℕ) (p : ℕ) {at : ℕ} → at ≡ min p (length s) → drop at s ≡ drop p s
same_bytes s p m =
    or_else p (length s) (λ l. ap (λ n. drop n s) (m ∙ min-eq_left l))
    (λ l. let k : length s ≤ p = omega arith in ap (λ n. drop n s) (m ∙ min-eq_right k) ∙ drop-length s ∙ sym (drop_of_length-le s k))

-- all bytes from there on are lent to the header's reader
to_the_end : (s : List ℕ) (at : ℕ) → take (length s - at) (drop at s) ≡ drop at s
to_the_end s at = take_all (length s - at) (drop at s) (simp length-drop (omega arith))

-- how the frame's own bytes lie in those that are held
pub own_held : (s : List ℕ) (p : ℕ) {at : ℕ} {g : Result Head Refusal} {x : Head} → at ≡ min p (length s) → HeadIs (take (length s - at) (drop at s)) g → g ≡ Ok x → (7 ≤ x.len) × (at + x.len ≤ length s)
own_held s p {at} m h e =
    let y = head_yes (drop at s) (rw (to_the_end s at) at h) e in
    let a = y.seven in
    let c = y.held in
    let d = length-drop at s in
    (a, omega arith)

module _ (s : List ℕ) (p : ℕ) {at : ℕ} (m : at ≡ min p (length s)) (g : Result Head Refusal) (h : HeadIs (take (length s - at) (drop at s)) g) where
  pub no_header : (rows : List Row) {k : Refusal} → g ≡ Err k → headless k 0 ≡ read_frame_at rows s p
  unfolding HeadIs read_frame_at
  no_header rows {k} e =
      let f : read_header (drop at s) ≡ bad k 0 = rw (e, to_the_end s at) at h in
      ap (raise_frame p) (frame_headless (drop at s) rows f ∙ ap (read_frame rows) (same_bytes s p m))

  pub header_there : (rows : List Row) {x : Head} → Bytes s → g ≡ Ok x → framed at x.tag (body_from rows x.ty (take (at + x.len) s) at) ≡ read_frame_at rows s p
  header_there rows {x} b e =
      let y = own_held s p m h e in
      let a = y.0 in
      let c = y.1 in
      let q : at ≡ p = omega arith in
      frame_there rows s at b (omega arith) (head_yes (drop at s) (rw (to_the_end s at) at h) e) ∙ ap (read_frame_at rows s) q
