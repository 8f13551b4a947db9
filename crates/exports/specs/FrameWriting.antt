-- A frame written from flat values: it holds a refusal, or its body is written at 7 and a header put in front of it.
use Rattle.numbers.specs.Place.{Place}
use Rattle.std.specs.Prelude.{ℕ, ◌≡◌, List, Ok, Err}
use Rattle.std.proofs.Common.{◌∙◌, ne_eqb}
use Rattle.std.proofs.Math.Path.{ap}
use Rattle.std.proofs.Math.Option.{Option, none, some}
use Rattle.numbers.specs.declared.Refusal.TheVariants as R
use Rattle.fields.specs.Layouts.{Layout}
use Rattle.layouts.specs.Tables.{Row, lookup}
use Rattle.framing.specs.Writing.{frame_out, frame_past, head_out, head_past, HeadPut}
use Rattle.framing.proofs.WritingLaws.{frame_written}
use Rattle.flat.specs.Flat.{shows_from, FlatWritten}
use Rattle.exports.specs.Answers.{ended, Answered, wrote}
use Rattle.exports.specs.declared.Outcome.{Outcome}
use Rattle.exports.specs.Frames.{FlatWrote}

pub holds_refusal : {rows : List Row} {refusal ty tag : ℕ} {ns lent o : List ℕ} {r : Outcome} → (refusal ≡ 0 → ⊥) → r ≡ ended (Err (R.HoldsRefusal, 0))
    → FlatWrote rows refusal ty tag ns lent o o r
unfolding frame_out frame_past
holds_refusal {refusal = refusal} h x = let f = ne_eqb refusal 0 h in record { is = record { answer = rw f x; left = rw f } }

-- by the row of the type, which the frame may not have
module _ {ty tag : ℕ} {ns lent o o1 o2 : List ℕ} {e q : Place} {r : Outcome} where
  framed : (l : Option Layout) → FlatWritten l lent ns o (Ok 7) o1 e → HeadPut ty tag e o1 o2 q → r ≡ ended q
      → Answered (ended (frame_past ty tag (shows_from l lent ns) o)) (frame_out ty tag (shows_from l lent ns) o) o2 r
  unfolding frame_out frame_past
  framed none b h x = wrote (h.bytes ∙ ap (λ z. head_out ty tag z o1) b.next ∙ b.bytes) (h.next ∙ ap (λ z. head_past z o1) b.next) x
  framed (some l) b h x = let f = frame_written (record { bytes = b.bytes; next = b.next }) h in wrote f.bytes f.next x

pub frame_wrote : {rows : List Row} {refusal ty tag : ℕ} {ns lent o o1 o2 : List ℕ} {e q : Place} {r : Outcome} → refusal ≡ 0
    → FlatWritten (lookup rows ty) lent ns o (Ok 7) o1 e → HeadPut ty tag e o1 o2 q → r ≡ ended q → FlatWrote rows refusal ty tag ns lent o o2 r
frame_wrote {rows} {ty = ty} z b h x = rw z (record { is = framed (lookup rows ty) b h x })
