-- What crosses to Rust for a frame: its outcome, its values in the room that is lent for them, and what writing one from such values leaves.
use Rattle.std.specs.Prelude.{ℕ, true, cond, List, eqb, Ok, Err}
use Rattle.numbers.specs.Reading.{Reading, bad}
use Rattle.numbers.specs.declared.Refusal.TheVariants as R
use Rattle.fields.specs.Layouts.{Item}
use Rattle.layouts.specs.Tables.{Row, lookup}
use Rattle.layouts.specs.Bodies.{Answer, accepted, refused}
use Rattle.framing.specs.Frames.{Frame, headless, framed}
use Rattle.framing.specs.Writing.{frame_out, frame_past}
use Rattle.flat.specs.Flat.{flat_values, stored, shows_from}
use Rattle.exports.specs.Answers.{outcome_of, ended, Answered}
use Rattle.exports.specs.declared.Outcome.{Outcome}

-- ---- reading

-- the tag stands beside a message and beside a body's refusal (F4.5); a reply whose body fails has none, since it fails whole (F4.6)
abbrev pub body_outcome : ℕ → Answer → Outcome
body_outcome tag (accepted ty vs n) = outcome_of ty tag true (Ok n)
body_outcome tag (refused k at) = outcome_of 0 tag true (Err (k, at))

abbrev pub frame_outcome : Frame → Outcome
frame_outcome (headless k at) = ended (Err (k, at))
frame_outcome (framed p tag a) = body_outcome tag a

-- what the lent values are afterwards: those of an accepted body at their front; refused, as they were
abbrev pub answer_laid : Answer → List ℕ → List ℕ
answer_laid (accepted ty vs n) before = stored before 0 (flat_values vs)
answer_laid (refused k at) before = before

abbrev pub frame_laid : Frame → List ℕ → List ℕ
frame_laid (headless k at) before = before
frame_laid (framed p tag a) before = answer_laid a before

pub record FrameRead (f : Frame) (before after : List ℕ) (r : Outcome) : Type 0 where
  pub is : Answered (frame_outcome f) (frame_laid f before) after r

-- the body of a frame that stands in a stretch, where its tag is known already (F6.9)
abbrev pub answer_outcome : Answer → Outcome
answer_outcome (accepted ty vs n) = ended (Ok n)
answer_outcome (refused k at) = ended (Err (k, at))

pub record BodyRead (a : Answer) (before after : List ℕ) (r : Outcome) : Type 0 where
  pub is : Answered (answer_outcome a) (answer_laid a before) after r

-- ---- writing

-- what a frame shows: 16 where it holds a refusal
abbrev pub flat_shows : List Row → ℕ → ℕ → List ℕ → List ℕ → Reading (List Item)
flat_shows rows refusal ty lent ns = cond (eqb refusal 0) (shows_from (lookup rows ty) lent ns) (bad R.HoldsRefusal 0)

-- refused, the output is as it was; else the frame stands at its front
pub record FlatWrote (rows : List Row) (refusal ty tag : ℕ) (ns lent o o' : List ℕ) (r : Outcome) : Type 0 where
  pub is : Answered (ended (frame_past ty tag (flat_shows rows refusal ty lent ns) o)) (frame_out ty tag (flat_shows rows refusal ty lent ns) o) o' r
