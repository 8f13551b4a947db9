-- Written by tools/messages from crates/frames/specs/Views.antt.
-- What the answers of the frame readers say.
use Rattle.numbers.specs.Place.{Place}
use Rattle.std.specs.Prelude.{ℕ, ◌≡◌, List, Result, Ok, Err}
use Rattle.layouts.specs.Bodies.{accepted}
use Rattle.numbers.specs.declared.Fault.{Fault}
use Rattle.numbers.specs.declared.Refusal.{Refusal}
use Rattle.numbers.specs.declared.Refusal.TheVariants as C
use Rattle.unix_requests.specs.Views.{type_t, layout_t, values_t, view_t, Tbody}
use Rattle.unix_replies.specs.Views.{type_r, values_r}
use Rattle.framing.specs.Frames.{Frame, headless, framed}
use Rattle.framing.specs.Writing.{FrameWritten}
use Rattle.unix_frames.specs.declared.Tframe.{Tframe}
use Rattle.unix_frames.specs.declared.Rframe.{Rframe}

-- what the readers answer: a request with its refusal or its message; a reply with the bytes used
abbrev pub ReadTframe : Type 0
ReadTframe = Result Tframe Refusal

abbrev pub ReadRframe : Type 0
ReadRframe = Result (Rframe × ℕ) Fault

unfoldable pub view_tframe : ReadTframe → Frame
view_tframe (Ok f) = framed f.at f.tag.0 (view_t f.msg)
view_tframe (Err k) = headless k 0

unfoldable pub view_rframe : ReadRframe → Frame
view_rframe (Ok (f, n)) = framed f.at f.tag.0 (accepted (type_r f.msg) (values_r f.msg) n)
view_rframe (Err f) = headless f.0 f.1

-- a request's body written: 16 where it holds a refusal, and the output is as it was
unfoldable pub TbodyWritten : List ℕ → ℕ → Tbody → List ℕ → List ℕ → Place → Type 0
TbodyWritten lent tag (Ok (m, n)) o o' q = FrameWritten (layout_t m) (type_t m) tag lent (values_t m) o o' q
TbodyWritten lent tag (Err f) o o' q = (o' ≡ o) × (q ≡ Err (C.HoldsRefusal, 0))

pub record TframeWritten (lent : List ℕ) (f : Tframe) (o o' : List ℕ) (q : Place) : Type 0 where
  pub is : TbodyWritten lent f.tag.0 f.msg o o' q
