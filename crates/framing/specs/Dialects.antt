-- Demand 3 of the functions of any dialect, over its rows, its messages, what its readers answer, and how that is seen as a frame.
use Rattle.std.specs.Prelude.{ℕ, ◌^◌, ◌<◌, ◌≡◌, List}
use Rattle.std.proofs.Math.Option.{some}
use Rattle.fields.specs.Layouts.{Layout}
use Rattle.fields.specs.Values.{Value}
use Rattle.layouts.specs.Tables.{Row, lookup}
use Rattle.layouts.specs.Bodies.{accepted}
use Rattle.framing.specs.Frames.{Frame, framed}
use Rattle.framing.specs.Stretch.{answer_in}

-- ---- a direction: its messages, each with a row, what its reader answers, and what a frame becomes whose body fails

pub record Direction : Type 1 where
  pub rows : List Row
  pub Message : Type 0
  pub type : Message → ℕ
  pub layout : Message → Layout
  pub values : Message → List Value
  pub known : (m : Message) → lookup rows (type m) ≡ some (layout m)
  pub small : (m : Message) → type m < 256 ^ 1
  pub Read : Type 0
  pub view : Read → Frame
  pub one : (r r' : Read) → view r ≡ view r' → r ≡ r'
  pub whole : Frame → Frame
  pub good : (x : Frame) (p tag ty n : ℕ) (vs : List Value) → whole x ≡ framed p tag (accepted ty vs n) → x ≡ framed p tag (accepted ty vs n)
  pub same : (x : Frame) → answer_in (whole x) ≡ answer_in x
