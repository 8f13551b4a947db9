-- Reading one frame (F4), over any table of types. A frame is a header and a body (F1.2).
use Rattle.std.specs.Prelude.{ℕ, ◌-◌, cond, List, take, ltb}
use Rattle.numbers.specs.Reading.{Reading, ok, bad, after, read_num}
use Rattle.numbers.specs.declared.Refusal.{Refusal}
use Rattle.numbers.specs.declared.Refusal.TheVariants as R
use Rattle.layouts.specs.Tables.{Row, lookup}
use Rattle.layouts.specs.Bodies.{Answer, accepted, refused, body_of}

pub record Header : Type 0 where
  pub ty : ℕ
  pub tag : ℕ

unfoldable pub read_type_tag : List ℕ → Reading Header
read_type_tag b = after (read_num 1 b) (λ ty c. after (read_num 2 c) (λ tag d. ok (record { ty = ty; tag = tag }) d))

-- size, not below 4, type, tag (F4.2), of the first size bytes as far as they are held (F4.1); the rest is the body
unfoldable pub read_header : List ℕ → Reading Header
read_header s =
    after (read_num 4 s) (λ size r. cond (ltb size 4) (bad R.SizeBelowFour 0) (read_type_tag (take (size - 4) r)))

-- the refusal with its place where the header can't be read (F4.4); else the frame's position, and its tag beside the body's answer (F4.5)
pub data Frame : Type 0 where
  headless : Refusal → ℕ → Frame
  framed : ℕ → ℕ → Answer → Frame

-- the body by its type (F4.2). A single frame has position 0, and its spans count from its first byte, so the body begins at 7 (F4.16)
abbrev pub frame_of : List Row → Reading Header → Frame
frame_of rows (bad k at) = headless k at
frame_of rows (ok h d) = framed 0 h.tag (body_of (lookup rows h.ty) h.ty 7 d)

unfoldable pub read_frame : List Row → List ℕ → Frame
read_frame rows s = frame_of rows (read_header s)

-- a failed body refuses a reply (F4.6)
abbrev pub refused_whole : Frame → Frame
refused_whole (headless k at) = headless k at
refused_whole (framed p tag (accepted ty vs n)) = framed p tag (accepted ty vs n)
refused_whole (framed p tag (refused k at)) = headless k at
