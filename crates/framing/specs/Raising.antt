-- A frame at a position (F6.9): what it reads alone, its positions counted from the first byte of the stretch.
use Rattle.numbers.specs.Place.{Place}
use Rattle.std.specs.Prelude.{ℕ, ◌+◌, ◌-◌, cond, List, map, length, drop, leb, eqb, Ok, Err}
use Rattle.numbers.specs.Refusals.{number_of}
use Rattle.numbers.specs.declared.Refusal.{Refusal}
use Rattle.numbers.specs.declared.Refusal.TheVariants as R
use Rattle.fields.specs.Values.{Slot, slot, text, Value, val, span, part, block}
use Rattle.layouts.specs.Tables.{Row}
use Rattle.layouts.specs.Bodies.{Answer, accepted, refused, read_body}
use Rattle.framing.specs.Frames.{Frame, headless, framed, read_frame}

abbrev pub raise_slot : ℕ → Slot → Slot
raise_slot p (slot n) = slot n
raise_slot p (text x y) = text (p + x) y

-- the starts of spans and of parts are positions, those of empty ones too; numbers, lengths and counts are none
abbrev pub raise_value : ℕ → Value → Value
raise_value p (val n) = val n
raise_value p (span x y) = span (p + x) y
raise_value p (part c x y) = part c (p + x) y
raise_value p (block l) = block (map (raise_slot p) l)

-- 5 and 6 have a place, which is a position; with any other refusal it is 0 (F2.7)
abbrev pub raise_place : ℕ → Refusal → ℕ → ℕ
raise_place p k at = cond (eqb (number_of k) 5) (p + at) (cond (eqb (number_of k) 6) (p + at) at)

-- the bytes used are no position
abbrev pub raise : ℕ → Answer → Answer
raise p (accepted ty vs used) = accepted ty (map (raise_value p) vs) used
raise p (refused k at) = refused k (raise_place p k at)

-- a header has no text, so its refusal has no place
abbrev pub raise_frame : ℕ → Frame → Frame
raise_frame p (headless k at) = headless k at
raise_frame p (framed at tag a) = framed (p + at) tag (raise p a)

-- the frame that stands at p of s
unfoldable pub read_frame_at : List Row → List ℕ → ℕ → Frame
read_frame_at rows s p = raise_frame p (read_frame rows (drop p s))

-- ---- as code meets it: a frame stands from p to the end of the bytes, and its body is read in place; RaisedLaws shows that they agree

-- where the body begins, if that is held
abbrev pub body_place : ℕ → ℕ → Place
body_place len p = cond (leb (p + 7) len) (Ok (p + 7)) (Err (R.Short, 0))

-- how far the fields' end is from p
abbrev pub since : ℕ → Place → Place
since p (Ok n) = Ok (n - p)
since p (Err f) = Err f

abbrev pub used_since : ℕ → Answer → Answer
used_since p (accepted ty vs n) = accepted ty vs (n - p)
used_since p (refused k at) = refused k at

unfoldable pub body_from : List Row → ℕ → List ℕ → ℕ → Answer
body_from rows ty s p = used_since p (read_body rows ty s (body_place (length s) p))
