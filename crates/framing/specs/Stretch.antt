-- A stretch is frames back to back (F6), over any two tables, of requests and of replies.
use Rattle.std.specs.Prelude.{ℕ, zero, suc, ◌+◌, ◌-◌, ◌%◌, pred, cond, List, [], ◌∷◌, length, take, drop, ltb, eqb}
use Rattle.numbers.specs.Numbers.{from_le}
use Rattle.numbers.specs.declared.Refusal.{Refusal}
use Rattle.numbers.specs.declared.Refusal.TheVariants as R
use Rattle.layouts.specs.Tables.{Row}
use Rattle.layouts.specs.Bodies.{Answer, accepted, refused}
use Rattle.framing.specs.Frames.{Frame, headless, framed, read_frame}
use Rattle.framing.specs.Raising.{raise}
use Rattle.framing.specs.Local.{size_in}

-- ---- a whole frame

-- size[4] type[1] tag[2]
abbrev pub type_in : List ℕ → ℕ
type_in f = from_le (take 1 (drop 4 f))

abbrev pub tag_in : List ℕ → ℕ
tag_in f = from_le (take 2 (drop 5 f))

-- the reader of requests if the type is even, else that of replies (F6.3)
abbrev pub table_for : List Row → List Row → ℕ → List Row
table_for ts rs ty = cond (eqb (ty % 2) 0) ts rs

-- what is listed as the answer, in both directions: the body's, or the header's refusal (F6.4)
abbrev pub answer_in : Frame → Answer
answer_in (headless k at) = refused k at
answer_in (framed p tag a) = a

unfoldable pub answer_of : List Row → List Row → List ℕ → Answer
answer_of ts rs f = answer_in (read_frame (table_for ts rs (type_in f)) f)

-- the size less the bytes used; a refused frame has none (F6.5)
abbrev pub tail_in : ℕ → Answer → ℕ
tail_in size (accepted ty vs used) = size - used
tail_in size (refused k at) = 0

-- ---- at a position

-- one frame (its position, size, type, tag, answer, tail) and the next position; the end, or a refusal, with the position
pub data Step : Type 0 where
  frame : ℕ → ℕ → ℕ → ℕ → Answer → ℕ → ℕ → Step
  end : ℕ → Step
  stop : Refusal → ℕ → Step

-- what is read of the frame alone, its positions counted from the stretch's first byte (F6.9)
abbrev pub listed_frame : List Row → List Row → ℕ → List ℕ → Step
listed_frame ts rs p f = frame p (length f) (type_in f) (tag_in f) (raise p (answer_of ts rs f)) (tail_in (length f) (answer_of ts rs f)) (p + length f)

-- of the bytes that are left: fewer than four, or than the size, are 12; a size below seven is 13, and comes first where four are there (F6.2)
unfoldable pub front : List Row → List Row → ℕ → List ℕ → Step
front ts rs p xs =
    cond (ltb (length xs) 4) (stop R.StretchCut p)
    (cond (ltb (size_in xs) 7) (stop R.StretchSize p) (cond (ltb (length xs) (size_in xs)) (stop R.StretchCut p) (listed_frame ts rs p (take (size_in xs) xs))))

-- past the end it is 12; the end, where exactly nothing is left (F6.2)
unfoldable pub frame_at : List Row → List Row → List ℕ → ℕ → Step
frame_at ts rs s p = cond (ltb (length s) p) (stop R.StretchCut p) (cond (eqb (length s) p) (end p) (front ts rs p (drop p s)))

-- ---- the listing (F6.8)

pub data Listing : Type 0 where
  entry : ℕ → ℕ → ℕ → ℕ → Answer → ℕ → Listing → Listing
  ends : ℕ → Listing
  stops : Refusal → ℕ → Listing

-- from position p on, once k more bytes of a frame are passed
unfoldable pub list_from : List Row → List Row → ℕ → ℕ → List ℕ → Listing
list_from ts rs p k [] = ends p
list_from ts rs p (suc k) (x ∷ xs) = list_from ts rs (suc p) k xs
list_from ts rs p zero (x ∷ xs) =
    elim (front ts rs p (x ∷ xs)) [
      | frame at size ty tag a tail next ↦ entry at size ty tag a tail (list_from ts rs (suc p) (pred size) xs)
      | end q ↦ ends q
      | stop j q ↦ stops j q
    ]

unfoldable pub listing : List Row → List Row → List ℕ → Listing
listing ts rs s = list_from ts rs 0 0 s
