-- Writing one frame (F5): its fields in order, then 10, then 11 (F5.2); what success leaves in the output (F5.12), and what a refusal does (F5.13).
use Rattle.numbers.specs.Place.{Place}
use Rattle.std.specs.Prelude.{ℕ, ◌+◌, ◌≡◌, cond, List, ◌++◌, length, leb, ltb, Ok, Err}
use Rattle.numbers.specs.Numbers.{to_le}
use Rattle.numbers.specs.Reading.{Reading, ok, bad}
use Rattle.numbers.specs.Places.{put_at, past_put}
use Rattle.numbers.specs.declared.Refusal.TheVariants as R
use Rattle.fields.specs.Layouts.{Layout, Item, items_bytes}
use Rattle.fields.specs.Values.{Value, shows}
use Rattle.laying.specs.Laying.{limit}

-- size[4] type[1] tag[2] (F1.2)
abbrev pub head_bytes : ℕ → ℕ → ℕ → List ℕ
head_bytes size ty tag = to_le 4 size ++ to_le 1 ty ++ to_le 2 tag

-- the whole frame: size counts itself
unfoldable pub frame_bytes : ℕ → ℕ → List Item → List ℕ
frame_bytes ty tag is = head_bytes (7 + length (items_bytes is)) ty tag ++ items_bytes is

unfoldable pub frame_out : ℕ → ℕ → Reading (List Item) → List ℕ → List ℕ
frame_out ty tag (bad k at) o = o
frame_out ty tag (ok is r) o = cond (ltb (7 + length (items_bytes is)) limit) (put_at (frame_bytes ty tag is) o (Ok 0)) o

unfoldable pub frame_past : ℕ → ℕ → Reading (List Item) → List ℕ → Place
frame_past ty tag (bad k at) o = Err (k, at)
frame_past ty tag (ok is r) o = cond (ltb (7 + length (items_bytes is)) limit) (past_put (frame_bytes ty tag is) o (Ok 0)) (Err (R.FrameTooLong, 0))

-- what writing a frame of that type, tag and values leaves in the output, and answers: its length, or the refusal
pub record FrameWritten (fs : Layout) (ty tag : ℕ) (lent : List ℕ) (vs : List Value) (o o' : List ℕ) (q : Place) : Type 0 where
  pub bytes : o' ≡ frame_out ty tag (shows fs lent vs) o
  pub next : q ≡ frame_past ty tag (shows fs lent vs) o

abbrev pub head_out : ℕ → ℕ → Place → List ℕ → List ℕ
head_out ty tag (Err f) o = o
head_out ty tag (Ok n) o = put_at (head_bytes n ty tag) o (Ok 0)

abbrev pub head_past : Place → List ℕ → Place
head_past (Err f) o = Err f
head_past (Ok n) o = cond (leb 7 (length o)) (Ok n) (Err (R.NoRoom, 0))

-- the header put in front of a body that ends at `end`, if there is room for it; nothing where the body was refused
pub record HeadPut (ty tag : ℕ) (end : Place) (o o' : List ℕ) (q : Place) : Type 0 where
  pub bytes : o' ≡ head_out ty tag end o
  pub next : q ≡ head_past end o
