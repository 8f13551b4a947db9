-- Demand 3, of one frame and over any table: what is written reads back.
use Rattle.std.specs.Prelude.{ℕ, suc, ◌+◌, ◌^◌, ◌<◌, ◌≡◌, List, [], ◌∷◌, ◌++◌, length, drop}
use Rattle.numbers.specs.Reading.{Reading, ok}
use Rattle.fields.specs.Layouts.{Shape, fixed, worded, Field, num, str, dat, strs, quids, boxed, Layout, Item, most, items_bytes}
use Rattle.fields.specs.Values.{Slot, slot_num, first_slot, other_slots, slots_of, Value, num_of, len_of, first_of, others_of, shows}
use Rattle.laying.specs.Laying.{limit}
use Rattle.layouts.specs.Tables.{Row}
use Rattle.layouts.specs.Bodies.{accepted}
use Rattle.framing.specs.Frames.{framed, read_frame}
use Rattle.framing.specs.Writing.{head_bytes}

abbrev pub FitsCell : Shape → Slot → Type 0
FitsCell (fixed w) v = slot_num v < 256 ^ w
FitsCell worded v = Unit {0}

abbrev pub FitsCells : List Shape → List Slot → Type 0
FitsCells [] vs = Unit {0}
FitsCells (f ∷ fs) vs = FitsCell f (first_slot vs) × FitsCells fs (other_slots vs)

-- what a typed record's values are: numbers that fit their fields; and, for reading back, data within the reading limit
abbrev pub FitsField : Field → Value → Type 0
FitsField (num w) v = num_of v < 256 ^ w
FitsField str v = Unit {0}
FitsField dat v = len_of v < suc most
FitsField strs v = Unit {0}
FitsField quids v = Unit {0}
FitsField (boxed fs) v = FitsCells fs (slots_of v)

abbrev pub Readable : Layout → List Value → Type 0
Readable [] vs = Unit {0}
Readable (f ∷ fs) vs = FitsField f (first_of vs) × Readable fs (others_of vs)

-- ---- the frame

-- what is known of a frame that was written of some items
pub record Wrote (m : Reading (List Item)) (ty tag : ℕ) (o o' : List ℕ) (n : ℕ) : Type 0 where
  pub items : List Item
  pub left : List ℕ
  pub shown : m ≡ ok items left
  pub size : n ≡ 7 + length (items_bytes items)
  pub small : n < limit
  pub front : o' ≡ head_bytes n ty tag ++ items_bytes items ++ drop n o

-- it is read from the output: the same numbers, and spans that show of it the bytes that were shown of what was lent
pub record Back (rows : List Row) (fs : Layout) (ty tag : ℕ) (lent : List ℕ) (vs : List Value) (o' : List ℕ) (n : ℕ) : Type 0 where
  pub values : List Value
  pub items : List Item
  pub reads : read_frame rows o' ≡ framed 0 tag (accepted ty values n)
  pub left : List ℕ
  pub before : shows fs lent vs ≡ ok items left
  pub after : shows fs o' values ≡ ok items []
