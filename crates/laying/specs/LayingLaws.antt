-- Fields measured, and fields put, one after another; and that what is put is the definition's, over any layout.
use Rattle.numbers.specs.Place.{Place}
use Rattle.std.specs.Prelude.{ℕ, ◌+◌, ◌≤◌, ◌≡◌, List, [], ◌∷◌, ◌++◌, length, take, drop, Ok}
use Rattle.numbers.specs.Numbers.{to_le}
use Rattle.numbers.specs.Reading.{ok}
use Rattle.strings.specs.Spans.{show_span}
use Rattle.fields.specs.Layouts.{Field, num, str, dat, strs, quids, boxed, Layout, Item, item_bytes}
use Rattle.fields.specs.Values.{Value, start_of, len_of, show_part, others_of}
use Rattle.laying.specs.Laying.{head_width, head_of}

-- numbers of these widths, whatever they are, in front of a layout: one sum measures them
abbrev pub total : List ℕ → ℕ
total [] = 0
total (w ∷ ws) = w + total ws

abbrev pub numbers : List ℕ → Layout → Layout
numbers [] fs = fs
numbers (w ∷ ws) fs = num w ∷ numbers ws fs

abbrev pub after_numbers : List ℕ → List Value → List Value
after_numbers [] vs = vs
after_numbers (w ∷ ws) vs = after_numbers ws (others_of vs)

-- ---- put as in the definition

-- fields that are no numbers: a count, and bytes after it
abbrev pub Unless : Field → Type 0
Unless (num w) = ⊥
Unless str = Unit {0}
Unless dat = Unit {0}
Unless strs = Unit {0}
Unless quids = Unit {0}
Unless (boxed fs) = ⊥

-- an item that a value shows: its bytes are those of the span, after the count
pub record AfterCount (f : Field) (lent : List ℕ) (v : Value) (i : Item) : Type 0 where
  pub tail : List ℕ
  pub shows : show_span lent (start_of v) (len_of v) ≡ ok tail []
  pub size : length tail ≡ len_of v
  pub item : item_bytes i ≡ to_le (head_width f) (head_of f v) ++ tail

-- what is known of one that passed
pub record PartPassed (lent : List ℕ) (n x y : ℕ) (p : Place) (a : ℕ) : Type 0 where
  pub place : p ≡ Ok a
  pub lies : x + y ≤ length lent
  pub shows : show_part lent n x y ≡ ok (take y (drop x lent)) []
