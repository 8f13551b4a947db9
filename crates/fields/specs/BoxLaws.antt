-- The fields of a box are read by the readers of plain fields, once its count, its size and its fields are known to agree (F14.3).
use Rattle.numbers.specs.Place.{Place}
use Rattle.std.specs.Prelude.{ℕ, ◌+◌, ◌-◌, ◌≤◌, true, take, drop, Ok, Err}
use Rattle.std.proofs.Math.Path.{◌≡◌}
use mathlib.Core.List.{List}
use Rattle.std.proofs.Math.ListN.{length}
use Rattle.numbers.specs.Reading.{ok, after, raw, read_num}
use Rattle.numbers.specs.declared.Refusal.{Refusal}
use Rattle.fields.specs.Layouts.{Shape, fixed, worded, Field, num, str, boxed, Cell, amount, words, Item, number, string, agrees}
use Rattle.fields.specs.Values.{Slot, slot, text, Value, val, span, part, block}
use Rattle.fields.specs.Fields.{past_field}

-- ---- a box's fields, items and values as plain ones

abbrev pub plain_of : Shape → Field
plain_of (fixed w) = num w
plain_of worded = str

abbrev pub item_of : Cell → Item
item_of (amount w n) = number w n
item_of (words bs) = string bs

abbrev pub slot_of : Value → Slot
slot_of (val n) = slot n
slot_of (span x y) = text x y
slot_of (part c x y) = slot 0
slot_of (block l) = slot 0

-- ---- a box that was opened: where its fields begin and where they end, or why it is refused

pub record Box (fs : List Shape) (s : List ℕ) (p : Place) (m end : ℕ) : Type 0 where
  pub at : ℕ
  pub bytes : List ℕ
  pub left : List ℕ
  pub place : p ≡ Ok at
  pub within : at ≤ length s
  pub start : m ≡ at + 4
  pub held : after (read_num 2 (drop at s)) (λ n r. raw n r) ≡ ok bytes left
  pub ends : end ≡ length s - length left
  pub inner : drop m (take end s) ≡ drop 2 bytes
  pub agree : agrees fs bytes ≡ true

pub record Opened (fs : List Shape) (s : List ℕ) (p q : Place) (end : ℕ) : Type 0 where
  pub lies : end ≤ length s
  pub refuses : (k : Refusal) (at : ℕ) → q ≡ Err (k, at) → past_field (boxed fs) s p ≡ Err (k, at)
  pub opens : (m : ℕ) → q ≡ Ok m → (m ≤ end) × Box fs s p m end
