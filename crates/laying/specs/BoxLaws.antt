-- A box measured and put by its fields (F14.4): its strings first, then 18; its count and its size before them.
use Rattle.fields.specs.Values.{Slot, slot, text, Value, val, span}

-- ---- shown as plain fields are

abbrev pub value_of : Slot → Value
value_of (slot n) = val n
value_of (text x y) = span x y
