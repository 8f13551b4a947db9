-- Fields put together; and the one law that takes fields at places to the definition, over any layout.
use Rattle.std.specs.Prelude.{ℕ, ◌+◌, ◌≤◌, ◌≡◌, List, length, drop, Ok}
use Rattle.fields.specs.Layouts.{Layout, Item, items_bytes}
use Rattle.fields.specs.Values.{places}
use Rattle.fields.specs.Fields.{values_at, past_fields}

-- accepted: the values are where the items stand, and the place is after them
pub record Accepted (fs : Layout) (s : List ℕ) (a : ℕ) (is : List Item) (r : List ℕ) : Type 0 where
  pub lies : a + length (items_bytes is) ≤ length s
  pub rest : r ≡ drop (a + length (items_bytes is)) s
  pub values : values_at fs s (Ok a) ≡ places a is
  pub next : past_fields fs s (Ok a) ≡ Ok (a + length (items_bytes is))
