-- Demand 3 compares the numbers and the bytes shown, not the positions (F6.9): the old records are shown in the old order.
use Rattle.std.specs.Prelude.{ℕ}
use mathlib.Core.List.{List, [], ◌∷◌}
use Rattle.std.proofs.Math.Option.{Option, none, some}
use Rattle.numbers.specs.Reading.{Reading}
use Rattle.fields.specs.Layouts.{Layout, Item}
use Rattle.fields.specs.Values.{shows}
use Rattle.layouts.specs.Tables.{Row, lookup}
use Rattle.layouts.specs.Bodies.{accepted, refused}
use Rattle.framing.specs.Stretch.{table_for, Listing, entry, ends, stops}

-- what a sound frame shows, wherever it stands and whatever its tail: its type, its tag, and the numbers and bytes of its fields
pub data Record : Type 0 where
  shown : ℕ → ℕ → Reading (List Item) → Record

-- the fields of a type; one that is unknown has none
abbrev pub fields_of : Option Layout → Layout
fields_of none = []
fields_of (some l) = l

-- the records listed of a stretch, with the stretch as the lent bytes
unfoldable pub records_in : List Row → List Row → List ℕ → Listing → List Record
records_in ts rs s (entry p n ty tag (accepted y vs used) tail l) = shown ty tag (shows (fields_of (lookup (table_for ts rs ty) ty)) s vs) ∷ records_in ts rs s l
records_in ts rs s (entry p n ty tag (refused k at) tail l) = records_in ts rs s l
records_in ts rs s (ends p) = []
records_in ts rs s (stops k p) = []
