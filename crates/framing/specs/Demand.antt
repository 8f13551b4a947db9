-- Demand 3, of whole stretches and over any two tables: lengthening frames after their last field, and putting unknown ones between them, leaves the old listing as it was.
use Prim.Native.Nat.{ℕ, ◌+◌, ◌-◌, ◌≤◌}
use Rattle.std.specs.Prelude.{◌≡◌}
use mathlib.Core.List.{List, [], ◌++◌}
use Rattle.std.proofs.Math.Option.{none}
use Rattle.std.proofs.Math.ListN.{length, take, drop}
use Rattle.numbers.specs.Numbers.{to_le}
use Rattle.numbers.specs.declared.Refusal.TheVariants as R
use Rattle.fields.specs.Values.{Value}
use Rattle.layouts.specs.Tables.{Row, lookup}
use Rattle.layouts.specs.Bodies.{accepted, refused}
use Rattle.framing.specs.Raising.{raise}
use Rattle.framing.specs.Local.{size_in}
use Rattle.framing.specs.Stretch.{type_in, tag_in, table_for, answer_of, Listing, entry, ends}

-- ---- what is done to a stretch

-- a whole frame: its size is its length
pub record Whole (f : List ℕ) : Type 0 where
  pub seven : 7 ≤ length f
  pub sized : size_in f ≡ length f

-- g is f with bytes added anywhere after the last field, and the size raised to match: up to there nothing else differs
pub record Lengthened (f g : List ℕ) (used : ℕ) : Type 0 where
  pub whole : Whole g
  pub same : drop 4 (take used g) ≡ drop 4 (take used f)
  pub longer : length f ≤ length g

-- a whole frame of a type that is unknown to the reader that it goes to
pub record Strange (ts rs : List Row) (f : List ℕ) : Type 0 where
  pub whole : Whole f
  pub unknown : lookup (table_for ts rs (type_in f)) (type_in f) ≡ none

-- whole frames back to back, all accepted, each lengthened or left as it was; and strange frames put between
pub data Edited (ts rs : List Row) : List ℕ → List ℕ → Type 0 where
  nothing : Edited ts rs [] []
  grown : {old new : List ℕ} (f g : List ℕ) (ty used : ℕ) (vs : List Value) → Whole f → answer_of ts rs f ≡ accepted ty vs used → Lengthened f g used → Edited ts rs old new
      → Edited ts rs (f ++ old) (g ++ new)
  added : {old new : List ℕ} (f : List ℕ) → Strange ts rs f → Edited ts rs old new → Edited ts rs old (f ++ new)

-- the old listing: the old frames in order
unfoldable pub old_lines : {ts rs : List Row} {old new : List ℕ} → ℕ → Edited ts rs old new → Listing
old_lines p nothing = ends p
old_lines p (grown f g ty used vs w a l e) = entry p (length f) (type_in f) (tag_in f) (raise p (accepted ty vs used)) (length f - used) (old_lines (p + length f) e)
old_lines p (added f s e) = old_lines p e

-- the new one: the old records in the old order, the bytes added counted as tail, and each frame put between refused with 3, with its type and tag
unfoldable pub new_lines : {ts rs : List Row} {old new : List ℕ} → ℕ → Edited ts rs old new → Listing
new_lines p nothing = ends p
new_lines p (grown f g ty used vs w a l e) =
    entry p (length g) (type_in f) (tag_in f) (raise p (accepted ty vs used)) (length f - used + (length g - length f)) (new_lines (p + length g) e)
new_lines p (added f s e) = entry p (length f) (type_in f) (tag_in f) (refused R.UnknownType 0) 0 (new_lines (p + length f) e)

-- a frame with a copy of itself after its last field, inside its size
unfoldable pub repeated : List ℕ → List ℕ
repeated f = to_le 4 (length f + length f) ++ (drop 4 f ++ f)
