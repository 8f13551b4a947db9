-- The laws of the listing: it is what asking at each position gives, an entry moves on by at least 24 bytes, and the steps add up to where it stops.
use Rattle.std.specs.Prelude.{ℕ, ◌+◌, ◌-◌, List, ◌++◌, map}
use Rattle.std.proofs.Math.Path.{◌≡◌}
use Rattle.numbers.specs.Reading.{ok}
use Rattle.fields.specs.Layouts.{Item, kind, read_fields, items_bytes}
use Rattle.layouts.specs.Tables.{layout_dirent}
use Rattle.blocks.specs.Blocks.{Found, entry, end, stop, Listing, line, ends, stops}

-- ---- what stands at the front

pub record Front (p : ℕ) (xs : List ℕ) (is : List Item) : Type 0 where
  pub left : List ℕ
  pub reads : read_fields layout_dirent p xs ≡ ok is left
  pub whole : xs ≡ items_bytes is ++ left
  pub kinds : map kind is ≡ layout_dirent

-- ---- it is what asking at each position gives

-- the answer at a position, and what is listed from the next position on
abbrev pub goes_on : Found → (ℕ → Listing) → Listing
goes_on (entry at vs next) l = line at vs next (l next)
goes_on (end p) l = ends p
goes_on (stop k at p) l = stops k at p

-- ---- the steps add up to where it stops

abbrev pub steps_in : Listing → ℕ
steps_in (line at vs next l) = (next - at) + steps_in l
steps_in (ends p) = 0
steps_in (stops k at p) = 0

abbrev pub stops_at : Listing → ℕ
stops_at (line at vs next l) = stops_at l
stops_at (ends p) = p
stops_at (stops k at p) = p
