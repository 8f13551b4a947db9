-- The laws of the listing, over any two tables: it is what asking at each position gives, it moves on by at least seven bytes, and its sizes add up to where it stops.
use Prim.Native.Nat.{ℕ, ◌+◌, ◌≤◌}
use Rattle.std.proofs.Math.Path.{◌≡◌}
use mathlib.Core.List.{List}
use Rattle.std.proofs.Math.ListN.{length}
use Rattle.framing.specs.Local.{size_in}
use Rattle.framing.specs.Stretch.{Step, frame, end, stop, Listing, entry, ends, stops}

-- ---- what stands at the front

-- a frame of n bytes stands at the front
pub record Front (xs : List ℕ) (n : ℕ) : Type 0 where
  pub four : 4 ≤ length xs
  pub size : size_in xs ≡ n
  pub seven : 7 ≤ n
  pub held : n ≤ length xs

-- ---- it is what asking at each position gives

-- the answer at a position, and what is listed from the next position on
abbrev pub goes_on : Step → (ℕ → Listing) → Listing
goes_on (frame at n ty tag a tail next) l = entry at n ty tag a tail (l next)
goes_on (end p) l = ends p
goes_on (stop k p) l = stops k p

-- ---- the sizes listed add up to the position where it ends (F6.8)

abbrev pub sizes_in : Listing → ℕ
sizes_in (entry at n ty tag a tail l) = n + sizes_in l
sizes_in (ends p) = 0
sizes_in (stops k p) = 0

abbrev pub stops_at : Listing → ℕ
stops_at (entry at n ty tag a tail l) = stops_at l
stops_at (ends p) = p
stops_at (stops k p) = p
