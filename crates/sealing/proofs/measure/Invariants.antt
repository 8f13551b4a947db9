-- The invariant: what the frames from the position on come to, after those before it, is what all of them come to.
use Prim.Native.Nat.{◌≤◌, ◌-◌}
use mathlib.Core.Path.{◌≡◌}
use lib.ListN.{length}
use Rattle.layouts.specs.Tables.{table_t, table_r}
use Rattle.framing.specs.Stretch.{listing}
use Rattle.framing.proofs.ListingLaws.{listed}
use Rattle.sealing.specs.Trailers.{extent_from, extent_of}
use Rattle.sealing.proofs.measure.Given as goal

abbrev pub invariant-loop-cut : goal.invariant-loop-cut
invariant-loop-cut l = (l.bytes ≤ length l.stretch) × (l.frames ≤ l.bytes) × (extent_from l.frames l.last (listed table_t table_r l.stretch l.bytes) ≡ extent_of (listing table_t table_r l.stretch))

abbrev pub decreases-loop-cut : goal.decreases-loop-cut
decreases-loop-cut l = length l.stretch - l.bytes
