-- The invariant: what is left is enough for the path of the place that is come to, exactly if all was for that of the first.
use mathlib.Core.Path.{◌≡◌}
use lib.ListN.{length}
use lib.Dec.{leb}
use Rattle.places.specs.Places.{path}
use Rattle.places.proofs.Places.fits.Given as goal

abbrev pub invariant-loop-at : goal.invariant-loop-at
invariant-loop-at l = leb (length (path l.stretch l.self l.at)) l.left ≡ leb (length (path l.stretch l.self l.place)) l.room

abbrev pub decreases-loop-at : goal.decreases-loop-at
decreases-loop-at l = l.at
