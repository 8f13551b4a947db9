-- Stretches joined (F6.10): what is listed of the two is made of their listings.
use Rattle.std.specs.Prelude.{ℕ, ◌+◌}
use Rattle.framing.specs.Raising.{raise}
use Rattle.framing.specs.Stretch.{Listing, entry, ends, stops}

-- c later: each frame, the positions in its answer (F6.9), and the last line; sizes, types, tags and tails are no positions
abbrev pub raise_listing : ℕ → Listing → Listing
raise_listing c (entry at n ty tag a tail l) = entry (c + at) n ty tag (raise c a) tail (raise_listing c l)
raise_listing c (ends p) = ends (c + p)
raise_listing c (stops k p) = stops k (c + p)

-- the first without its end, then the second, raised by where the first ends; where the first stops, nothing comes after it
abbrev pub joined : Listing → Listing → Listing
joined (entry at n ty tag a tail l) m = entry at n ty tag a tail (joined l m)
joined (ends p) m = raise_listing p m
joined (stops k p) m = stops k p

-- it reads to its end, refused bodies or not
abbrev pub Ends : Listing → Type 0
Ends (entry at n ty tag a tail l) = Ends l
Ends (ends p) = Unit {0}
Ends (stops k p) = ⊥
