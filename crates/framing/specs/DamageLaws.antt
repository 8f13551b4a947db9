-- A damaged frame harms no other, over any two tables.
use Rattle.std.specs.Prelude.{ℕ, cond, eqb}
use Rattle.framing.specs.Stretch.{Listing, entry, ends, stops}

-- ---- what that says

-- a listing without what is listed at p
abbrev pub without : ℕ → Listing → Listing
without p (entry at n ty tag a tail l) = cond (eqb at p) (without p l) (entry at n ty tag a tail (without p l))
without p (ends q) = ends q
without p (stops k q) = stops k q
