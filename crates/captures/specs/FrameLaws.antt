-- A stretch that is not refused is its frames back to back, each of the size that it declares.
use Rattle.std.specs.Prelude.{ℕ, ◌+◌, List, drop}
use Rattle.std.proofs.Math.Path.{◌≡◌}
use Rattle.std.proofs.Math.ListN.{length}
use Rattle.framing.specs.Stretch.{Listing}
use Rattle.captures.specs.Captures.{frames_in}
use Rattle.captures.specs.Steps.{joined, Goods}

-- what is listed from p on, after m frames, is k frames in all
pub record Whole (s : List ℕ) (l : Listing) (p m k : ℕ) : Type 0 where
  pub count : k ≡ m + length (frames_in s l)
  pub joins : joined (frames_in s l) ≡ drop p s
  pub goods : Goods (frames_in s l)
