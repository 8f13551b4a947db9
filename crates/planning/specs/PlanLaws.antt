-- How many bytes so many pieces hold, what runs on, and what the functions answer on each way.
use Prim.Native.Nat.{ℕ, ◌*◌, ◌≤◌, ◌<◌}
use Rattle.std.proofs.Math.Path.{◌≡◌}
use Rattle.std.specs.Prelude.{Bool}
use Rattle.numbers.specs.Places.{Tells}

-- ---- the fewest pieces

-- so many pieces hold so many bytes, and no fewer do
pub record Least (most n len : ℕ) : Type 0 where
  pub enough : len ≤ n * most
  pub least : (m : ℕ) → len ≤ m * most → n ≤ m

-- a look at one piece: whether it comes next where so much is left and it may hold so much
pub record Follows (start n at left most : ℕ) (r : Bool) : Type 0 where
  pub is : Tells r ((start ≡ at) × (0 < n) × (n ≤ most) × (n ≤ left)) (start ≡ at → 0 < n → n ≤ most → left < n)
