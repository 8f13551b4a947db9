-- Of a file: its numbers, its header, and its records one by one.
use Prim.Native.Nat.{ℕ, ◌+◌, ◌≤◌}
use Rattle.std.specs.Prelude.{◌≡◌, Bool, length, drop}
use mathlib.Core.List.{List}
use Rattle.framing.specs.Local.{size_in}
use Rattle.captures.specs.Captures.{num_in, captured}

-- ---- one record

-- what is known of a record that is taken, n bytes long
pub record Taken (big : Bool) (xs : List ℕ) (n : ℕ) : Type 0 where
  pub sixteen : 16 ≤ length xs
  pub is : captured big xs ≡ n
  pub original : num_in big 4 12 xs ≡ n
  pub seven : 7 ≤ n
  pub most : n ≤ 65535
  pub held : 16 + n ≤ length xs
  pub size : size_in (drop 16 xs) ≡ n
