-- The laws of readers, put together as readers are: reading after writing, a cut, writing after reading. Every layout's laws are made of these.
use Rattle.std.specs.Prelude.{ℕ, ◌<◌, ◌≡◌, List, ◌++◌, length, take}
use Rattle.numbers.specs.Numbers.{Bytes}
use Rattle.numbers.specs.Reading.{Reading, ok, bad}
use Rattle.numbers.specs.declared.Refusal.TheVariants.{Short}

-- ---- reading after writing, and a cut

-- The reader d takes exactly x, as a, whatever stands after it; and x cut short is refused as short.
pub record Reads {A : Type 0} (d : List ℕ → Reading A) (x : List ℕ) (a : A) : Type 0 where
  pub back : (r : List ℕ) → d (x ++ r) ≡ ok a r
  pub cut : (j : ℕ) → j < length x → d (take j x) ≡ bad Short 0

-- ---- writing after reading

-- of the bytes xs, x was taken and r is left, and Q holds
pub record Took (xs x r : List ℕ) (Q : Type 0) : Type 0 where
  pub whole : xs ≡ x ++ r
  pub rest : Bytes r
  pub good : Q
