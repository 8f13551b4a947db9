-- What is known of an input that was read: it fits the buffer.
use Rattle.std.specs.Prelude.{ℕ, ◌≤◌, ◌≡◌, List, length, Option, Some, None}
use Rattle.std.proofs.Common.{sym, length-take-le}
use Rattle.io.specs.Counts.{IsPrefixLen}

abbrev pub InBuffer : List ℕ → Option ℕ → Type 0
InBuffer buf (Some n) = n ≤ length buf
InBuffer buf None = Unit {0}

pub record Holds (buf : List ℕ) (r : Option ℕ) : Type 0 where
  pub is : InBuffer buf r

-- so that so much of the buffer can be lent
pub read_counts : {buf : List ℕ} {r : Option ℕ} {n : ℕ} → Holds buf r → r ≡ Some n → IsPrefixLen n buf
read_counts {buf} {r} {n} h e = let l : n ≤ length buf = rw e at h.is in (l, sym (length-take-le n buf l))
