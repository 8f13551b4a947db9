-- What is written is read back, and what is read is written back: records and files, and frames back to back.
use Rattle.std.specs.Prelude.{ℕ, ◌+◌, ◌^◌, ◌<◌, ◌≡◌, Bool, false, drop, Ok}
use mathlib.Core.List.{List, [], ◌∷◌}
use Rattle.std.proofs.Math.ListN.{length, take}
use Rattle.framing.specs.Stretch.{Listing}
use Rattle.captures.specs.Captures.{time_in, Packets, packet, complete, broken, times_in, frames_in, counted, fits, paired}
use Rattle.captures.specs.Steps.{Goods}
use Rattle.captures.specs.FileLaws.{Taken}

-- ---- a record

-- a row of a table: two numbers of four bytes
pub record Pair (t : List ℕ) : Type 0 where
  pub seconds : ℕ
  pub micros : ℕ
  pub is : t ≡ seconds ∷ micros ∷ []
  pub first : seconds < 256 ^ 4
  pub second : micros < 256 ^ 4

abbrev pub Pairs : List (List ℕ) → Type 0
Pairs [] = Unit {0}
Pairs (t ∷ ts) = Pair t × Pairs ts

-- a record that was written, with anything after it
pub record Read (xs t f ys : List ℕ) : Type 0 where
  pub took : Taken false xs (length f)
  pub time : time_in false xs ≡ t
  pub frame : take (length f) (drop 16 xs) ≡ f
  pub after : drop (16 + length f) xs ≡ ys

-- ---- the frames of records

unfoldable pub frames_of : Packets → List (List ℕ)
frames_of (packet t f r) = f ∷ frames_of r
frames_of complete = []
frames_of (broken p) = []

-- ---- records read and then written

-- what records that stand to the end are
pub record Back (big : Bool) (xs : List ℕ) (r : Packets) : Type 0 where
  pub goods : Goods (frames_of r)
  pub pairs : paired (times_in r) (frames_of r) ≡ r
  pub many : length (frames_of r) ≡ length (times_in r)

-- ---- frames back to back, read as a stretch, whatever the tables

pub record Reads (s : List ℕ) (l : Listing) (fs : List (List ℕ)) : Type 0 where
  pub frames : frames_in s l ≡ fs
  pub count : (m : ℕ) → counted m l ≡ Ok (m + length fs)
  pub fit : fits l ≡ Ok (length s)
