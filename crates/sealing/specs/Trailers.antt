-- The trailer of a recording (F15.2): bytes of frames, frames, the position of the last.
use Rattle.numbers.specs.Place.{Place}
use Rattle.std.specs.Prelude.{ℕ, ◌+◌, ◌-◌, Bool, false, cond, List, [], ◌++◌, length, take, ltb, eqb, Result, Ok, Err}
use Rattle.numbers.specs.Numbers.{to_le}
use Rattle.numbers.specs.Places.{num_at, Put}
use Rattle.numbers.specs.declared.Fault.{Fault}
use Rattle.numbers.specs.declared.Refusal.TheVariants as R
use Rattle.layouts.specs.Tables.{table_t, table_r}
use Rattle.framing.specs.Stretch.{Listing, entry, ends, stops, listing}
use Rattle.sealing.specs.declared.Extent.{Extent}

-- an extent, or why there is none and where
abbrev pub Measured : Type 0
Measured = Result Extent Fault

-- n frames are passed, the last of them at `at`, which is 0 where there is none
unfoldable pub extent_from : ℕ → ℕ → Listing → Measured
extent_from n at (entry p size ty tag a tail l) = extent_from (n + 1) p l
extent_from n at (ends p) = Ok (record { bytes = p; frames = n; last = at })
extent_from n at (stops k p) = Err (k, p)

abbrev pub extent_of : Listing → Measured
extent_of l = extent_from 0 0 l

-- ---- read

abbrev pub tells : ℕ → ℕ → ℕ → Measured → Bool
tells bytes frames last (Ok e) = cond (eqb e.bytes bytes) (cond (eqb e.frames frames) (eqb e.last last) false) false
tells bytes frames last (Err f) = false

-- a file without its last twelve bytes
abbrev pub stretch_in : List ℕ → List ℕ
stretch_in file = take (length file - 12) file

unfoldable pub sealed : List ℕ → Bool
sealed file =
    cond (ltb (length file) 12) false
    (tells (num_at 4 file (Ok (length file - 12))) (num_at 4 file (Ok (length file - 12 + 4))) (num_at 4 file (Ok (length file - 12 + 8))) (extent_of (listing table_t table_r (stretch_in file))))

-- ---- written

abbrev pub trailer_bytes : Extent → List ℕ
trailer_bytes e = to_le 4 e.bytes ++ to_le 4 e.frames ++ to_le 4 e.last

-- bytes that four bytes cannot tell: 19
abbrev pub told : Extent → Place
told e = cond (ltb 4294967295 e.bytes) (Err (R.Trailer, 0)) (Ok 0)

abbrev pub trailer_of : Measured → List ℕ
trailer_of (Ok e) = trailer_bytes e
trailer_of (Err f) = []

-- 12 and 13, with the position; 19
abbrev pub start_of : Measured → Place
start_of (Ok e) = told e
start_of (Err f) = Err f

-- at the front of the output, or there is no room: 11
abbrev pub ExtentPut : Extent → List ℕ → List ℕ → Place → Type 0
ExtentPut e o o' r = Put (trailer_bytes e) o (told e) o' r

abbrev pub TrailerPut : List ℕ → List ℕ → List ℕ → Place → Type 0
TrailerPut bs o o' r = Put (trailer_of (extent_of (listing table_t table_r bs))) o (start_of (extent_of (listing table_t table_r bs))) o' r
