-- Which reply answers which request (F7.1): equal tags, a known request, and a reply of the next number or the dialect's error.
use Rattle.std.specs.Prelude.{ℕ, ◌+◌, Bool, true, false, cond, List, eqb}
use Rattle.std.proofs.Math.Option.{Option, none, some}
use Rattle.fields.specs.Layouts.{Layout}
use Rattle.layouts.specs.Tables.{Row, lookup}

abbrev has : Option Layout → Bool
has none = false
has (some l) = true

-- whether a table has a row for a type
abbrev pub knows : List Row → ℕ → Bool
knows rows ty = has (lookup rows ty)

-- Rlerror, the error of 9P2000.L
abbrev pub rlerror : ℕ
rlerror = 7

-- Rerror, the error of 9P2000 (F14.6)
abbrev pub rerror : ℕ
rerror = 107

-- a request that is known or not, and a reply
abbrev pub paired : Bool → ℕ → ℕ → ℕ → ℕ → ℕ → Bool
paired known error ty tag ty' tag' = cond (eqb tag tag') (cond known (cond (eqb ty' error) true (eqb ty' (ty + 1))) false) false

abbrev pub pairs : List Row → ℕ → ℕ → ℕ → ℕ → ℕ → Bool
pairs rows error ty tag ty' tag' = paired (knows rows ty) error ty tag ty' tag'
