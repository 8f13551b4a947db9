-- F10.9: examples of pairs, computed from the definition.
use Rattle.std.specs.Prelude.{◌≡◌, refl, true, false}
use Rattle.layouts.specs.Tables.{table_t}
use Rattle.layouts.specs.Plain as P
use Rattle.pairs.specs.Pairs.{rlerror, rerror, pairs}

-- B answered by C: yes; by D, an Rlerror of its tag: yes
pub b_by_c_and_d : (pairs table_t rlerror 108 1 109 1 ≡ true) × (pairs table_t rlerror 108 1 7 1 ≡ true)
b_by_c_and_d = (refl, refl)

-- by neither under another tag, and by no other number: 107 is the error of another dialect
pub b_by_no_other : (pairs table_t rlerror 108 1 7 2 ≡ false) × ((pairs table_t rlerror 108 1 107 1 ≡ false) × (pairs table_t rlerror 108 1 111 1 ≡ false))
b_by_no_other = (refl, (refl, refl))

-- a request of no known type is answered by nothing: 106 neither by 107 nor by an Rlerror
pub j_by_nothing : (pairs table_t rlerror 106 5 107 5 ≡ false) × (pairs table_t rlerror 106 5 7 5 ≡ false)
j_by_nothing = (refl, refl)

-- in 9P2000, 107 takes the part of 7: it answers any known request, 7 none, and 106 is not known
pub plain_errors : (pairs P.table_t rerror 108 1 107 1 ≡ true) × ((pairs P.table_t rerror 108 1 7 1 ≡ false) × ((pairs P.table_t rerror 106 5 107 5 ≡ false) × (pairs P.table_t rerror 124 9 125 9 ≡ true)))
plain_errors = (refl, (refl, (refl, refl)))

-- a request that 9P2000.L alone has is known to it alone
pub dialects_apart : (pairs P.table_t rerror 12 1 13 1 ≡ false) × (pairs table_t rlerror 112 1 113 1 ≡ false)
dialects_apart = (refl, refl)
