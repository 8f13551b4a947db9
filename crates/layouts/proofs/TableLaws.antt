-- What holds of the definitions in specs/TableLaws.antt.
use Rattle.std.specs.Prelude.{ℕ, ◌^◌, ◌<◌, ◌≡◌, refl, Bool, true, false, cond, List, [], ◌∷◌, ltb, eqb}
use Rattle.std.proofs.Common.{arith, ltb-true, eqb-true}
use Rattle.std.proofs.Math.Option.{some}
use Rattle.fields.specs.Layouts.{Layout}
use Rattle.layouts.specs.Tables.{Row, row, lookup, table_t, table_r}
use Rattle.layouts.specs.Plain as P
use Rattle.layouts.specs.TableLaws.{known_below, below}

-- 28 of the 256, 6 and 106 not among them
pub known_requests : known_below 256 table_t
    ≡ 8 ∷ 12 ∷ 14 ∷ 16 ∷ 18 ∷ 20 ∷ 22 ∷ 24 ∷ 26 ∷ 30 ∷ 32 ∷ 40 ∷ 50 ∷ 52 ∷ 54 ∷ 70 ∷ 72 ∷ 74 ∷ 76 ∷ 100 ∷ 102 ∷ 104 ∷ 108 ∷ 110 ∷ 116 ∷ 118 ∷ 120 ∷ 122 ∷ []
unfolding known_below
known_requests = refl

-- 29 of the 256, 7 among them; 107 is not
pub known_replies : known_below 256 table_r
    ≡ 7 ∷ 9 ∷ 13 ∷ 15 ∷ 17 ∷ 19 ∷ 21 ∷ 23 ∷ 25 ∷ 27 ∷ 31 ∷ 33 ∷ 41 ∷ 51 ∷ 53 ∷ 55 ∷ 71 ∷ 73 ∷ 75 ∷ 77 ∷ 101 ∷ 103 ∷ 105 ∷ 109 ∷ 111 ∷ 117 ∷ 119 ∷ 121 ∷ 123 ∷ []
unfolding known_below
known_replies = refl

-- 9P2000 knows 13 requests and 14 replies, 107 among them; 7 is not
pub known_plain_requests : known_below 256 P.table_t ≡ 100 ∷ 102 ∷ 104 ∷ 108 ∷ 110 ∷ 112 ∷ 114 ∷ 116 ∷ 118 ∷ 120 ∷ 122 ∷ 124 ∷ 126 ∷ []
unfolding known_below
known_plain_requests = refl

pub known_plain_replies : known_below 256 P.table_r ≡ 101 ∷ 103 ∷ 105 ∷ 107 ∷ 109 ∷ 111 ∷ 113 ∷ 115 ∷ 117 ∷ 119 ∷ 121 ∷ 123 ∷ 125 ∷ 127 ∷ []
unfolding known_below
known_plain_replies = refl

pub small_row : (rs : List Row) (ty : ℕ) {l : Layout} → below rs ≡ true → lookup rs ty ≡ some l → ty < 256 ^ 1
small_row [] ty b e = absurd (let z : ◌≡◌ {A = ℕ} 0 1 = cc e in omega arith)
small_row (row k m ∷ rs) ty {l} b e = go (ltb k 256) refl b (λ c f. small_row rs ty c f)
  where
    go : (t : Bool) → ltb k 256 ≡ t → cond t (below rs) false ≡ true → (below rs ≡ true → lookup rs ty ≡ some l → ty < 256 ^ 1) → ty < 256 ^ 1
    go true h c ih = here (eqb k ty) refl e
      where
        here : (u : Bool) → eqb k ty ≡ u → lookup (row k m ∷ rs) ty ≡ some l → ty < 256 ^ 1
        here true f d = let x = eqb-true k ty f in let y = ltb-true k 256 h in omega arith
        here false f d = ih c (rw (f, lookup) at d)
    go false h c ih = absurd (let z : ◌≡◌ {A = ℕ} 0 1 = cc c in omega arith)
