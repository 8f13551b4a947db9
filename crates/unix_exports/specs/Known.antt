-- 9P2000.u knows the types that 9P2000 knows, so the same replies answer the same requests (F16.4).
use Rattle.std.specs.Prelude.{ℕ, ◌≡◌, refl, Bool, true, false, List, [], ◌∷◌, eqb}
use Rattle.std.proofs.Common.{ap}
use Rattle.layouts.specs.Tables.{Row, row, lookup}
use Rattle.layouts.specs.Plain as P
use Rattle.stats.specs.Unix.{table_t}
use Rattle.pairs.specs.Pairs.{knows, rerror, paired, pairs}
use Rattle.unix_flat.specs.Same.{own_t, replaced}

-- rows of its own are in the place of others, and so nothing more is known
same_types : (own rs : List Row) (ty : ℕ) → knows rs ty ≡ knows (replaced own rs) ty
same_types own [] ty = refl
same_types own (row k l ∷ rs) ty = go (eqb k ty) refl (same_types own rs ty)
  where
    go : (b : Bool) → eqb k ty ≡ b → knows rs ty ≡ knows (replaced own rs) ty → knows (row k l ∷ rs) ty ≡ knows (replaced own (row k l ∷ rs)) ty
    go true h ih = rw (h, lookup)
    go false h ih = rw (h, lookup) ih

pub same_pairs : (ty tag ty' tag' : ℕ) → pairs P.table_t rerror ty tag ty' tag' ≡ pairs table_t rerror ty tag ty' tag'
same_pairs ty tag ty' tag' = ap (λ b. paired b rerror ty tag ty' tag') (same_types own_t P.table_t ty)
