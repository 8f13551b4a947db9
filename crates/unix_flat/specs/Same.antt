-- 9P2000.u's tables are 9P2000's with rows of its own: any other type has the row that it has in 9P2000 (F16.1). And its stat is 9P2000's with
-- fields of its own.
use Rattle.std.specs.Prelude.{ℕ, ◌≡◌, refl, Bool, true, false, List, [], ◌∷◌, ◌++◌, eqb}
use Rattle.std.proofs.Common.{ap, ◌∙◌, eqb-true}
use Rattle.std.proofs.Math.Option.{Option, none, some}
use Rattle.fields.specs.Layouts.{Layout}
use Rattle.fields.specs.Values.{Slot, Value, val, span, part, block}
use Rattle.layouts.specs.Tables.{Row, row, lookup, layout_tauth, layout_tattach}
use Rattle.layouts.specs.BodyLaws.{Nots}
use Rattle.layouts.proofs.BodyLaws.{no_row}
use Rattle.layouts.specs.Plain as P
use Rattle.stats.specs.Stats.{more_slots}
use Rattle.stats.specs.declared.unix.UnixStat.{UnixStat}
use Rattle.flat.specs.Flat.{slot_numbers, stored, slots_from}
use Rattle.stats.specs.Unix.{more_shape, table_t, table_r, layout_tcreate, layout_twstat, layout_rerror, layout_rstat}

abbrev pub or_else : Option Layout → Layout → Layout
or_else none l = l
or_else (some m) l = m

-- a table with rows of its own in the place of those that have their numbers
abbrev pub replaced : List Row → List Row → List Row
replaced own [] = []
replaced own (row k l ∷ rs) = row k (or_else (lookup own k) l) ∷ replaced own rs

same : (own rs : List Row) (ty : ℕ) → lookup own ty ≡ none → lookup (replaced own rs) ty ≡ lookup rs ty
same own [] ty e = refl
same own (row k l ∷ rs) ty e = go (eqb k ty) refl (same own rs ty e)
  where
    go : (b : Bool) → eqb k ty ≡ b → lookup (replaced own rs) ty ≡ lookup rs ty → lookup (replaced own (row k l ∷ rs)) ty ≡ lookup (row k l ∷ rs) ty
    go true h ih = rw (h, lookup) (ap (λ (o : Option Layout). some (or_else o l)) (ap (lookup own) (eqb-true k ty h) ∙ e))
    go false h ih = rw (h, lookup) ih

abbrev pub own_t : List Row
own_t = row 102 layout_tauth ∷ row 104 layout_tattach ∷ row 114 layout_tcreate ∷ row 126 layout_twstat ∷ []

abbrev pub own_r : List Row
own_r = row 107 layout_rerror ∷ row 125 layout_rstat ∷ []

pub same_requests : (ty : ℕ) → Nots (Unit {0}) own_t ty → lookup table_t ty ≡ lookup P.table_t ty
same_requests ty h = same own_t P.table_t ty (no_row own_t (Unit {0}) ty h).0

pub same_replies : (ty : ℕ) → Nots (Unit {0}) own_r ty → lookup table_r ty ≡ lookup P.table_r ty
same_replies ty h = same own_r P.table_r ty (no_row own_r (Unit {0}) ty h).0

-- ---- a record that ends with a stat is that of 9P2000 with four fields more at its end

abbrev pub lengthened : List Slot → List Value → List Value
lengthened ms [] = []
lengthened ms (val n ∷ vs) = val n ∷ lengthened ms vs
lengthened ms (span x y ∷ vs) = span x y ∷ lengthened ms vs
lengthened ms (part k x y ∷ vs) = part k x y ∷ lengthened ms vs
lengthened ms (block l ∷ vs) = block (l ++ ms) ∷ lengthened ms vs

-- put together of the values from the i-th on
pub longer_of : (i : ℕ) (ns : List ℕ) {vs ws : List Value} → vs ≡ ws → lengthened (slots_from i more_shape ns) vs ≡ lengthened (slots_from i more_shape ns) ws
longer_of i ns e = ap (lengthened (slots_from i more_shape ns)) e

-- and laid flat from there on
pub longer_stored : (i : ℕ) (v : UnixStat) {ns ms : List ℕ} → ms ≡ ns → stored ms i (slot_numbers (more_slots v)) ≡ stored ns i (slot_numbers (more_slots v))
longer_stored i v e = ap (λ (z : List ℕ). stored z i (slot_numbers (more_slots v))) e
