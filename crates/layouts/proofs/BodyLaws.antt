-- What holds of the definitions in specs/BodyLaws.antt.
use Rattle.numbers.specs.Place.{Place}
use Rattle.std.specs.Prelude.{ℕ, ◌≤◌, ◌≡◌, refl, List, [], ◌∷◌, length, drop, Ok}
use Rattle.std.proofs.Common.{sym, ap₂, ne_eqb}
use Rattle.std.proofs.Math.Option.{Option, none, some}
use Rattle.numbers.specs.Numbers.{Bytes}
use Rattle.numbers.specs.Reading.{Reading, ok, bad}
use Rattle.numbers.specs.declared.Refusal.TheVariants as R
use Rattle.fields.specs.Layouts.{Layout, Item, read_fields}
use Rattle.fields.specs.Values.{Value}
use Rattle.fields.proofs.FieldLaws.{fields_accepted, fields_refused}
use Rattle.fields.specs.Fields.{values_at, past_fields, Fields}
use Rattle.layouts.specs.Tables.{Row, row, lookup}
use Rattle.layouts.specs.Bodies.{refused, finish_at, items_at, body_of, body_at, read_body}
use Rattle.layouts.specs.BodyLaws.{Nots}

pub known_body : {l : Layout} {s : List ℕ} {p e : Place} {vs : List Value} (ty : ℕ) → Fields l s p vs e → finish_at ty vs e ≡ finish_at ty (values_at l s p) (past_fields l s p)
known_body ty f = ap₂ (finish_at ty) f.values f.next

pub no_row : (rs : List Row) (N : Type 0) (ty : ℕ) → Nots N rs ty → (lookup rs ty ≡ none) × N
no_row [] N ty h = (refl, h)
no_row (row k l ∷ rs) N ty h =
    let r = no_row rs (N × (ty ≡ k → ⊥)) ty h in (rw (ne_eqb k ty (λ e. r.1.1 (sym e)), lookup) r.0, r.1.0)

pub unknown_body : (rs : List Row) (ty : ℕ) (s : List ℕ) (p : Place) → Nots (Unit {0}) rs ty → refused R.UnknownType 0 ≡ read_body rs ty s p
unknown_body rs ty s p h = rw (no_row rs (Unit {0}) ty h).0

-- ---- at a place as in the definition

pub body_is : (rs : List Row) (ty : ℕ) (s : List ℕ) (a : ℕ) → Bytes s → a ≤ length s → read_body rs ty s (Ok a) ≡ body_of (lookup rs ty) ty a (drop a s)
body_is rs ty s a b h = go (lookup rs ty)
  where
    read : (l : Layout) (m : Reading (List Item)) → read_fields l a (drop a s) ≡ m → finish_at ty (values_at l s (Ok a)) (past_fields l s (Ok a)) ≡ items_at ty a m
    read l (ok is r) e = let k = fields_accepted l s a b h e in rw (k.values, k.next)
    read l (bad k at) e = rw (fields_refused l s a b h e)

    go : (o : Option Layout) → body_at o ty s (Ok a) ≡ body_of o ty a (drop a s)
    go none = refl
    go (some l) = read l (read_fields l a (drop a s)) refl
