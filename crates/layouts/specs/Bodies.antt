-- A body read at a place, by the row that a table has for its type.
use Rattle.numbers.specs.Place.{Place}
use Rattle.std.specs.Prelude.{ℕ, ◌+◌, List, length, Ok, Err}
use Rattle.std.proofs.Math.Option.{Option, none, some}
use Rattle.numbers.specs.Reading.{Reading, ok, bad}
use Rattle.numbers.specs.declared.Refusal.{Refusal}
use Rattle.numbers.specs.declared.Refusal.TheVariants as R
use Rattle.fields.specs.Layouts.{Layout, Item, read_fields, items_bytes}
use Rattle.fields.specs.Values.{Value, places}
use Rattle.fields.specs.Fields.{values_at, past_fields}
use Rattle.layouts.specs.Tables.{Row, lookup}

-- the number, the values and where the fields end; or the refusal with its place
pub data Answer : Type 0 where
  accepted : ℕ → List Value → ℕ → Answer
  refused : Refusal → ℕ → Answer

abbrev pub finish_at : ℕ → List Value → Place → Answer
finish_at ty vs (Ok n) = accepted ty vs n
finish_at ty vs (Err f) = refused f.0 f.1

-- the definition, of the bytes xs that begin at position a: 3 for an unknown type, else the fields in order (F4.2); the values are where the items stand (F4.16)
abbrev pub items_at : ℕ → ℕ → Reading (List Item) → Answer
items_at ty a (ok is r) = accepted ty (places a is) (a + length (items_bytes is))
items_at ty a (bad k at) = refused k at

abbrev pub body_of : Option Layout → ℕ → ℕ → List ℕ → Answer
body_of none ty a xs = refused R.UnknownType 0
body_of (some l) ty a xs = items_at ty a (read_fields l a xs)

-- the same at a place of s, as code meets it: BodyLaws shows that they agree
abbrev pub body_at : Option Layout → ℕ → List ℕ → Place → Answer
body_at none ty s p = refused R.UnknownType 0
body_at (some l) ty s p = finish_at ty (values_at l s p) (past_fields l s p)

abbrev pub read_body : List Row → ℕ → List ℕ → Place → Answer
read_body rows ty s p = body_at (lookup rows ty) ty s p
