-- What crosses to Rust for all that is read or written: one outcome, and the room that was lent, which a reader fills and a writer writes into.
use Rattle.numbers.specs.Place.{Place}
use Rattle.std.specs.Prelude.{ℕ, ◌≡◌, Bool, false, List, Ok, Err}
use Rattle.std.proofs.Common.{ap, ◌∙◌}
use Rattle.std.proofs.Math.Option.{some}
use Rattle.numbers.proofs.PlaceLaws.{one_answer}
use Rattle.numbers.specs.Refusals.{number_of}
use Rattle.fields.specs.Layouts.{Layout}
use Rattle.fields.specs.Values.{Value, shows}
use Rattle.fields.specs.Fields.{values_at, past_fields}
use Rattle.laying.specs.Laying.{written_out, written_past, Written}
use Rattle.flat.specs.Flat.{laid, field_values, FlatRead}
use Rattle.exports.specs.declared.Outcome.{Outcome}

-- F4.7: a refusal is told by its number and its place (F2.7), and no bytes count as used. The tag stands beside it where a request's header
-- was read
abbrev pub outcome_of : ℕ → ℕ → Bool → Place → Outcome
outcome_of ty tag held (Ok n) = record { refusal = 0; ty = ty; tag = tag; held = held; place = n }
outcome_of ty tag held (Err f) = record { refusal = number_of f.0; ty = 0; tag = tag; held = held; place = f.1 }

-- where there is no frame to tell of
abbrev pub ended : Place → Outcome
ended p = outcome_of 0 0 false p

-- the outcome, and what the lent room holds afterwards
pub record Answered (outcome : Outcome) (room room' : List ℕ) (r : Outcome) : Type 0 where
  pub answer : r ≡ outcome
  pub left : room' ≡ room

-- any two answers that the promise allows are equal
pub answered_one : {outcome r r' : Outcome} {room o1 o2 : List ℕ} → Answered outcome room o1 r → Answered outcome room o2 r' → (o1 ≡ o2) × (r ≡ r')
answered_one a b = (one_answer a.left b.left, one_answer a.answer b.answer)

-- ---- writing

pub wrote : {out o' : List ℕ} {past q : Place} {r : Outcome} → o' ≡ out → q ≡ past → r ≡ ended q → Answered (ended past) out o' r
wrote b n e = record { answer = e ∙ ap ended n; left = b }

-- the fields of a layout, from flat values: refused, the output is as it was
pub record FieldsWritten (l : Layout) (lent ns o : List ℕ) (p : Place) (o' : List ℕ) (r : Outcome) : Type 0 where
  pub is : Answered (ended (written_past (shows l lent (field_values l ns)) o p)) (written_out (shows l lent (field_values l ns)) o p) o' r

pub fields_written : {l : Layout} {lent ns o o' : List ℕ} {vs : List Value} {p q : Place} {r : Outcome} → vs ≡ field_values l ns → Written l lent vs o p o' q → r ≡ ended q
    → FieldsWritten l lent ns o p o' r
fields_written v w e = let x = rw v at w in record { is = wrote x.bytes x.next e }

-- ---- reading

-- the values of a layout's fields, flat at the front of the lent ones; refused, these are as they were
pub record FieldsRead (l : Layout) (s : List ℕ) (p : Place) (before after : List ℕ) (r : Outcome) : Type 0 where
  pub is : Answered (ended (past_fields l s p)) (laid (past_fields l s p) (values_at l s p) before) after r

pub fields_read : {l : Layout} {s before after : List ℕ} {p q : Place} {r : Outcome} → FlatRead (some l) s p before after q → r ≡ ended q → FieldsRead l s p before after r
fields_read f e = record { is = record { answer = e ∙ ap ended f.next; left = f.values } }
