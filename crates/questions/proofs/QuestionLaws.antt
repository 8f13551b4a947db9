-- One answer for each line and each place.
use Rattle.numbers.specs.Place.{Place}
use Rattle.std.specs.Prelude.{◌≡◌, ℕ, Bool, true, false, List, Ok, Err}
use Rattle.std.proofs.Common.{sym, ap, ap₂, ◌∙◌}
use Rattle.numbers.specs.declared.Fault.{Fault}
use Rattle.numbers.specs.declared.Refusal.{Refusal}
use Rattle.numbers.proofs.PlaceLaws.{one_answer}
use Rattle.numbers.proofs.Refusals.{number_one}
use Rattle.questions.specs.declared.Question.{Question}
use Rattle.questions.specs.Parts.{Places, Placed}
use Rattle.questions.specs.Questions.{Taken}

-- a line is answered and leaves the room in one way
pub taken_one : {line o o1 o2 : List ℕ} {p q : Question} → Taken line o p o1 → Taken line o q o2 → (p ≡ q) × (o1 ≡ o2)
taken_one a b = (one_answer a.answer b.answer, one_answer a.bytes.out b.bytes.out)

-- a number, marked or not, is one place
places_one : (n : ℕ) (m : Bool) (p q : Place) → Places n m p → Places n m q → p ≡ q
places_one n false p q a b = one_answer a b
places_one n true (Err f) (Err e) (a, c) (b, d) = ap Err (ap₂ (λ (k : Refusal) (n : ℕ). let w : Fault = (k, n) in w) (number_one (one_answer a.is b.is)) (c ∙ sym d))
places_one n true (Err f) (Ok y) a b = absurd b
places_one n true (Ok x) q a b = absurd a

pub placed_one : {n : ℕ} {m : Bool} {p q : Place} → Placed n m p → Placed n m q → p ≡ q
placed_one {n} {m} {p} {q} a b = places_one n m p q a.is b.is
