-- A plan as Rust has it: the table that was lent, and its outcome, how many pieces or the refusal.
use Rattle.numbers.specs.Place.{Place}
use Rattle.std.specs.Prelude.{ℕ, ◌≡◌, List, length}
use Rattle.std.proofs.Common.{ap, ◌∙◌}
use Rattle.numbers.proofs.PlaceLaws.{one_answer}
use Rattle.planning.specs.Plans.{planned, table_of, Planned}
use Rattle.exports.specs.Answers.{ended}
use Rattle.exports.specs.declared.Outcome.{Outcome}

pub record PlanMade (t : List (List ℕ)) (first len msize : ℕ) (t' : List (List ℕ)) (r : Outcome) : Type 0 where
  pub answer : r ≡ ended (planned (length t) first len msize)
  pub left : t' ≡ table_of t first len msize

-- any two answers that the promise allows are equal
pub made_one : {t a b : List (List ℕ)} {first len msize : ℕ} {r q : Outcome} → PlanMade t first len msize a r → PlanMade t first len msize b q → (a ≡ b) × (r ≡ q)
made_one x y = (one_answer x.left y.left, one_answer x.answer y.answer)

pub made : {t t' : List (List ℕ)} {first len msize : ℕ} {p : Place} {r : Outcome} → Planned t first len msize t' p → r ≡ ended p → PlanMade t first len msize t' r
made p e = record { answer = e ∙ ap ended p.answer; left = p.table }
