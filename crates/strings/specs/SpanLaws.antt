-- What is known of spans that passed their checks, and of a string that was read at a place.
use Rattle.numbers.specs.Place.{Place}
use Rattle.std.specs.Prelude.{ℕ, ◌+◌, ◌≤◌, ◌≡◌, List, [], length, take, drop, Ok}
use Rattle.numbers.specs.Reading.{ok}
use Rattle.strings.specs.Spans.{show_span, show_string}

-- what is known of a span that passed
pub record Passed (lent : List ℕ) (x y : ℕ) (p : Place) (a : ℕ) : Type 0 where
  pub place : p ≡ Ok a
  pub lies : x + y ≤ length lent
  pub shows : show_span lent x y ≡ ok (take y (drop x lent)) []

-- what is known of a lent string that is shown, and of one that passed
pub record StringShown (lent : List ℕ) (x y : ℕ) (bs r : List ℕ) : Type 0 where
  pub lies : x + y ≤ length lent
  pub small : y ≤ 65535
  pub bytes : bs ≡ take y (drop x lent)
  pub rest : r ≡ []

pub record StringPassed (lent : List ℕ) (x y : ℕ) (p : Place) (a : ℕ) : Type 0 where
  pub place : p ≡ Ok a
  pub lies : x + y ≤ length lent
  pub small : y ≤ 65535
  pub shows : show_string lent x y ≡ ok (take y (drop x lent)) []
