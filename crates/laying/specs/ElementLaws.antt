-- An element of a vector stands where the definition says: what each way of asking answers, over plain variables.
use Rattle.std.specs.Prelude.{ℕ, ◌+◌, ◌*◌, ◌≤◌, ◌<◌, ◌≡◌, List, [], length}
use Rattle.numbers.specs.Reading.{ok}
use Rattle.fields.specs.Layouts.{Field, quids, Item}
use Rattle.fields.specs.Values.{Value, span, part, start_of, count_of, show}
use Rattle.laying.specs.Elements.{element_in, element_at}

-- what is known once every check is passed
pub record Element (f : Field) (lent : List ℕ) (v : Value) (i : ℕ) : Type 0 where
  pub item : Item
  pub rest : List ℕ
  pub shows : show f lent v ≡ ok item rest
  pub below : i < count_of v
  pub is : element_at f lent v i ≡ ok (element_in (start_of v) i item) []

-- ---- qids

-- where qid i stands, and that it lies within the lent bytes
pub record Qid (lent : List ℕ) (c x y i : ℕ) : Type 0 where
  pub lies : x + 13 * i ≤ length lent
  pub is : ok (span (x + 13 * i) 13) [] ≡ element_at quids lent (part c x y) i
