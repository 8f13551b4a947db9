-- The elements of a walk (F4.18): the answer for one is a span of the caller's bytes, of a name without its count, of a qid whole.
use Rattle.numbers.specs.Place.{Place}
use Rattle.std.specs.Prelude.{ℕ, ◌+◌, ◌*◌, ◌≡◌, cond, List, [], length, take, get_or, ltb, Result, Ok, Err}
use Rattle.numbers.specs.Reading.{Reading, ok, bad, after}
use Rattle.numbers.specs.declared.Fault.{Fault}
use Rattle.numbers.specs.declared.Refusal.TheVariants as R
use Rattle.strings.specs.declared.Span.{Span}
use Rattle.strings.specs.Spans.{check_at}
use Rattle.fields.specs.Layouts.{Field, Item, number, string, bytes, strings, qids, box, many_bytes}
use Rattle.fields.specs.Values.{Value, span, start_of, len_of, count_of, show_part, show}

-- where element i stands of a vector whose elements begin at x; a field that is no vector has none
abbrev pub element_in : ℕ → ℕ → Item → Value
element_in x i (number w n) = span 0 0
element_in x i (string bs) = span 0 0
element_in x i (bytes bs) = span 0 0
element_in x i (strings l) = span (x + (length (many_bytes (take i l)) + 2)) (length (get_or l i []))
element_in x i (qids n bs) = span (x + 13 * i) 13
element_in x i (box cs) = span 0 0

-- 17, then 9, then 15 (F4.19)
unfoldable pub asked_for : List ℕ → Value → ℕ → Reading (List ℕ)
asked_for lent v i = after (show_part lent (count_of v) (start_of v) (len_of v)) (λ bs r. cond (ltb i (count_of v)) (ok bs r) (bad R.NoSuchElement 0))

-- then the whole part, as its writer checks it (F4.19). The rest of an `ok` is not used, and is []
unfoldable pub element_at : Field → List ℕ → Value → ℕ → Reading Value
element_at f lent v i = after (asked_for lent v i) (λ bs r. after (show f lent v) (λ it s. ok (element_in (start_of v) i it) []))

unfoldable pub view_element : Result Span Fault → Reading Value
view_element (Ok s) = ok (span s.start s.len) []
view_element (Err f) = bad f.0 f.1

-- the place itself where an element may be looked for; or 17, 9, 15
pub record ElementAsked (lent : List ℕ) (v : Value) (i : ℕ) (q : Place) : Type 0 where
  pub is : q ≡ check_at (asked_for lent v i) (Ok 0)
