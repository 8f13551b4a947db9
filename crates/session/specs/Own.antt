-- What a session answers of its own is 20 to 24 (F15.5 to F15.7): a frame that was read is refused with no other number.
use Rattle.std.specs.Prelude.{◌≤◌, ◌≡◌, Result, Ok, Err}
use Rattle.numbers.specs.Refusals.{number_of}
use Rattle.numbers.specs.declared.Refusal.{Refusal}
use Rattle.session.specs.declared.What.{What}
use Rattle.session.specs.declared.What.TheVariants as W

abbrev pub Own : Result (Unit {0}) Refusal → Type 0
Own (Ok u) = Unit {0}
Own (Err k) = (20 ≤ number_of k) × (number_of k ≤ 24)

-- the answer to a frame that was read; one that was not is refused as the codec refuses it
abbrev pub OwnOf : What → Result (Unit {0}) Refusal → Type 0
OwnOf (W.Asks r) a = Own a
OwnOf (W.Answers n) a = Own a
OwnOf (W.Refused k) a = a ≡ Err k
