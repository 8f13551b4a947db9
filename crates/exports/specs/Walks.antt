-- Walks written from tables, as Rust has them: what is left and answered.
use Rattle.numbers.specs.Place.{Place}
use Rattle.std.specs.Prelude.{ℕ, ◌≡◌, List, [], ◌∷◌, length}
use Rattle.numbers.specs.Reading.{Reading, ok}
use Rattle.fields.specs.Layouts.{Item, number, counted}
use Rattle.fields.specs.Values.{shows}
use Rattle.layouts.specs.declared.qids.Qid.{Qid}
use Rattle.framing.specs.Writing.{frame_out, frame_past}
use Rattle.tables.specs.Tables.{TableWritten, walk_fields, walk_values, qid_items}
use Rattle.exports.specs.Answers.{ended, Answered, wrote}
use Rattle.exports.specs.declared.Outcome.{Outcome}

-- Twalk: "4 4, vector of s"
abbrev pub twalk_of : ℕ → ℕ → List ℕ → List (List ℕ) → Reading (List Item)
twalk_of fid newfid lent t = counted (length t) (shows (walk_fields t) lent (walk_values fid newfid (length t) t))

-- an Rwalk is a vector of qids (F3.2)
abbrev pub rwalk_of : List Qid → Reading (List Item)
rwalk_of t = counted (length t) (ok (number 2 (length t) ∷ qid_items t) [])

-- refused, the output is as it was; else the frame stands at its front
abbrev pub TableWrote : ℕ → ℕ → Reading (List Item) → List ℕ → List ℕ → Outcome → Type 0
TableWrote ty tag m o o' r = Answered (ended (frame_past ty tag m o)) (frame_out ty tag m o) o' r

pub table_wrote : {ty tag : ℕ} {m : Reading (List Item)} {o o' : List ℕ} {p : Place} {r : Outcome} → TableWritten ty tag m o o' p → r ≡ ended p → TableWrote ty tag m o o' r
table_wrote h e = wrote h.bytes h.next e
