-- Capture files as Rust has them: what was lent, and the outcome.
use Rattle.numbers.specs.Place.{Place}
use Rattle.std.specs.Prelude.{ℕ, ◌≡◌, List, length, set, Ok, Err}
use Rattle.std.proofs.Common.{sym, ap, ◌∙◌}
use Rattle.numbers.proofs.PlaceLaws.{one_answer}
use Rattle.numbers.specs.declared.Fault.{Fault}
use Rattle.captures.specs.declared.Imported.{Imported}
use Rattle.captures.specs.Captures.{Import, bytes_in, times_in, packets_of, imported, held, laid, Imports, exported, exported_file, placed, Exports}
use Rattle.exports.specs.Answers.{ended}
use Rattle.exports.specs.declared.Outcome.{Outcome}

-- the bytes are the place, the frames the one number that was lent for them
abbrev pub place_in : Import → Place
place_in (Ok i) = Ok i.bytes
place_in (Err f) = Err f

abbrev pub frames_left : Import → List ℕ → List ℕ
frames_left (Ok i) m = set m 0 i.frames
frames_left (Err f) m = m

pub record ImportMade (file o : List ℕ) (t : List (List ℕ)) (m o' : List ℕ) (t' : List (List ℕ)) (m' : List ℕ) (r : Outcome) : Type 0 where
  pub answer : r ≡ ended (place_in (imported (length o) (length t) file))
  pub bytes : o' ≡ laid (held (imported (length o) (length t) file)) (bytes_in (packets_of file)) o
  pub times : t' ≡ laid (held (imported (length o) (length t) file)) (times_in (packets_of file)) t
  pub frames : m' ≡ frames_left (imported (length o) (length t) file) m

pub record ExportMade (s : List ℕ) (ts : List (List ℕ)) (o o' : List ℕ) (r : Outcome) : Type 0 where
  pub answer : r ≡ ended (exported (length o) s ts)
  pub bytes : o' ≡ laid (placed (exported (length o) s ts)) (exported_file s ts) o

-- any two answers that the promises allow are equal
pub import_made_one : {file o a b m m1 m2 : List ℕ} {t t1 t2 : List (List ℕ)} {r q : Outcome} → ImportMade file o t m a t1 m1 r → ImportMade file o t m b t2 m2 q
    → (a ≡ b) × (t1 ≡ t2) × (m1 ≡ m2) × (r ≡ q)
import_made_one x y = (one_answer x.bytes y.bytes, one_answer x.times y.times, one_answer x.frames y.frames, one_answer x.answer y.answer)

pub export_made_one : {s o a b : List ℕ} {ts : List (List ℕ)} {r q : Outcome} → ExportMade s ts o a r → ExportMade s ts o b q → (a ≡ b) × (r ≡ q)
export_made_one x y = (one_answer x.bytes y.bytes, one_answer x.answer y.answer)

-- ---- the ways

module _ {file o o' : List ℕ} {t t' : List (List ℕ)} {i : Import} {r : Outcome} (m : List ℕ) (x : Imports file o t o' t' i) where
  pub import_held : {y : Imported} → i ≡ Ok y → r ≡ ended (Ok y.bytes) → ImportMade file o t m o' t' (set m 0 y.frames) r
  import_held e f = let g = sym e ∙ x.answer in record { answer = rw (← g) f; bytes = x.bytes; times = x.times; frames = rw (← g) }

  pub import_refused : {x : Fault} → i ≡ Err x → r ≡ ended (Err x) → ImportMade file o t m o' t' m r
  import_refused e f = let g = sym e ∙ x.answer in record { answer = rw (← g) f; bytes = x.bytes; times = x.times; frames = rw (← g) }

pub export_made : {s o o' : List ℕ} {ts : List (List ℕ)} {p : Place} {r : Outcome} → Exports s ts o o' p → r ≡ ended p → ExportMade s ts o o' r
export_made x e = record { answer = e ∙ ap ended x.answer; bytes = x.bytes }
