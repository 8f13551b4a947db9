-- A request whose two strings are lent apart, as Rust has it (F5.20).
use Rattle.numbers.specs.Place.{Place}
use Rattle.std.specs.Prelude.{ℕ, ◌≡◌, refl, List, ◌++◌, Ok}
use Rattle.std.proofs.Math.Option.{some}
use Rattle.fields.specs.Layouts.{Layout}
use Rattle.layouts.specs.Tables.{Row, table_t, lookup}
use Rattle.framing.specs.Writing.{HeadPut}
use Rattle.apart.specs.Apart.{table_two, together, ApartWritten}
use Rattle.apart.proofs.ApartLaws.{row_of_two}
use Rattle.exports.specs.Answers.{ended}
use Rattle.exports.specs.Frames.{FlatWrote}
use Rattle.exports.specs.FrameWriting.{frame_wrote}
use Rattle.exports.specs.declared.Outcome.{Outcome}

-- a frame written from flat values, its type one of those with two strings, and the two slices lent as one
pub record TwoWrote (ty tag : ℕ) (ns first second o o' : List ℕ) (r : Outcome) : Type 0 where
  pub is : FlatWrote table_two 0 ty tag (together (lookup table_two ty) first second ns) (first ++ second) o o' r

pub two_wrote : {ty tag : ℕ} {ns first second o o1 o2 : List ℕ} {e q : Place} {r : Outcome} → ApartWritten (lookup table_two ty) first second ns o (Ok 7) o1 e → HeadPut ty tag e o1 o2 q
    → r ≡ ended q → TwoWrote ty tag ns first second o o2 r
two_wrote b h x = record { is = frame_wrote refl b.is h x }

-- ---- of such a type it is what `sheafsledge_write_tframe` promises

module _ {ty tag : ℕ} {o o' : List ℕ} {l : Layout} {r : Outcome} where
  same_row : {rows others : List Row} {ns lent : List ℕ} → lookup rows ty ≡ some l → lookup others ty ≡ some l → FlatWrote rows 0 ty tag ns lent o o' r
      → FlatWrote others 0 ty tag ns lent o o' r
  same_row e f w = record { is = rw f (rw e at w.is) }

  pub as_one : {ns first second : List ℕ} → lookup table_two ty ≡ some l → TwoWrote ty tag ns first second o o' r
      → FlatWrote table_t 0 ty tag (together (lookup table_two ty) first second ns) (first ++ second) o o' r
  as_one e w = same_row e (row_of_two ty e) w.is
