-- Walks written from lent tables: a Twalk from spans of names (F5.14), an Rwalk from qids (F5.15).
use Rattle.numbers.specs.Place.{Place}
use Rattle.std.specs.Prelude.{ℕ, ◌≡◌, List, [], ◌∷◌, map, length, get_or}
use Rattle.numbers.specs.Reading.{Reading, ok}
use Rattle.fields.specs.Layouts.{num, str, Layout, Item, number, counted}
use Rattle.fields.specs.Values.{Value, val, span, shows}
use Rattle.layouts.specs.declared.qids.Qid.{Qid}
use Rattle.framing.specs.Writing.{frame_out, frame_past}

-- a frame made of what a table gives, or refused with it: a table's count comes before any element
pub record TableWritten (ty tag : ℕ) (m : Reading (List Item)) (o o' : List ℕ) (q : Place) : Type 0 where
  pub bytes : o' ≡ frame_out ty tag m o
  pub next : q ≡ frame_past ty tag m o

-- ---- names: a row of the table is a span, its start and its length

abbrev pub name_fields : List (List ℕ) → Layout
name_fields t = map (λ row. str) t

abbrev pub name_values : List (List ℕ) → List Value
name_values t = map (λ row. span (get_or row 0 0) (get_or row 1 0)) t

-- the fields of a Twalk (F3.2), its vector as a count and so many strings (F1.5)
abbrev pub walk_fields : List (List ℕ) → Layout
walk_fields t = num 4 ∷ num 4 ∷ num 2 ∷ name_fields t

abbrev pub walk_values : ℕ → ℕ → ℕ → List (List ℕ) → List Value
walk_values fid newfid count t = val fid ∷ val newfid ∷ val count ∷ name_values t

pub record TwalkWritten (tag fid newfid : ℕ) (lent : List ℕ) (t : List (List ℕ)) (o o' : List ℕ) (q : Place) : Type 0 where
  pub is : TableWritten 110 tag (counted (length t) (shows (walk_fields t) lent (walk_values fid newfid (length t) t))) o o' q

-- ---- qids (F1.6)

unfoldable pub qid_items : List Qid → List Item
qid_items [] = []
qid_items (x ∷ xs) = number 1 x.ty ∷ number 4 x.version ∷ number 8 x.path ∷ qid_items xs

-- an Rwalk is a vector of qids (F3.2)
pub record RwalkWritten (tag : ℕ) (t : List Qid) (o o' : List ℕ) (q : Place) : Type 0 where
  pub is : TableWritten 111 tag (counted (length t) (ok (number 2 (length t) ∷ qid_items t) [])) o o' q
