-- What holds of the definitions in specs/Shown.antt.
use Rattle.std.specs.Prelude.{ℕ, ◌+◌, ◌≡◌, length, drop}
use Rattle.std.proofs.Common.{◌∙◌, length-append}
use Rattle.std.proofs.Math.Path.{refl, sym, ap, ap₂}
use mathlib.Core.List.{List, [], ◌∷◌, ◌++◌, map, append_assoc}
use Rattle.std.proofs.Math.Option.{some}
use Rattle.std.proofs.Math.Seq.{take-length}
use Rattle.numbers.specs.Numbers.{Bytes}
use Rattle.numbers.proofs.Numbers.{bytes_split}
use Rattle.numbers.specs.Reading.{Reading, ok}
use Rattle.fields.specs.Layouts.{Item, kind}
use Rattle.fields.specs.Values.{Value, shows}
use Rattle.layouts.specs.Tables.{Row, lookup}
use Rattle.layouts.specs.Bodies.{accepted}
use Rattle.framing.specs.Frames.{read_frame}
use Rattle.framing.specs.Raising.{raise_value}
use Rattle.framing.specs.Stretch.{type_in, tag_in, table_for, answer_of, listing}
use Rattle.framing.proofs.CutLaws.{whole_header}
use Rattle.framing.proofs.Accepted.{body_inv}
use Rattle.framing.specs.Demand.{Whole, Lengthened, Edited, nothing, grown, added, old_lines, new_lines}
use Rattle.framing.proofs.Demand.{grown_frame, old_listed, new_listed}
use Rattle.framing.proofs.Positions.{shows_among}
use Rattle.framing.specs.Shown.{Record, shown, fields_of, records_in}

module _ (ts rs : List Row) where
  -- an accepted frame has the type that stands in it
  type_is : (f : List ℕ) {ty used : ℕ} {vs : List Value} → Whole f → answer_of ts rs f ≡ accepted ty vs used → type_in f ≡ ty
  unfolding answer_of read_frame
  type_is f w a =
      body_inv (type_in f) 7 (lookup (table_for ts rs (type_in f)) (type_in f)) (drop 7 f) (rw ((whole_header f w.seven w.sized).reads, take-length f) at a) (λ l is r e1 e2 e3 e4 e5. e3)

  same_shown : (f g : List ℕ) {ty used : ℕ} {vs : List Value} → Bytes f → Bytes g → Whole f → answer_of ts rs f ≡ accepted ty vs used → Lengthened f g used → (x x' y y' : List ℕ)
      → shows (fields_of (lookup (table_for ts rs (type_in f)) (type_in f))) (x' ++ (g ++ y')) (map (raise_value (length x')) vs)
      ≡ shows (fields_of (lookup (table_for ts rs (type_in f)) (type_in f))) (x ++ (f ++ y)) (map (raise_value (length x)) vs)
  same_shown f g {vs = vs} b c w a l x x' y y' =
      let rows : List Row = table_for ts rs (type_in f) in
      let G = grown_frame ts rs f g b c a l in
      let k : lookup rows (type_in f) ≡ some (map kind G.old.items) = ap (lookup rows) (type_is f w a) ∙ G.old.stands.known in
      rw k
      (shows_among rows g G.new (rw G.items at G.new.stands.known) x' y' ∙ ap (λ i. ok i []) G.items ∙ sym (shows_among rows f G.old G.old.stands.known x y))

  -- one frame on, in a stretch that goes on after it
  further : (x f y : List ℕ) → x ++ (f ++ y) ≡ (x ++ f) ++ y
  further x f y = sym (append_assoc x f y)

  on : (x f : List ℕ) → length x + length f ≡ length (x ++ f)
  on x f = sym (length-append x f)

  same_lines : {old new : List ℕ} (e : Edited ts rs old new) (x x' : List ℕ) → Bytes old → Bytes new
      → records_in ts rs (x' ++ new) (new_lines (length x') e) ≡ records_in ts rs (x ++ old) (old_lines (length x) e)
  unfolding records_in old_lines new_lines
  same_lines nothing x x' b c = refl
  same_lines (grown {old = old} {new = new} f g ty used vs w a l e) x x' b c =
      let p = bytes_split f old b in
      let q = bytes_split g new c in
      ap₂ (λ (r : Reading (List Item)) (z : List Record). shown (type_in f) (tag_in f) r ∷ z) (same_shown f g p.0 q.0 w a l x x' old new)
      (ap₂ (λ (z : List ℕ) n. records_in ts rs z (new_lines n e)) (further x' g new) (on x' g) ∙ same_lines e (x ++ f) (x' ++ g) p.1 q.1
      ∙ sym (ap₂ (λ (z : List ℕ) n. records_in ts rs z (old_lines n e)) (further x f old) (on x f)))
  same_lines (added {new = new} f s e) x x' b c =
      ap₂ (λ (z : List ℕ) n. records_in ts rs z (new_lines n e)) (further x' f new) (on x' f) ∙ same_lines e x (x' ++ f) b (bytes_split f new c).1

  -- of an edited stretch the same records are shown
  pub same_records : {old new : List ℕ} → Edited ts rs old new → Bytes old → Bytes new → records_in ts rs new (listing ts rs new) ≡ records_in ts rs old (listing ts rs old)
  unfolding listing
  same_records {old} {new} e b c =
      ap (records_in ts rs new) (new_listed ts rs e 0 b c) ∙ same_lines e [] [] b c ∙ ap (records_in ts rs old) (sym (old_listed ts rs e 0 b))
