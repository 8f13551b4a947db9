-- Where a frame that is written, or an element that is asked for, is refused with 5 or 6, a text among the lent bytes breaks at that place, counted
-- from the first of them (F2.7).
use Rattle.numbers.proofs.PlaceLaws.{refused_one}
use Rattle.numbers.specs.Place.{Place}
use Rattle.std.specs.Prelude.{ℕ, ◌+◌, ◌*◌, ◌≤◌, Bool, drop, leb, ltb, eqb, Ok, Err}
use native.Mathlib.Omega.{arith}
use Rattle.std.proofs.Math.Path.{◌≡◌}
use Rattle.std.proofs.Common.{sym, ap₂, ◌∙◌}
use Rattle.std.proofs.Math.Bool.{true, false, cond}
use mathlib.Core.List.{List, [], ◌∷◌}
use Rattle.std.proofs.Math.ListN.{length, take}
use Rattle.numbers.specs.Numbers.{Bytes}
use Rattle.numbers.proofs.Numbers.{bytes_take, bytes_drop}
use Rattle.numbers.specs.Reading.{Reading, ok, bad, after}
use Rattle.numbers.proofs.ReadingLaws.{or_else}
use Rattle.numbers.specs.Places.{past_put}
use Rattle.numbers.specs.Refusals.{number_of}
use Rattle.numbers.specs.declared.Refusal.{Refusal}
use Rattle.numbers.specs.declared.Refusal.TheVariants as R
use Rattle.strings.specs.Strings.{ok_text}
use Rattle.strings.specs.Spans.{show_span, show_string}
use Rattle.strings.proofs.SpanLaws.{shown_in, shown_out, span_inv}
use Rattle.fields.specs.Layouts.{Shape, fixed, worded, Field, num, str, dat, strs, quids, boxed, Layout, Cell, words, Item, qids, box, read_many, cells_bytes, items_bytes}
use Rattle.fields.specs.Values.{Slot, slot_start, slot_len, first_slot, other_slots, slots_of, show_cell, show_cells, Value, start_of, len_of, count_of, cut_off, show_part, whole_part, show, first_of, others_of, shows}
use Rattle.laying.specs.Laying.{limit}
use Rattle.laying.proofs.LayingLaws.{span_shown, part_inv}
use Rattle.laying.specs.Elements.{asked_for, element_at}
use Rattle.framing.specs.Writing.{frame_bytes, frame_past, FrameWritten}
use Rattle.framing.specs.Broken.{OfText, Text, NotUtf8In, ZeroIn}
use Rattle.framing.proofs.Broken.{above, of_five, of_six, bad_inv, not_bad, any_rest, later, uncut, many_text, five_in, six_in}

module _ {k : Refusal} {n : ℕ} (t : OfText k) where
  span_no : (lent : List ℕ) (x y : ℕ) → show_span lent x y ≡ bad k n → ⊥
  span_no lent x y e =
      or_else (x + y) (length lent) (λ h. not_bad (sym (shown_in lent x y h) ∙ e))
      (λ h. let f = sym (shown_out lent x y h) ∙ e in above t R.SpanOutside (omega arith) (cc f))

  part_no : (lent : List ℕ) (m x y : ℕ) → show_part lent m x y ≡ bad k n → ⊥
  part_no lent m x y e = go (leb m 16) e
    where
      go : (u : Bool) → cond u (show_span lent x y) (bad R.TooManyElements 0) ≡ bad k n → ⊥
      go true f = span_no lent x y f
      go false f = above t R.TooManyElements (omega arith) (cc f)

  string_lent : (lent : List ℕ) (x y : ℕ) → show_string lent x y ≡ bad k n → Text k n 0 lent
  unfolding show_string
  string_lent lent x y e =
      bad_inv (show_span lent x y) _ e (λ f. absurd (span_no lent x y f))
      (λ bs r f g. go bs r (leb y 65535) (span_shown lent x y f).2 (span_inv lent x y f) g)
    where
      go : (bs r : List ℕ) (u : Bool) → bs ≡ take y (drop x lent) → x + y ≤ length lent → cond u (ok_text x bs r) (bad R.StringTooLong 0) ≡ bad k n
          → Text k n 0 lent
      go bs r true h l f =
          let z : 0 + x ≡ x = omega arith in
          record { off = x; len = y; lies = l; is = rw z (rw h at (any_rest x bs r f)) }
      go bs r false h l f = absurd (above t R.StringTooLong (omega arith) (cc f))

  -- the names of a part, which is what is left of them once its count and its span have passed
  whole_bad : (m : Reading (List (List ℕ))) → whole_part m ≡ bad k n → m ≡ bad k n
  whole_bad (ok a []) e = not_bad e
  whole_bad (ok a (b ∷ r)) e = absurd (above t R.PartMalformed (omega arith) (cc e))
  whole_bad (bad j i) e =
      let f : cut_off j ≡ k = cc e in
      let g : i ≡ n = cc e in
      ap₂ bad (go (eqb (number_of j) 1) f) g
    where
      go : (u : Bool) → cond u R.PartMalformed j ≡ k → j ≡ k
      go true f = absurd (above t R.PartMalformed (omega arith) f)
      go false f = f

  part_lent : (lent : List ℕ) (m x y : ℕ) → Bytes lent → x + y ≤ length lent → read_many m x (take y (drop x lent)) ≡ bad k n → Text k n 0 lent
  part_lent lent m x y b l e =
      let w = many_text t m x (take y (drop x lent)) (bytes_take y (drop x lent) (bytes_drop x lent b)) e in
      let z : 0 + x ≡ x = omega arith in
      later x 0 lent (omega arith) (rw z (uncut y x (drop x lent) w))

  cells_lent : (fs : List Shape) (lent : List ℕ) (vs : List Slot) → show_cells fs lent vs ≡ bad k n → Text k n 0 lent
  unfolding show_cells show_cell
  cells_lent [] lent vs e = not_bad e
  cells_lent (fixed w ∷ fs) lent vs e = bad_inv (show_cells fs lent (other_slots vs)) _ e (cells_lent fs lent (other_slots vs)) (λ cs r f g. not_bad g)
  cells_lent (worded ∷ fs) lent vs e =
      bad_inv (after (show_string lent (slot_start (first_slot vs)) (slot_len (first_slot vs))) (λ bs r. ok (words bs) r)) _ e
      (λ f. bad_inv (show_string lent (slot_start (first_slot vs)) (slot_len (first_slot vs))) _ f (string_lent lent (slot_start (first_slot vs)) (slot_len (first_slot vs))) (λ bs r g h. not_bad h))
      (λ c r f g. bad_inv (show_cells fs lent (other_slots vs)) _ g (cells_lent fs lent (other_slots vs)) (λ cs u h i. not_bad i))

  show_lent : (f : Field) (lent : List ℕ) (v : Value) → Bytes lent → show f lent v ≡ bad k n → Text k n 0 lent
  unfolding show
  show_lent (num w) lent v b e = not_bad e
  show_lent str lent v b e =
      bad_inv (show_string lent (start_of v) (len_of v)) _ e (string_lent lent (start_of v) (len_of v)) (λ bs r f g. not_bad g)
  show_lent dat lent v b e =
      bad_inv (show_span lent (start_of v) (len_of v)) _ e (λ f. absurd (span_no lent (start_of v) (len_of v) f)) (λ bs r f g. not_bad g)
  show_lent strs lent v b e =
      bad_inv (show_part lent (count_of v) (start_of v) (len_of v)) _ e (λ f. absurd (part_no lent (count_of v) (start_of v) (len_of v) f))
      (λ bs r f g. bad_inv (whole_part (read_many (count_of v) (start_of v) bs)) _ g
      (λ h.
      let i = (part_inv lent (count_of v) (start_of v) (len_of v) f).1 in
      let j = (span_shown lent (start_of v) (len_of v) i).2 in
      part_lent lent (count_of v) (start_of v) (len_of v) b (span_inv lent (start_of v) (len_of v) i) (rw j at (whole_bad (read_many (count_of v) (start_of v) bs) h)))
      (λ l u h i. not_bad i))
  show_lent quids lent v b e =
      bad_inv (show_part lent (count_of v) (start_of v) (len_of v)) _ e (λ f. absurd (part_no lent (count_of v) (start_of v) (len_of v) f))
      (λ bs r f g. absurd (go bs r (eqb (len_of v) (13 * count_of v)) g))
    where
      go : (bs r : List ℕ) (u : Bool) → cond u (ok (qids (count_of v) bs) r) (bad R.PartMalformed 0) ≡ bad k n → ⊥
      go bs r true f = not_bad f
      go bs r false f = above t R.PartMalformed (omega arith) (cc f)
  show_lent (boxed fs) lent v b e =
      bad_inv (show_cells fs lent (slots_of v)) _ e (cells_lent fs lent (slots_of v)) (λ cs r f g. absurd (go cs r (leb (2 + length (cells_bytes cs)) 65535) g))
    where
      go : (cs : List Cell) (r : List ℕ) (u : Bool) → cond u (ok (box cs) r) (bad R.StatMalformed 0) ≡ bad k n → ⊥
      go cs r true f = not_bad f
      go cs r false f = above t R.StatMalformed (omega arith) (cc f)

  shows_lent : (fs : Layout) (lent : List ℕ) (vs : List Value) → Bytes lent → shows fs lent vs ≡ bad k n → Text k n 0 lent
  unfolding shows
  shows_lent [] lent vs b e = not_bad e
  shows_lent (f ∷ fs) lent vs b e =
      bad_inv (show f lent (first_of vs)) _ e (show_lent f lent (first_of vs) b)
      (λ i r g h. bad_inv (shows fs lent (others_of vs)) _ h (shows_lent fs lent (others_of vs) b) (λ is u v w. not_bad w))

  asked_no : (lent : List ℕ) (v : Value) (i : ℕ) → asked_for lent v i ≡ bad k n → ⊥
  unfolding asked_for
  asked_no lent v i e =
      bad_inv (show_part lent (count_of v) (start_of v) (len_of v)) _ e (part_no lent (count_of v) (start_of v) (len_of v)) (λ bs r f g. go bs r (ltb i (count_of v)) g)
    where
      go : (bs r : List ℕ) (u : Bool) → cond u (ok bs r) (bad R.NoSuchElement 0) ≡ bad k n → ⊥
      go bs r true f = not_bad f
      go bs r false f = above t R.NoSuchElement (omega arith) (cc f)

  element_lent : (f : Field) (lent : List ℕ) (v : Value) (i : ℕ) → Bytes lent → element_at f lent v i ≡ bad k n → Text k n 0 lent
  unfolding element_at
  element_lent f lent v i b e =
      bad_inv (asked_for lent v i) _ e (λ g. absurd (asked_no lent v i g))
      (λ bs r g h. bad_inv (show f lent v) _ h (show_lent f lent v b) (λ it u w z. not_bad z))

  -- a frame that is refused so was so by its fields
  past_bad : (ty tag : ℕ) (m : Reading (List Item)) (o : List ℕ) → frame_past ty tag m o ≡ Err (k, n) → m ≡ bad k n
  unfolding frame_past past_put
  past_bad ty tag (bad j i) o e = let f = refused_one e in ap₂ bad f.0 f.1
  past_bad ty tag (ok is r) o e = absurd (go (ltb (7 + length (items_bytes is)) limit) (leb (0 + length (frame_bytes ty tag is)) (length o)) e)
    where
      go : (u w : Bool) → cond {A = Place} u (cond w (Ok (0 + length (frame_bytes ty tag is))) (Err (R.NoRoom, 0))) (Err (R.FrameTooLong, 0)) ≡ Err (k, n) → ⊥
      go true true f = let z : ◌≡◌ {A = ℕ} 0 1 = cc f in omega arith
      go true false f = above t R.NoRoom (omega arith) (refused_one f).0
      go false w f = above t R.FrameTooLong (omega arith) (refused_one f).0

module _ {fs : Layout} {ty tag n : ℕ} {lent : List ℕ} {vs : List Value} {o o' : List ℕ} {q : Place} (b : Bytes lent) (w : FrameWritten fs ty tag lent vs o o' q) where
  pub written_five : q ≡ Err (R.NotUtf8, n) → NotUtf8In lent n
  written_five e = five_in lent (shows_lent of_five fs lent vs b (past_bad of_five ty tag (shows fs lent vs) o (sym w.next ∙ e)))

  pub written_six : q ≡ Err (R.ZeroByte, n) → ZeroIn lent n
  written_six e = six_in lent (shows_lent of_six fs lent vs b (past_bad of_six ty tag (shows fs lent vs) o (sym w.next ∙ e)))

module _ (f : Field) (lent : List ℕ) (v : Value) (i : ℕ) {n : ℕ} (b : Bytes lent) where
  pub element_five : element_at f lent v i ≡ bad R.NotUtf8 n → NotUtf8In lent n
  element_five e = five_in lent (element_lent of_five f lent v i b e)

  pub element_six : element_at f lent v i ≡ bad R.ZeroByte n → ZeroIn lent n
  element_six e = six_in lent (element_lent of_six f lent v i b e)
