-- What holds of the definitions in specs/Stripped.antt.
use Rattle.std.specs.Prelude.{ℕ, ◌+◌, ◌-◌, ◌≤◌, ◌<◌, ◌≡◌, Ok}
use native.Mathlib.Omega.{arith}
use Rattle.std.proofs.Math.Path.{sym, ap}
use Rattle.std.proofs.Common.{ap₂, ◌∙◌, length-append, take-append-drop, take_at, drop_at}
use mathlib.Core.List.{List, [], ◌++◌, map, append_assoc, append-nil}
use Rattle.std.proofs.Math.Option.{some}
use Rattle.std.proofs.Math.ListN.{length, take, drop, length-take}
use Rattle.std.proofs.Math.Seq.{take-take}
use borrow.Author.Tests.{lt-ltb, le-ltb}
use Rattle.numbers.specs.Numbers.{to_le}
use Rattle.numbers.proofs.Numbers.{length_to_le}
use Rattle.numbers.specs.Reading.{ok, read_num}
use Rattle.numbers.proofs.ReadingLaws.{or_else, reads_num, cutting, raw_short}
use Rattle.numbers.specs.Places.{over}
use Rattle.numbers.specs.declared.Refusal.TheVariants as R
use Rattle.fields.specs.Layouts.{Layout, Item, kind, items_bytes}
use Rattle.fields.proofs.LayoutLaws.{reads_fields}
use Rattle.fields.specs.Values.{Value, places, shows}
use Rattle.fields.proofs.ValueLaws.{shows_items}
use Rattle.laying.specs.Laying.{limit}
use Rattle.layouts.specs.Tables.{Row, lookup}
use Rattle.layouts.specs.Bodies.{accepted, refused}
use Rattle.framing.specs.Frames.{read_type_tag, read_header, framed, frame_of, read_frame}
use Rattle.framing.specs.Writing.{head_bytes, frame_bytes, frame_out, frame_past}
use Rattle.laying.proofs.LayingLaws.{drop_take}
use Rattle.framing.proofs.WritingLaws.{head_length, put_fits, past_fits, frame_length}
use Rattle.framing.specs.Stretch.{answer_in}
use Rattle.framing.specs.Accepted.{Stands, Accepts}
use Rattle.framing.proofs.Accepted.{reads_frame}
use Rattle.framing.specs.Stripped.{resized, cut_at}

-- a frame of k bytes is no more than those, and its size is theirs
after_size : (n m ty tag : ℕ) (b : List ℕ) → to_le 4 n ++ drop 4 (head_bytes m ty tag ++ b) ≡ head_bytes n ty tag ++ b
after_size n m ty tag b =
    let h : head_bytes m ty tag ++ b ≡ to_le 4 m ++ (to_le 1 ty ++ (to_le 2 tag ++ b)) = simp append_assoc in
    ap (λ (x : List ℕ). to_le 4 n ++ drop 4 x) h ∙ ap (λ (x : List ℕ). to_le 4 n ++ x) (drop_at (to_le 4 m) _ 4 (length_to_le 4 m)) ∙ (simp append_assoc)

module _ (rows : List Row) (s : List ℕ) {ty tag used : ℕ} {vs : List Value} (A : Accepts rows s ty tag vs used) where
  whole_length : 7 + length (items_bytes A.items) + length A.left ≤ A.size
  whole_length =
      let a = length-take A.size s in
      let b : length (take A.size s) ≡ 7 + (length (items_bytes A.items) + length A.left)
      = ap length A.held ∙ length-append (head_bytes A.size ty tag) (items_bytes A.items ++ A.left)
      ∙ ap₂ (λ m n. m + n) (head_length A.size ty tag) (length-append (items_bytes A.items) A.left) in
      omega arith

  -- the fields lie within the size
  pub used_within : used ≤ A.size
  used_within = let a = whole_length in let b = A.uses in omega arith

  pub first_used : take used s ≡ head_bytes A.size ty tag ++ items_bytes A.items
  first_used =
      let h : List ℕ = head_bytes A.size ty tag in
      let i : List ℕ = items_bytes A.items in
      let l : length (h ++ i) ≡ used = length-append h i ∙ ap (λ n. n + length i) (head_length A.size ty tag) ∙ sym A.uses in
      sym (take-take used A.size s used_within) ∙ ap (take used) (A.held ∙ sym (append_assoc h i A.left)) ∙ take_at (h ++ i) A.left used l

  pub stripped_is : resized used s ≡ head_bytes used ty tag ++ items_bytes A.items
  unfolding resized
  stripped_is = ap (λ (x : List ℕ). to_le 4 used ++ drop 4 x) first_used ∙ after_size used A.size ty tag (items_bytes A.items)

  pub stands_at : (n : ℕ) → n ≤ A.size → Stands rows n ty tag A.items
  stands_at n h = record {
    sized = let a = A.stands.sized in omega arith;
    typed = A.stands.typed;
    tagged = A.stands.tagged;
    goods = A.stands.goods;
    known = A.stands.known;
  }

  -- a stripped frame gives the same record
  pub stripped_read : read_frame rows (resized used s) ≡ framed 0 tag (accepted ty vs used)
  stripped_read =
      let i : List ℕ = items_bytes A.items in
      let e : head_bytes used ty tag ++ i ≡ head_bytes used ty tag ++ (i ++ []) ++ [] = simp append-nil in
      let u = A.uses in
      ap (read_frame rows) (stripped_is ∙ e) ∙ reads_frame rows used ty tag A.items [] [] (stands_at used used_within) (simp append-nil (omega arith))
      ∙ ap₂ (λ v n. framed 0 tag (accepted ty v n)) (sym A.values) (sym u)

  -- what the record shows of the frame's bytes
  pub shows_record : {l : Layout} → lookup rows ty ≡ some l → shows l s vs ≡ ok A.items []
  shows_record {l} known =
      let h : List ℕ = head_bytes A.size ty tag in
      let i : List ℕ = items_bytes A.items in
      let r : List ℕ = drop A.size s in
      let e : s ≡ h ++ (i ++ (A.left ++ r)) = sym (take-append-drop A.size s) ∙ ap (λ (x : List ℕ). x ++ r) A.held ∙ (simp append_assoc) in
      let k = sym known ∙ A.stands.known in
      let f : l ≡ map kind A.items = cc k in
      ap₂ (λ x v. shows x s v) f A.values
      ∙ ap (λ (x : List ℕ). shows (map kind A.items) x (places 7 A.items)) e
      ∙ shows_items A.items h (A.left ++ r) 7 A.stands.goods (head_length A.size ty tag)

  -- and is written back byte for byte
  pub stripped_written : {l : Layout} → lookup rows ty ≡ some l → (o : List ℕ) → used ≤ length o
      → (frame_out ty tag (shows l s vs) o ≡ over o 0 (resized used s)) × (frame_past ty tag (shows l s vs) o ≡ Ok used)
  unfolding frame_out frame_past frame_bytes
  stripped_written known o h =
      let u = A.uses in
      let b : frame_bytes ty tag A.items ≡ resized used s = ap (λ n. head_bytes n ty tag ++ items_bytes A.items) (sym u) ∙ sym stripped_is in
      let l = frame_length ty tag A.items in
      let z = A.stands.sized in
      let w = used_within in
      let t = lt-ltb (7 + length (items_bytes A.items)) limit (omega arith) in (
        rw (shows_record known, t) (put_fits (frame_bytes ty tag A.items) o 0 (omega arith) ∙ ap (over o 0) b),
        rw (shows_record known, t) (past_fits (frame_bytes ty tag A.items) o 0 (omega arith) ∙ ap Ok (omega arith)),
      )

-- after the size: type, tag and items, cut anywhere
cut_body : (rows : List Row) {size ty tag : ℕ} {is : List Item} → Stands rows size ty tag is → (m : ℕ) → m < length (to_le 1 ty ++ (to_le 2 tag ++ items_bytes is))
    → answer_in (frame_of rows (read_type_tag (take m (to_le 1 ty ++ (to_le 2 tag ++ items_bytes is))))) ≡ refused R.Short 0
unfolding read_type_tag
cut_body rows {size} {ty} {tag} {is} w m h =
    cutting (reads_num 1 ty w.typed) (to_le 2 tag ++ items_bytes is) m h (λ e. rw e)
    (λ m1 h1 e. rw e
    (cutting (reads_num 2 tag w.tagged) (items_bytes is) m1 h1 (λ e1. rw e1) (λ m2 h2 e1. rw (e1, w.known, (reads_fields 7 is w.goods).cut m2 h2))))

module _ (rows : List Row) (s : List ℕ) {ty tag used : ℕ} {vs : List Value} (A : Accepts rows s ty tag vs used) (j : ℕ) (h : j < used) where
  abbrev rest : List ℕ
  rest = to_le 1 ty ++ (to_le 2 tag ++ items_bytes A.items)

  rest_length : length rest ≡ 3 + length (items_bytes A.items)
  rest_length = simp (length-append, length_to_le) (omega arith)

  size_cut : j < 4 → answer_in (read_frame rows (take j s)) ≡ refused R.Short 0
  unfolding read_frame read_header read_num
  size_cut l = let d = length-take j s in rw (raw_short 4 (take j s) (omega arith))

  first_cut : 4 ≤ j → resized j s ≡ to_le 4 j ++ take (j - 4) rest
  unfolding resized
  first_cut l =
      let e : j ≡ 4 + (j - 4) = omega arith in
      let t : take j s ≡ take j (to_le 4 A.size ++ rest) = sym (take-take j used s (omega arith)) ∙ ap (take j) (first_used rows s A ∙ (simp append_assoc)) in
      ap (λ (x : List ℕ). to_le 4 j ++ drop 4 x) t ∙ ap (λ n. to_le 4 j ++ drop 4 (take n (to_le 4 A.size ++ rest))) e
      ∙ ap (λ (x : List ℕ). to_le 4 j ++ x) (drop_take 4 (j - 4) (to_le 4 A.size ++ rest) ∙ ap (take (j - 4)) (drop_at (to_le 4 A.size) rest 4 (length_to_le 4 A.size)))

  fields_cut : 4 ≤ j → answer_in (read_frame rows (resized j s)) ≡ refused R.Short 0
  unfolding read_frame read_header
  fields_cut l =
      let z = A.stands.sized in
      let w = used_within rows s A in
      let u = A.uses in
      let r = rest_length in
      rw (first_cut l, (reads_num 4 j (omega arith)).back (take (j - 4) rest), le-ltb j 4 l, take-take (j - 4) (j - 4) rest (omega arith))
      (cut_body rows A.stands (j - 4) (omega arith))

  pub cut_short : answer_in (read_frame rows (cut_at j s)) ≡ refused R.Short 0
  unfolding cut_at
  cut_short = or_else 4 j (λ l. rw (le-ltb j 4 l) (fields_cut l)) (λ l. rw (lt-ltb j 4 l) (size_cut l))
