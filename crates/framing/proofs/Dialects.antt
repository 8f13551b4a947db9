-- What holds of the definitions in specs/Dialects.antt.
use Rattle.numbers.specs.Place.{Place}
use Rattle.std.specs.Prelude.{ℕ, ◌+◌, ◌-◌, ◌^◌, ◌≤◌, ◌<◌, ◌≡◌, List, ◌++◌, length, take, drop, Ok}
use Rattle.std.proofs.Common.{arith, sym, ap₂, ◌∙◌, subst, length-append, drop_at}
use Rattle.std.proofs.Math.Path.{ap}
use Rattle.std.proofs.Math.Seq.{take-length}
use Rattle.numbers.specs.Numbers.{Bytes, to_le}
use Rattle.numbers.proofs.Numbers.{length_to_le, bytes_to_le, bytes_join, bytes_take, bytes_drop}
use Rattle.numbers.specs.Places.{over}
use Rattle.numbers.specs.declared.Refusal.{Refusal}
use Rattle.numbers.specs.declared.Refusal.TheVariants as R
use Rattle.fields.specs.Layouts.{items_bytes}
use Rattle.fields.specs.Values.{Value}
use Rattle.layouts.specs.Tables.{Row}
use Rattle.layouts.specs.Bodies.{Answer, accepted, refused}
use Rattle.framing.specs.Frames.{framed, read_frame}
use Rattle.framing.specs.Writing.{head_bytes, FrameWritten}
use Rattle.framing.proofs.WritingLaws.{head_length}
use Rattle.framing.specs.Local.{size_in}
use Rattle.framing.proofs.Local.{local}
use Rattle.framing.specs.Stretch.{type_in, tag_in, answer_in, answer_of, Step, frame, end, stop, frame_at, Listing, entry, ends, stops, listing}
use Rattle.framing.specs.ListingLaws.{goes_on, stops_at}
use Rattle.framing.proofs.ListingLaws.{listed, list_step, moves_on}
use Rattle.framing.specs.Accepted.{Accepts}
use Rattle.framing.proofs.Accepted.{at_front, accepts}
use Rattle.framing.specs.ReadBack.{Readable, Back}
use Rattle.framing.proofs.ReadBack.{read_back}
use Rattle.framing.specs.Stripped.{resized, cut_at}
use Rattle.framing.proofs.Stripped.{stripped_is, stripped_read, stripped_written, cut_short}
use Rattle.framing.specs.Demand.{Whole, Edited, old_lines, new_lines, repeated}
use Rattle.framing.proofs.Demand.{old_listed, new_listed, accident}
use Rattle.framing.specs.Shown.{records_in}
use Rattle.framing.proofs.Shown.{same_records}
use Rattle.framing.specs.Joining.{joined, Ends}
use Rattle.framing.proofs.JoiningLaws.{end_is_length, joined_listing}
use Rattle.framing.specs.Damage.{Has, Damaged, EqualBut}
use Rattle.framing.proofs.DamageLaws.{damaged_listing}
use Rattle.framing.specs.Dialects.{Direction}

-- ---- `frame_at`, asked at a position and then at each next one

module _ (rowsT rowsR : List Row) where
  pub data Lists (s : List ℕ) : ℕ → Listing → Type 0 where
    frames : {p at size ty tag tail next : ℕ} {a : Answer} {L : Listing} → frame at size ty tag a tail next ≡ frame_at rowsT rowsR s p → Lists s next L → Lists s p (entry at size ty tag a tail L)
    ended : {p q : ℕ} → end q ≡ frame_at rowsT rowsR s p → Lists s p (ends q)
    stopped : {p q : ℕ} {k : Refusal} → stop k q ≡ frame_at rowsT rowsR s p → Lists s p (stops k q)

  -- what is listed from a position on, by the step there
  pub listed_by : (s : List ℕ) (p : ℕ) (r : Step) → p ≤ length s → r ≡ frame_at rowsT rowsR s p → listed rowsT rowsR s p ≡ goes_on r (listed rowsT rowsR s)
  listed_by s p r h a = list_step rowsT rowsR s p h ∙ ap (λ x. goes_on x (listed rowsT rowsR s)) (sym a)

  lists_from : (s : List ℕ) {p : ℕ} {L : Listing} → p ≤ length s → Lists s p L → L ≡ listed rowsT rowsR s p
  lists_from s {p} h (frames {at = at} {size} {ty} {tag} {tail} {next} {a} e n) =
      let m = moves_on rowsT rowsR s (sym e) in
      ap (entry at size ty tag a tail) (lists_from s m.within n) ∙ sym (listed_by s p (frame at size ty tag a tail next) h e)
  lists_from s {p} h (ended {q = q} e) = sym (listed_by s p (end q) h e)
  lists_from s {p} h (stopped {q = q} {k = k} e) = sym (listed_by s p (stop k q) h e)

  -- from 0 on, it is the definition's listing
  pub lists : (s : List ℕ) {L : Listing} → Lists s 0 L → L ≡ listing rowsT rowsR s
  unfolding listing
  lists s a = lists_from s (omega arith) a

  -- 1. lengthened and inserted
  pub lists_edited : {old new : List ℕ} {L N : Listing} (e : Edited rowsT rowsR old new) → Bytes old → Bytes new → Lists old 0 L → Lists new 0 N → (L ≡ old_lines 0 e) × (N ≡ new_lines 0 e) × (records_in rowsT rowsR new N ≡ records_in rowsT rowsR old L)
  unfolding listing
  lists_edited {old} {new} e b c x y =
      let l = lists old x in
      let n = lists new y in
      (l ∙ old_listed rowsT rowsR e 0 b, n ∙ new_listed rowsT rowsR e 0 b c, ap (records_in rowsT rowsR new) n ∙ same_records rowsT rowsR e b c ∙ ap (records_in rowsT rowsR old) (sym l))

  -- 6. a frame with a copy of itself after its last field, inside its size, is listed as one, and the copy is its tail
  pub lists_once : (f : List ℕ) {ty used : ℕ} {vs : List Value} {L : Listing} → Bytes f → Whole f → length f + length f < 256 ^ 4 → answer_of rowsT rowsR f ≡ accepted ty vs used → Lists (repeated f) 0 L
      → L ≡ entry 0 (length f + length f) (type_in f) (tag_in f) (accepted ty vs used) (length f - used + length f) (ends (length f + length f))
  lists_once f b w h a x = lists (repeated f) x ∙ accident rowsT rowsR f b w a h

  -- 7. two stretches joined, of which the first reads to its end
  pub lists_joined : (s t : List ℕ) {L M N : Listing} → Lists s 0 L → Lists t 0 M → Lists (s ++ t) 0 N → Ends L → (stops_at L ≡ length s) × (N ≡ joined L M)
  lists_joined s t x y z e =
      let l = lists s x in
      let h = subst Ends l e in
      (ap stops_at l ∙ end_is_length rowsT rowsR s h, lists (s ++ t) z ∙ joined_listing rowsT rowsR s t h ∙ ap₂ joined (sym l) (sym (lists t y)))

  -- 8. a stretch and one that differs from it inside one of its frames
  pub lists_damaged : {p n : ℕ} {s t : List ℕ} {L M : Listing} → Damaged p n s t → Lists s 0 L → Lists t 0 M → Has p n L → EqualBut p n L M
  lists_damaged {p} {n} {s} {t} {L} d x y h =
      let l = lists s x in
      let e = damaged_listing rowsT rowsR d (subst (Has p n) l h) in
      subst (EqualBut p n L) (sym (lists t y)) (subst (λ z. EqualBut p n z (listing rowsT rowsR t)) (sym l) e)

-- ---- a stripped frame has nothing left to strip

resized_bytes : (n : ℕ) (s : List ℕ) → Bytes s → Bytes (resized n s)
unfolding resized
resized_bytes n s b = bytes_join (to_le 4 n) (drop 4 (take n s)) (bytes_to_le 4 n) (bytes_drop 4 (take n s) (bytes_take n s b))

resized_again : (n : ℕ) (s : List ℕ) → length (resized n s) ≡ n → resized n (resized n s) ≡ resized n s
unfolding resized
resized_again n s e =
    let r : List ℕ = to_le 4 n ++ drop 4 (take n s) in
    ap (λ (x : List ℕ). to_le 4 n ++ drop 4 x) (ap (λ k. take k r) (sym e) ∙ take-length r) ∙ ap (λ (x : List ℕ). to_le 4 n ++ x) (drop_at (to_le 4 n) (drop 4 (take n s)) 4 (length_to_le 4 n))

stripped_length : (rows : List Row) (s : List ℕ) {ty tag used : ℕ} {vs : List Value} → Accepts rows s ty tag vs used → length (resized used s) ≡ used
stripped_length rows s {ty} {tag} {used} A =
    ap length (stripped_is rows s A) ∙ length-append (head_bytes used ty tag) (items_bytes A.items) ∙ ap (λ n. n + length (items_bytes A.items)) (head_length used ty tag) ∙ sym A.uses

module _ (d : Direction) where
  -- what the reader may answer for s
  abbrev pub Reads : List ℕ → d.Read → Type 0
  Reads s r = d.view r ≡ d.whole (read_frame d.rows s)

  module _ (s : List ℕ) (f : d.Read) (m : d.Message) (p tag used : ℕ) (b : Bytes s) (v : d.view f ≡ framed p tag (accepted (d.type m) (d.values m) used)) (c : Reads s f) where
    got : read_frame d.rows s ≡ framed p tag (accepted (d.type m) (d.values m) used)
    got = d.good (read_frame d.rows s) p tag (d.type m) used (d.values m) (sym c ∙ v)

    abbrev is : Accepts d.rows s (d.type m) tag (d.values m) used
    is = accepts d.rows s b got

    -- 2. stripped: the same frame is read
    pub stripped : (r : d.Read) → Reads (resized used s) r → r ≡ f
    stripped r e = d.one r f (e ∙ ap d.whole (stripped_read d.rows s is ∙ ap (λ x. framed x tag (accepted (d.type m) (d.values m) used)) (sym (at_front d.rows s got)) ∙ sym got) ∙ sym c)

    -- and writing it, given room, gives those bytes
    pub written : {o o' : List ℕ} {q : Place} → used ≤ length o → FrameWritten (d.layout m) (d.type m) tag s (d.values m) o o' q → (o' ≡ over o 0 (resized used s)) × (q ≡ Ok used)
    written {o} h w = let y = stripped_written d.rows s is (d.known m) o h in (w.bytes ∙ y.0, w.next ∙ y.1)

    -- also when the stripped bytes are lent in place of the frame
    pub written_again : {o o' : List ℕ} {q : Place} → used ≤ length o → FrameWritten (d.layout m) (d.type m) tag (resized used s) (d.values m) o o' q → (o' ≡ over o 0 (resized used s)) × (q ≡ Ok used)
    written_again {o} h w =
        let A : Accepts d.rows (resized used s) (d.type m) tag (d.values m) used = accepts d.rows (resized used s) (resized_bytes used s b) (stripped_read d.rows s is) in
        let y = stripped_written d.rows (resized used s) A (d.known m) o h in
        (w.bytes ∙ y.0 ∙ ap (over o 0) (resized_again used s (stripped_length d.rows s is)), w.next ∙ y.1)

    -- 4. cut
    pub cut : (j : ℕ) → j < used → (r : d.Read) → Reads (cut_at j s) r → answer_in (d.view r) ≡ refused R.Short 0
    cut j h r e = ap answer_in e ∙ d.same (read_frame d.rows (cut_at j s)) ∙ cut_short d.rows s is j h

  -- 3. read back
  pub back : (m : d.Message) {tag n : ℕ} {lent o o' : List ℕ} → Bytes lent → tag < 256 ^ 2 → Readable (d.layout m) (d.values m)
      → FrameWritten (d.layout m) (d.type m) tag lent (d.values m) o o' (Ok n) → Back d.rows (d.layout m) (d.type m) tag lent (d.values m) o' n
  back m b g h w = read_back d.rows (d.known m) (d.small m) g b h w

  -- 5. local
  pub local_read : (s t : List ℕ) (r r' : d.Read) → take 4 s ≡ take 4 t → take (size_in s) s ≡ take (size_in s) t → Reads s r → Reads t r' → r ≡ r'
  local_read s t r r' e f a b = d.one r r' (a ∙ ap d.whole (local d.rows s t e f) ∙ sym b)
