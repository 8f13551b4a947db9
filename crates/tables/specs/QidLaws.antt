-- An Rwalk written by steps from a table of qids is what the definition writes.
use Rattle.numbers.specs.Place.{Place}
use Prim.Native.Nat.{ℕ, zero, suc, ◌+◌, ◌*◌, ◌≤◌, ◌<◌}
use Rattle.std.proofs.Common.{arith, ◌∙◌, length-take-le}
use Rattle.std.specs.Prelude.{◌≡◌, true, take, get_or, ltb, Ok, Err}
use Rattle.std.proofs.Math.Path.{refl, sym, ap}
use mathlib.Core.List.{List, [], ◌∷◌, ◌++◌, append_assoc, append-nil}
use Rattle.std.proofs.Math.ListN.{length, length-append}
use Rattle.std.proofs.Math.Seq.{take-length}
use borrow.Author.Tests.{le-leb, lt-leb, lt-ltb, le-ltb}
use Rattle.numbers.specs.Numbers.{to_le}
use Rattle.numbers.proofs.Numbers.{length_to_le}
use Rattle.numbers.proofs.ReadingLaws.{or_else}
use Rattle.numbers.specs.Places.{over, Put}
use Rattle.numbers.proofs.PlaceLaws.{length_over, put_then}
use Rattle.numbers.specs.declared.Fault.{Fault}
use Rattle.numbers.specs.declared.Refusal.{Refusal}
use Rattle.numbers.specs.declared.Refusal.TheVariants as R
use Rattle.fields.specs.Layouts.{Item, number, item_bytes, items_bytes}
use Rattle.fields.specs.Fields.{CountCheck}
use Rattle.fields.proofs.FieldLaws.{count_passed, count_refused}
use Rattle.laying.specs.Laying.{limit}
use Rattle.layouts.specs.declared.qids.Qid.{Qid}
use Rattle.framing.specs.Writing.{head_bytes, frame_bytes, frame_out, frame_past, HeadPut}
use Rattle.framing.proofs.WritingLaws.{head_length, put_fits, past_fits, put_over, put_full, frame_length, over_none}
use Rattle.tables.specs.Tables.{qid_items, RwalkWritten}
use Rattle.tables.specs.Qids.{no_qid, qid_bytes, put_qid, placed, rwalk_past, all_of, to_follow, head_at, headed}

-- ---- the qids, one after the other

abbrev pub qids_bytes : List Qid → List ℕ
qids_bytes t = items_bytes (qid_items t)

qid_length : (x : Qid) → length (qid_bytes x) ≡ 13
qid_length x = simp (length-append, length_to_le)

qids_cons : (x : Qid) (t : List Qid) → qids_bytes (x ∷ t) ≡ qid_bytes x ++ qids_bytes t
unfolding qid_items items_bytes item_bytes
qids_cons x t =
    ap (λ (z : List ℕ). to_le 1 x.ty ++ z) (sym (append_assoc (to_le 4 x.version) (to_le 8 x.path) (qids_bytes t)))
    ∙ sym (append_assoc (to_le 1 x.ty) (to_le 4 x.version ++ to_le 8 x.path) (qids_bytes t))
    ∙ ap (λ (z : List ℕ). z ++ qids_bytes t) (sym (append_assoc (to_le 1 x.ty) (to_le 4 x.version) (to_le 8 x.path)))

qids_none : qids_bytes [] ≡ []
unfolding qid_items items_bytes
qids_none = refl

pub qids_length : (t : List Qid) → length (qids_bytes t) ≡ 13 * length t
qids_length [] = rw qids_none (omega arith)
qids_length (x ∷ t) =
    let h = qids_length t in
    let q = qid_length x in
    ap length (qids_cons x t) ∙ length-append (qid_bytes x) (qids_bytes t) ∙ (omega arith)

-- one more of the table
qids_next : (t : List Qid) (k : ℕ) → k < length t → qids_bytes (take (suc k) t) ≡ qids_bytes (take k t) ++ qid_bytes (get_or t k no_qid)
qids_next [] k h = absurd (omega arith)
qids_next (x ∷ t) zero h = qids_cons x [] ∙ rw (qids_none, append-nil (qid_bytes x))
qids_next (x ∷ t) (suc k) h =
    qids_cons x (take (suc k) t) ∙ ap (λ (z : List ℕ). qid_bytes x ++ z) (qids_next t k (omega arith))
    ∙ sym (append_assoc (qid_bytes x) (qids_bytes (take k t)) (qid_bytes (get_or t k no_qid))) ∙ ap (λ (z : List ℕ). z ++ qid_bytes (get_or t k no_qid)) (sym (qids_cons x (take k t)))

-- what is laid right after what was laid
over_on : (o : List ℕ) (a b : ℕ) (bs cs : List ℕ) → b ≡ a + length bs → a + length (bs ++ cs) ≤ length o → over (over o a bs) b cs ≡ over o a (bs ++ cs)
over_on o a b bs cs e h =
    let l = length-append bs cs in
    let p = put_over o a bs (omega arith) in
    let q = put_over (over o a bs) (a + length bs) cs (rw (length_over o a bs (omega arith)) (omega arith)) in
    rw e ((put_then p q refl h).bytes ∙ put_fits (bs ++ cs) o a h)

placed_over : (l : List ℕ) (at : ℕ) (t : List Qid) (k : ℕ) → k ≤ length t → at + 13 * k ≤ length l → placed l at t k ≡ over l at (qids_bytes (take k t))
placed_over l at t zero h r = rw qids_none (over_none l at (omega arith))
placed_over l at t (suc k) h r =
    let b : List ℕ = qids_bytes (take k t) in
    let x : List ℕ = qid_bytes (get_or t k no_qid) in
    let m : length b ≡ 13 * k = qids_length (take k t) ∙ ap (λ n. 13 * n) (length-take-le k t (omega arith)) in
    let n : length x ≡ 13 = qid_length (get_or t k no_qid) in
    let y : length (b ++ x) ≡ length b + length x = length-append b x in
    ap (λ (z : List ℕ). over z (at + 13 * k) x) (placed_over l at t k (omega arith) (omega arith)) ∙ over_on l at (at + 13 * k) b x (omega arith) (omega arith)
    ∙ ap (over l at) (sym (qids_next t k (omega arith)))

pub qid_put : (at i : ℕ) (x : Qid) {o o1 o2 o3 : List ℕ} {a b c : Place} → at + 13 * i + 13 ≤ length o → Put (to_le 1 x.ty) o (Ok (at + 13 * i)) o1 a → Put (to_le 4 x.version) o1 a o2 b → Put (to_le 8 x.path) o2 b o3 c
    → o3 ≡ put_qid o at i x
qid_put at i x {o} h p1 p2 p3 =
    let l = qid_length x in
    let m : length (to_le 1 x.ty ++ to_le 4 x.version) ≡ 5 = simp (length-append, length_to_le) in
    (put_then (put_then p1 p2 refl (omega arith)) p3 refl (omega arith)).bytes ∙ put_fits (qid_bytes x) o (at + 13 * i) (omega arith)

-- ---- the head

head_count : (n tag : ℕ) {o o1 o2 : List ℕ} {q r : Place} → 9 + 13 * n ≤ length o → HeadPut 111 tag (Ok (9 + 13 * n)) o o1 q → Put (to_le 2 n) o1 (Ok 7) o2 r
    → o2 ≡ over o 0 (head_bytes (9 + 13 * n) 111 tag ++ to_le 2 n)
head_count n tag {o} {o1} l a b =
    let hd : List ℕ = head_bytes (9 + 13 * n) 111 tag in
    let k : length hd ≡ 7 = head_length (9 + 13 * n) 111 tag in
    let c : length (to_le 2 n) ≡ 2 = length_to_le 2 n in
    let d : length (hd ++ to_le 2 n) ≡ length hd + length (to_le 2 n) = length-append hd (to_le 2 n) in
    let e : o1 ≡ over o 0 hd = a.bytes ∙ put_fits hd o 0 (omega arith) in
    let m : length o1 ≡ length o = ap length e ∙ length_over o 0 hd (omega arith) in
    b.bytes ∙ put_fits (to_le 2 n) o1 7 (omega arith) ∙ ap (λ (z : List ℕ). over z 7 (to_le 2 n)) e ∙ over_on o 0 7 hd (to_le 2 n) (omega arith) (omega arith)

-- where the frame ends

pub past_long : (room n : ℕ) {p : Place} {k : Refusal} {at : ℕ} → CountCheck n (Ok 9) p → p ≡ Err (k, at) → p ≡ rwalk_past room n
past_long room n c e =
    let f = lt-leb n 16 (count_refused c e) in
    let g = rw f at c.is in
    rw f g

module _ (room n : ℕ) {p : Place} {a : ℕ} (c : CountCheck n (Ok 9) p) (e : p ≡ Ok a) where
  -- the place that the count was tested at, and the count
  pub past_head : (n ≤ 16) × (9 ≡ a)
  past_head = let h = count_passed c e in (h.0, cc h.1)

  pub past_full : room < a + 13 * n → Err (R.NoRoom, 0) ≡ rwalk_past room n
  past_full l = let h = past_head in rw (le-leb n 16 h.0, lt-ltb room (9 + 13 * n) (rw (← h.1) at l))

  pub past_room : a + 13 * n ≤ room → Ok (a + 13 * n) ≡ rwalk_past room n
  past_room l = let h = past_head in rw (← h.1) (rw (le-leb n 16 h.0, le-ltb room (9 + 13 * n) (rw (← h.1) at l)))

-- what is known where it can be written
pub record Fitting (room n e : ℕ) : Type 0 where
  pub count : n ≤ 16
  pub size : e ≡ 9 + 13 * n
  pub held : 9 + 13 * n ≤ room

pub fitting : (room n : ℕ) {e : ℕ} → rwalk_past room n ≡ Ok e → Fitting room n e
fitting room n {e} f =
    or_else n 16
    (λ h.
    let c = le-leb n 16 h in
    or_else (9 + 13 * n) room
    (λ l. let d = rw (c, le-ltb room (9 + 13 * n) l) at f in let z : 9 + 13 * n ≡ e = cc d in record { count = h; size = sym z; held = l })
    (λ l. absurd (let d = rw (c, lt-ltb room (9 + 13 * n) l) at f in let z : ◌≡◌ {A = ℕ} 0 1 = cc d in omega arith)))
    (λ h. absurd (let d = rw (lt-leb n 16 h) at f in let z : ◌≡◌ {A = ℕ} 0 1 = cc d in omega arith))

pub head_none : (n tag : ℕ) (o : List ℕ) {p : Place} {k : Refusal} {at : ℕ} → p ≡ rwalk_past (length o) n → p ≡ Err (k, at) → (0 ≡ to_follow (length o) n) × (o ≡ headed o tag n)
head_none n tag o f g = let d = sym f ∙ g in (ap (λ p. all_of n p) (sym d), ap (λ p. head_at o tag n p) (sym d))

pub head_put : (n tag : ℕ) (o : List ℕ) {e : ℕ} {o1 o2 : List ℕ} {p q r : Place} → p ≡ rwalk_past (length o) n → p ≡ Ok e → HeadPut 111 tag p o o1 q → Put (to_le 2 n) o1 (Ok 7) o2 r
    → (n ≡ to_follow (length o) n) × (o2 ≡ headed o tag n)
head_put n tag o {e} f g a b =
    let k = fitting (length o) n (sym f ∙ g) in
    let d : rwalk_past (length o) n ≡ Ok (9 + 13 * n) = sym f ∙ g ∙ ap Ok k.size in
    (ap (λ p. all_of n p) (sym d), head_count n tag k.held (rw (g ∙ ap Ok k.size) at a) b ∙ ap (λ p. head_at o tag n p) (sym d))

-- ---- the frame

module _ (tag : ℕ) (t : List Qid) (o : List ℕ) {r : Place} (e : r ≡ rwalk_past (length o) (length t)) where
  abbrev n : ℕ
  n = length t

  abbrev items : List Item
  items = number 2 n ∷ qid_items t

  body : items_bytes items ≡ to_le 2 n ++ qids_bytes t
  unfolding items_bytes item_bytes
  body = refl

  body_length : length (items_bytes items) ≡ 2 + 13 * n
  body_length = ap length body ∙ length-append (to_le 2 n) (qids_bytes t) ∙ (let a = length_to_le 2 n in let b = qids_length t in omega arith)

  frame_is : frame_bytes 111 tag items ≡ head_bytes (9 + 13 * n) 111 tag ++ to_le 2 n ++ qids_bytes t
  unfolding frame_bytes
  frame_is =
      ap (λ k. head_bytes k 111 tag ++ items_bytes items) (let a = body_length in omega arith) ∙ ap (λ (z : List ℕ). head_bytes (9 + 13 * n) 111 tag ++ z) body
      ∙ sym (append_assoc (head_bytes (9 + 13 * n) 111 tag) (to_le 2 n) (qids_bytes t))

  size_is : length (frame_bytes 111 tag items) ≡ 9 + 13 * n
  size_is = frame_length 111 tag items ∙ (let a = body_length in omega arith)

  below : n ≤ 16 → ltb (7 + length (items_bytes items)) limit ≡ true
  below h = lt-ltb (7 + length (items_bytes items)) limit (let a = body_length in omega arith)

  pub rwalk_written : RwalkWritten tag t o (placed (headed o tag n) 9 t (to_follow (length o) n)) r
  unfolding frame_out frame_past
  rwalk_written =
      or_else n 16
      (λ h.
      let f = le-leb n 16 h in
      let b = below h in
      or_else (9 + 13 * n) (length o)
      (λ l.
      let g = le-ltb (length o) (9 + 13 * n) l in
      let hd : List ℕ = head_bytes (9 + 13 * n) 111 tag ++ to_le 2 n in
      let k : length hd ≡ 9 = length-append (head_bytes (9 + 13 * n) 111 tag) (to_le 2 n) ∙ (let x = head_length (9 + 13 * n) 111 tag in let y = length_to_le 2 n in omega arith) in
      let m : length (over o 0 hd) ≡ length o = length_over o 0 hd (omega arith) in
      let z = size_is in
      let u : placed (over o 0 hd) 9 t n ≡ over o 0 (frame_bytes 111 tag items)
      = placed_over (over o 0 hd) 9 t n (omega arith) (omega arith) ∙ ap (λ (w : List Qid). over (over o 0 hd) 9 (qids_bytes w)) (take-length t)
      ∙ over_on o 0 9 hd (qids_bytes t) (omega arith) (let x = qids_length t in let y = length-append hd (qids_bytes t) in omega arith) ∙ ap (over o 0) (sym frame_is) in
      record {
        is = record {
          bytes = rw (f, g, b) (u ∙ sym (put_fits (frame_bytes 111 tag items) o 0 (omega arith)));
          next = e ∙ rw (f, g, b) (sym (past_fits (frame_bytes 111 tag items) o 0 (omega arith) ∙ ap Ok (omega arith)));
        };
      })
      (λ l.
      let g = lt-ltb (length o) (9 + 13 * n) l in
      let z = size_is in
      let u = put_full (frame_bytes 111 tag items) o 0 (omega arith) in
      record { is = record { bytes = rw (f, g, b) (sym u.0); next = e ∙ rw (f, g, b) (sym u.1) } }))
      (λ h. let f = lt-leb n 16 h in record { is = record { bytes = rw f; next = e ∙ rw f } })

-- nothing is put where the frame is refused; else its head, and then the qids
pub rwalk_not : (tag : ℕ) (t : List Qid) (o : List ℕ) {r : Place} {f : Fault} → r ≡ rwalk_past (length o) (length t) → r ≡ Err f → RwalkWritten tag t o o (Err f)
rwalk_not tag t o e h =
    let d = sym e ∙ h in rw (d, h) at (rwalk_written tag t o e)

pub rwalk_put : (tag : ℕ) (t : List Qid) (o : List ℕ) {e : ℕ} {o1 o2 o3 : List ℕ} {p q r : Place} → p ≡ rwalk_past (length o) (length t) → p ≡ Ok e → HeadPut 111 tag (Ok e) o o1 q
    → Put (to_le 2 (length t)) o1 (Ok 7) o2 r → o3 ≡ placed o2 9 t (length t) → RwalkWritten tag t o o3 (Ok e)
rwalk_put tag t o {o1 = o1} {p = p} {q = q} f g a b i =
    let d : HeadPut 111 tag p o o1 q = rw g a in
    let h = head_put (length t) tag o f g d b in
    rw (i, h.1) (rw (g, ← h.0) at (rwalk_written tag t o f))
