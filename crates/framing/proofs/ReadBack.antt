-- What holds of the definitions in specs/ReadBack.antt.
use Rattle.std.specs.Prelude.{ℕ, ◌+◌, ◌*◌, ◌^◌, ◌≤◌, ◌<◌, ◌≡◌, refl, true, List, [], ◌∷◌, ◌++◌, map, length, drop, leb, eqb, Ok}
use Rattle.std.proofs.Common.{arith, sym, ap, ap₂, ◌∙◌, append_assoc, append-nil, lt-ltb, le-ltb, leb-true, eqb-true}
use Rattle.std.proofs.Math.Option.{some}
use Rattle.std.proofs.lemmas.Bool.{lt-leb}
use Rattle.numbers.specs.Numbers.{Bytes}
use Rattle.numbers.proofs.Numbers.{bytes_take, bytes_drop}
use Rattle.numbers.specs.Reading.{Reading, ok, bad, after}
use Rattle.numbers.proofs.ReadingLaws.{or_else, after_inv, cond_inv}
use Rattle.numbers.specs.Places.{over}
use Rattle.numbers.specs.declared.Refusal.TheVariants as R
use Rattle.utf8.specs.Utf8.{utf8, no_zero}
use Rattle.strings.specs.Strings.{GoodText}
use Rattle.strings.specs.Spans.{show_span, show_string}
use Rattle.fields.specs.Layouts.{Shape, fixed, worded, Field, num, str, dat, strs, quids, boxed, Layout, Cell, amount, words, shape, Item, number, string, bytes, strings, qids, box, kind, read_many, cells_bytes, items_bytes, GoodCells, Good, Goods}
use Rattle.fields.proofs.LayoutLaws.{took_many}
use Rattle.laying.proofs.LayingLaws.{span_shown, part_inv, whole_inv}
use Rattle.fields.specs.Values.{Slot, slot_num, slot_start, slot_len, first_slot, other_slots, slots_of, show_cell, show_cells, Value, num_of, start_of, len_of, count_of, show_part, whole_part, places, show, first_of, others_of, shows}
use Rattle.fields.proofs.ValueLaws.{shows_items}
use Rattle.laying.specs.Laying.{limit}
use Rattle.layouts.specs.Tables.{Row, lookup}
use Rattle.layouts.specs.Bodies.{accepted}
use Rattle.framing.specs.Frames.{framed, read_frame}
use Rattle.framing.specs.Writing.{head_bytes, frame_bytes, frame_out, frame_past, FrameWritten}
use Rattle.framing.proofs.WritingLaws.{head_length, put_fits, put_full, past_fits, frame_length}
use Rattle.framing.specs.Accepted.{Stands}
use Rattle.framing.proofs.Accepted.{reads_frame}
use Rattle.framing.specs.ReadBack.{FitsCells, FitsField, Readable, Wrote, Back}

-- ---- what is shown can stand in a frame

pub good_text : (lent : List ℕ) (x y : ℕ) {bs r : List ℕ} → show_string lent x y ≡ ok bs r → GoodText bs
unfolding show_string
good_text lent x y {bs} e =
    after_inv (show_span lent x y) _ e
    (λ cs s e1 e2.
    let k = span_shown lent x y e1 in
    let u = cond_inv (leb y 65535) _ R.StringTooLong 0 e2 in
    let v = cond_inv (utf8 cs) _ R.NotUtf8 _ u.1 in
    let w = cond_inv (no_zero cs) _ R.ZeroByte _ v.1 in
    let d = w.1 in
    let f : cs ≡ bs = cc d in
    let n = k.1 in
    let l = leb_small y u.0 in
    rw (← f) (record { short = omega arith; form = v.0; full = w.0 }))
  where
    leb_small : (n : ℕ) → leb n 65535 ≡ true → n ≤ 65535
    leb_small n h = or_else n 65535 (λ l. l) (λ l. absurd (let c = sym h ∙ lt-leb n 65535 l in let z : ◌≡◌ {A = ℕ} 0 1 = cc c in omega arith))

cells_good : (fs : List Shape) (lent : List ℕ) (vs : List Slot) {cs : List Cell} {r : List ℕ} → FitsCells fs vs → show_cells fs lent vs ≡ ok cs r → (map shape cs ≡ fs) × GoodCells cs
unfolding show_cells show_cell
cells_good [] lent vs {cs} g e = let f : [] ≡ cs = cc e in rw (← f) (refl, tt)
cells_good (fixed w ∷ fs) lent vs {cs} (g, gs) e =
    after_inv (show_cells fs lent (other_slots vs)) _ e
    (λ ds t e1 e2.
    let d : amount w (slot_num (first_slot vs)) ∷ ds ≡ cs = cc e2 in
    let q = cells_good fs lent (other_slots vs) gs e1 in
    rw (← d) (ap (λ (z : List Shape). fixed w ∷ z) q.0, (g, q.1)))
cells_good (worded ∷ fs) lent vs {cs} (g, gs) e =
    after_inv (after (show_string lent (slot_start (first_slot vs)) (slot_len (first_slot vs))) (λ bs r. ok (words bs) r)) _ e
    (λ c s e1 e2. after_inv (show_string lent (slot_start (first_slot vs)) (slot_len (first_slot vs))) _ e1
    (λ bs u e3 e4. after_inv (show_cells fs lent (other_slots vs)) _ e2
    (λ ds t e5 e6.
    let f : words bs ≡ c = cc e4 in
    let d : c ∷ ds ≡ cs = cc e6 in
    let q = cells_good fs lent (other_slots vs) gs e5 in
    rw (← d, ← f) (ap (λ (z : List Shape). worded ∷ z) q.0, (good_text lent (slot_start (first_slot vs)) (slot_len (first_slot vs)) e3, q.1)))))

shown_good : (f : Field) (lent : List ℕ) (v : Value) {i : Item} {r : List ℕ} → Bytes lent → FitsField f v → show f lent v ≡ ok i r → (kind i ≡ f) × Good i
unfolding show
shown_good (num w) lent v {i} b g e = let f : number w (num_of v) ≡ i = cc e in rw (← f) (refl, g)
shown_good str lent v {i} b g e =
    after_inv (show_string lent (start_of v) (len_of v)) _ e (λ bs s e1 e2. let f : string bs ≡ i = cc e2 in rw (← f) (refl, good_text lent (start_of v) (len_of v) e1))
shown_good dat lent v {i} b g e =
    after_inv (show_span lent (start_of v) (len_of v)) _ e
    (λ bs s e1 e2. let f : bytes bs ≡ i = cc e2 in let k = (span_shown lent (start_of v) (len_of v) e1).1 in rw (← f) (refl, omega arith))
shown_good strs lent v {i} b g e =
    after_inv (show_part lent (count_of v) (start_of v) (len_of v)) _ e
    (λ bs s e1 e2. after_inv (whole_part (read_many (count_of v) (start_of v) bs)) _ e2
    (λ l t e3 e4. whole_inv (read_many (count_of v) (start_of v) bs) e3
    (λ e5.
    let c = part_inv lent (count_of v) (start_of v) (len_of v) e1 in
    let k = span_shown lent (start_of v) (len_of v) c.1 in
    let f : strings l ≡ i = cc e4 in
    let h = took_many (count_of v) (start_of v) bs (rw k.2 (bytes_take (len_of v) (drop (start_of v) lent) (bytes_drop (start_of v) lent b))) e5 in
    rw (← f) (refl, (rw h.good.0 c.0, h.good.1)))))
shown_good quids lent v {i} b g e =
    after_inv (show_part lent (count_of v) (start_of v) (len_of v)) _ e
    (λ bs s e1 e2.
    let c = part_inv lent (count_of v) (start_of v) (len_of v) e1 in
    let k = (span_shown lent (start_of v) (len_of v) c.1).1 in
    let u = cond_inv (eqb (len_of v) (13 * count_of v)) _ R.PartMalformed 0 e2 in
    let d = u.1 in
    let f : qids (count_of v) bs ≡ i = cc d in
    rw (← f) (refl, (c.0, k ∙ eqb-true (len_of v) (13 * count_of v) u.0)))
shown_good (boxed fs) lent v {i} b g e =
    after_inv (show_cells fs lent (slots_of v)) _ e
    (λ cs s e1 e2.
    let u = cond_inv (leb (2 + length (cells_bytes cs)) 65535) _ R.StatMalformed 0 e2 in
    let d = u.1 in
    let f : box cs ≡ i = cc d in
    let q = cells_good fs lent (slots_of v) g e1 in
    let l = leb-true (2 + length (cells_bytes cs)) 65535 u.0 in
    rw (← f) (ap boxed q.0, (omega arith, q.1)))

pub shows_good : (fs : Layout) (lent : List ℕ) (vs : List Value) {is : List Item} {r : List ℕ} → Bytes lent → Readable fs vs → shows fs lent vs ≡ ok is r → (map kind is ≡ fs) × Goods is
unfolding shows
shows_good [] lent vs {is} b g e = let f : [] ≡ is = cc e in rw (← f) (refl, tt)
shows_good (f ∷ fs) lent vs {is} b (g, gs) e =
    after_inv (show f lent (first_of vs)) _ e
    (λ i s e1 e2. after_inv (shows fs lent (others_of vs)) _ e2
    (λ js t e3 e4.
    let d : i ∷ js ≡ is = cc e4 in
    let p = shown_good f lent (first_of vs) b g e1 in
    let q = shows_good fs lent (others_of vs) b gs e3 in
    rw (← d) (ap₂ (λ x y. x ∷ y) p.0 q.0, (p.1, q.1))))

laid : (o : List ℕ) (ty tag n : ℕ) (is : List Item) → n ≡ 7 + length (items_bytes is) → over o 0 (frame_bytes ty tag is) ≡ head_bytes n ty tag ++ items_bytes is ++ drop n o
unfolding frame_bytes
laid o ty tag n is u =
    let l : 0 + length (frame_bytes ty tag is) ≡ n = (let f = frame_length ty tag is in omega arith) in
    ap (λ m. head_bytes (7 + length (items_bytes is)) ty tag ++ items_bytes is ++ drop m o) l ∙ ap (λ m. head_bytes m ty tag ++ items_bytes is ++ drop n o) (sym u)

pub wrote : (m : Reading (List Item)) (ty tag : ℕ) {n : ℕ} {o o' : List ℕ} → o' ≡ frame_out ty tag m o → Ok n ≡ frame_past ty tag m o → Wrote m ty tag o o' n
unfolding frame_out frame_past
wrote (bad k at) ty tag x y = absurd (let z : ◌≡◌ {A = ℕ} 0 1 = cc y in omega arith)
wrote (ok is r) ty tag {n} {o} x y =
    or_else limit (7 + length (items_bytes is))
    (λ l. absurd (let d = rw (le-ltb (7 + length (items_bytes is)) limit l) at y in let z : ◌≡◌ {A = ℕ} 0 1 = cc d in omega arith))
    (λ l.
    let t = lt-ltb (7 + length (items_bytes is)) limit l in
    let f = frame_length ty tag is in
    or_else (0 + length (frame_bytes ty tag is)) (length o)
    (λ h.
    let d = (rw t at y) ∙ past_fits (frame_bytes ty tag is) o 0 h in
    let s : n ≡ 0 + length (frame_bytes ty tag is) = cc d in
    record { items = is; left = r; shown = refl; size = omega arith; small = omega arith; front = (rw t at x) ∙ put_fits (frame_bytes ty tag is) o 0 h ∙ laid o ty tag n is (omega arith) })
    (λ h. absurd (let d = (rw t at y) ∙ (put_full (frame_bytes ty tag is) o 0 h).1 in let z : ◌≡◌ {A = ℕ} 0 1 = cc d in omega arith)))

pub read_back : (rows : List Row) {fs : Layout} {ty tag n : ℕ} {lent o o' : List ℕ} {vs : List Value} → lookup rows ty ≡ some fs → ty < 256 ^ 1 → tag < 256 ^ 2 → Bytes lent → Readable fs vs
    → FrameWritten fs ty tag lent vs o o' (Ok n) → Back rows fs ty tag lent vs o' n
read_back rows {fs} {ty} {tag} {n} {lent} {o} {o'} {vs} k t g b f w =
    let W = wrote (shows fs lent vs) ty tag w.bytes w.next in
    let is : List Item = W.items in
    let i : List ℕ = items_bytes is in
    let G = shows_good fs lent vs b f W.shown in
    let u = W.size in
    let e : o' ≡ head_bytes n ty tag ++ (i ++ []) ++ drop n o = W.front ∙ (simp append-nil) in
    let h : o' ≡ head_bytes n ty tag ++ (i ++ drop n o) = W.front ∙ append_assoc (head_bytes n ty tag) i (drop n o) in
    let s : Stands rows n ty tag is = record { sized = let z = W.small in omega arith; typed = t; tagged = g; goods = G.1; known = k ∙ ap some (sym G.0) } in
    record {
      values = places 7 is;
      items = is;
      reads = ap (read_frame rows) e ∙ reads_frame rows n ty tag is [] (drop n o) s (simp append-nil (omega arith)) ∙ ap (λ m. framed 0 tag (accepted ty (places 7 is) m)) (sym u);
      left = W.left;
      before = W.shown;
      after = ap₂ (λ l (x : List ℕ). shows l x (places 7 is)) (sym G.0) h ∙ shows_items is (head_bytes n ty tag) (drop n o) 7 G.1 (head_length n ty tag);
    }
