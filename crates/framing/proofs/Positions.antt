-- What a frame that is listed shows of the stretch, and what is written of that; over any tables (F6.9).
use Rattle.std.specs.Prelude.{ℕ, ◌+◌, ◌-◌, ◌≤◌, ◌≡◌, List, [], ◌++◌, map, length, take, drop, Ok}
use Rattle.std.proofs.Common.{arith, sym, ap, ap₂, ◌∙◌, append_assoc, length-append, length-drop, take-append-drop, length-take-le, drop-drop, take-take}
use Rattle.std.proofs.Math.Option.{some}
use Rattle.numbers.specs.Numbers.{Bytes, from_le}
use Rattle.numbers.proofs.Numbers.{bytes_take, bytes_drop}
use Rattle.numbers.specs.Reading.{ok}
use Rattle.numbers.specs.Places.{over}
use Rattle.numbers.specs.declared.Refusal.{Refusal}
use Rattle.numbers.specs.declared.Refusal.TheVariants as R
use Rattle.fields.specs.Layouts.{Layout, kind, items_bytes}
use Rattle.fields.specs.Values.{Value, places, shows}
use Rattle.fields.proofs.ValueLaws.{shows_items}
use Rattle.laying.proofs.LayingLaws.{drop_take}
use Rattle.layouts.specs.Tables.{Row, lookup}
use Rattle.layouts.specs.Bodies.{Answer, accepted, refused}
use Rattle.framing.specs.Frames.{framed, read_frame}
use Rattle.framing.specs.Raising.{raise_value, raise_place, raise}
use Rattle.framing.proofs.RaisedLaws.{places_raised}
use Rattle.framing.specs.Writing.{head_bytes, frame_out, frame_past}
use Rattle.framing.proofs.WritingLaws.{head_length}
use Rattle.framing.specs.Stretch.{type_in, tag_in, table_for, answer_of, frame, frame_at}
use Rattle.framing.specs.Cuts.{between}
use Rattle.framing.proofs.CutLaws.{whole_frame}
use Rattle.framing.proofs.ListingLaws.{whole_at}
use Rattle.framing.specs.Accepted.{Accepts}
use Rattle.framing.proofs.Accepted.{accepts}
use Rattle.framing.specs.Broken.{NotUtf8In, ZeroIn}
use Rattle.framing.proofs.Broken.{frame_five, frame_six}
use Rattle.framing.specs.Stripped.{resized}
use Rattle.framing.proofs.Stripped.{shows_record, stripped_written}

module _ (rows : List Row) (f : List ℕ) {l : Layout} {ty tag used : ℕ} {vs : List Value} (A : Accepts rows f ty tag vs used) (known : lookup rows ty ≡ some l) where
  -- with any bytes before it and after it
  pub shows_among : (x y : List ℕ) → shows l (x ++ (f ++ y)) (map (raise_value (length x)) vs) ≡ ok A.items []
  shows_among x y =
      let h : List ℕ = head_bytes A.size ty tag in
      let i : List ℕ = items_bytes A.items in
      let r : List ℕ = drop A.size f in
      let e : f ≡ h ++ (i ++ (A.left ++ r)) = sym (take-append-drop A.size f) ∙ ap (λ (z : List ℕ). z ++ r) A.held ∙ (simp append_assoc) in
      let g : x ++ (f ++ y) ≡ (x ++ h) ++ (i ++ ((A.left ++ r) ++ y)) = ap (λ (z : List ℕ). x ++ (z ++ y)) e ∙ (simp append_assoc) in
      let k = sym known ∙ A.stands.known in
      let c : l ≡ map kind A.items = cc k in
      let v : map (raise_value (length x)) vs ≡ places (length x + 7) A.items = ap (map (raise_value (length x))) A.values ∙ sym (places_raised A.items (length x) 7) in
      ap₂ (λ (m : Layout) (z : List ℕ). shows m z (map (raise_value (length x)) vs)) c g ∙ ap (shows (map kind A.items) ((x ++ h) ++ (i ++ ((A.left ++ r) ++ y)))) v
      ∙ shows_items A.items (x ++ h) ((A.left ++ r) ++ y) (length x + 7) A.stands.goods
      (length-append x h ∙ ap (λ n. length x + n) (head_length A.size ty tag))

-- s is what is before the frame, the frame, and what is after it
around : (s : List ℕ) (p e : ℕ) → p ≤ e → s ≡ take p s ++ (between p e s ++ drop e s)
around s p e h =
    let n : p + (e - p) ≡ e = omega arith in
    sym (take-append-drop p s)
    ∙ ap (λ (z : List ℕ). take p s ++ z)
    (sym (take-append-drop (e - p) (drop p s)) ∙ ap (λ (z : List ℕ). between p e s ++ z) (drop-drop (e - p) p s ∙ ap (λ m. drop m s) n))

module _ (rows : List Row) (s : List ℕ) (p e : ℕ) (b : Bytes s) (h : p ≤ e) (j : e ≤ length s) {l : Layout} {q ty tag used : ℕ} {vs : List Value} (known : lookup rows ty ≡ some l)
    (a : read_frame rows (between p e s) ≡ framed q tag (accepted ty vs used)) where
  abbrev is : Accepts rows (between p e s) ty tag vs used
  is = accepts rows (between p e s) (bytes_take (e - p) (drop p s) (bytes_drop p s b)) a

  shown_there : shows l s (map (raise_value p) vs) ≡ shows l (between p e s) vs
  shown_there =
      let n : length (take p s) ≡ p = length-take-le p s (omega arith) in
      ap₂ (λ (x : List ℕ) m. shows l x (map (raise_value m) vs)) (around s p e h) (sym n) ∙ shows_among rows (between p e s) is known (take p s) (drop e s)
      ∙ sym (shows_record rows (between p e s) is known)

  written_there : (o : List ℕ) → used ≤ length o
      → (frame_out ty tag (shows l s (map (raise_value p) vs)) o ≡ over o 0 (resized used (between p e s))) × (frame_past ty tag (shows l s (map (raise_value p) vs)) o ≡ Ok used)
  written_there o r =
      let w = stripped_written rows (between p e s) is known o r in (
        ap (λ m. frame_out ty tag m o) shown_there ∙ w.0,
        ap (λ m. frame_past ty tag m o) shown_there ∙ w.1,
      )

-- ---- a frame that is listed at p

module _ (ts rs : List Row) (s : List ℕ) (p : ℕ) {at n ty tag tail next : ℕ} {a : Answer} (e : frame_at ts rs s p ≡ frame at n ty tag a tail next) where
  -- it stands from p to the next position, and what it reads alone is raised by p
  pub record Stood : Type 0 where
    pub position : at ≡ p
    pub start : p ≤ next
    pub held : next ≤ length s
    pub answer : raise p (answer_of ts rs (between p next s)) ≡ a
    pub reads : read_frame (table_for ts rs ty) (between p next s) ≡ framed 0 tag (answer_of ts rs (between p next s))

  pub stood : Stood
  stood =
      whole_at ts rs s e
      (λ m f u.
      let g : List ℕ = take m (drop p s) in
      let z : length g ≡ m = length-take-le m (drop p s) f.held in
      let y : p + length g ≡ next = cc u in
      let x : p ≡ at = cc u in
      let t : type_in g ≡ ty = cc u in
      let r : tag_in g ≡ tag = cc u in
      let v : raise p (answer_of ts rs g) ≡ a = cc u in
      let d = length-drop p s in
      let h = f.held in
      let c = f.seven in
      let i : m ≡ next - p = omega arith in
      let k : g ≡ between p next s = ap (λ j. take j (drop p s)) i in
      let w : read_frame (table_for ts rs (type_in g)) g ≡ framed 0 (tag_in g) (answer_of ts rs g)
      = whole_frame ts rs g (omega arith) (ap from_le (take-take 4 m (drop p s) (omega arith)) ∙ f.size ∙ sym z) in
      record { position = sym x; start = omega arith; held = omega arith; answer = rw k at v; reads = rw (t, r, k) at w })

raise_inv : {X : Type 0} (p : ℕ) (a : Answer) {ty used : ℕ} {vs : List Value} → raise p a ≡ accepted ty vs used → ((us : List Value) → a ≡ accepted ty us used → map (raise_value p) us ≡ vs → X) → X
raise_inv p (accepted y us m) {ty} {used} e f = let g : y ≡ ty = cc e in let h : m ≡ used = cc e in f us (ap₂ (λ t i. accepted t us i) g h) (cc e)
raise_inv p (refused k at) e f = absurd (let z : ◌≡◌ {A = ℕ} 0 1 = cc e in omega arith)

module _ (ts rs : List Row) (s : List ℕ) (p : ℕ) {at n ty tag y used tail next : ℕ} {vs : List Value} (b : Bytes s) (e : frame_at ts rs s p ≡ frame at n ty tag (accepted y vs used) tail next) where
  -- what an accepted one reads alone
  pub record Alone : Type 0 where
    pub values : List Value
    pub reads : read_frame (table_for ts rs ty) (between p next s) ≡ framed 0 tag (accepted y values used)
    pub raised : map (raise_value p) values ≡ vs

  pub alone : Alone
  alone =
      let w = stood ts rs s p e in
      raise_inv p (answer_of ts rs (between p next s)) w.answer (λ us g h. record { values = us; reads = w.reads ∙ ap (framed 0 tag) g; raised = h })

  module _ {l : Layout} (known : lookup (table_for ts rs ty) y ≡ some l) where
    -- its values show in the stretch exactly what the frame, read alone, shows in itself
    pub listed_shows : shows l s vs ≡ shows l (between p next s) alone.values
    listed_shows =
        let w = stood ts rs s p e in
        ap (shows l s) (sym alone.raised) ∙ shown_there (table_for ts rs ty) s p next b w.start w.held known alone.reads

    -- and writing it with the stretch as the lent bytes gives the frame stripped of its tail
    pub listed_written : (o : List ℕ) → used ≤ length o → (frame_out y tag (shows l s vs) o ≡ over o 0 (resized used (between p next s))) × (frame_past y tag (shows l s vs) o ≡ Ok used)
    listed_written o h =
        let w = stood ts rs s p e in
        let v : shows l s vs ≡ shows l s (map (raise_value p) alone.values) = ap (shows l s) (sym alone.raised) in
        let r = written_there (table_for ts rs ty) s p next b w.start w.held known alone.reads o h in (ap (λ m. frame_out y tag m o) v ∙ r.0, ap (λ m. frame_past y tag m o) v ∙ r.1)

-- ---- the place of a refused text is one of the stretch

module _ (s : List ℕ) (p e : ℕ) (h : p ≤ e) (j : e ≤ length s) where
  long : length (between p e s) ≡ e - p
  long = let d = length-drop p s in length-take-le (e - p) (drop p s) (omega arith)

  lies_there : (i n : ℕ) → i + n ≤ length (between p e s) → p + i + n ≤ length s
  lies_there i n l = let z = long in omega arith

  -- the bytes at i of the frame stand at p + i of the stretch
  text_there : (i n : ℕ) → i + n ≤ length (between p e s) → take n (drop i (between p e s)) ≡ take n (drop (p + i) s)
  text_there i n l =
      let z = long in
      let m : e - p ≡ i + (e - p - i) = omega arith in
      ap (take n) (ap (λ k. drop i (take k (drop p s))) m ∙ drop_take i (e - p - i) (drop p s)) ∙ take-take n (e - p - i) (drop i (drop p s)) (omega arith) ∙ ap (take n) (drop-drop i p s)

  five_moved : {i : ℕ} → NotUtf8In (between p e s) i → NotUtf8In s (p + i)
  five_moved {i} t =
      let b = t.breaks in
      let f = b.from in
      let u = b.to in
      let c : p + i - (p + t.start) ≡ i - t.start = omega arith in
      record {
        start = p + t.start;
        len = t.len;
        lies = lies_there t.start t.len t.lies;
        breaks = rw (← (text_there t.start t.len t.lies)) (record { from = omega arith; to = omega arith; before = rw c b.before; longest = rw c b.longest });
      }

  six_moved : {i : ℕ} → ZeroIn (between p e s) i → ZeroIn s (p + i)
  six_moved {i} t =
      let b = t.breaks in
      let f = b.from in
      let u = b.to in
      let c : p + i - (p + t.start) ≡ i - t.start = omega arith in
      record {
        start = p + t.start;
        len = t.len;
        lies = lies_there t.start t.len t.lies;
        breaks = rw (← (text_there t.start t.len t.lies)) (record { from = omega arith; to = omega arith; there = rw c b.there; first = rw c b.first });
      }

place_inv : {X : Type 0} (p : ℕ) (a : Answer) {k : Refusal} {m : ℕ} → raise p a ≡ refused k m → ((i : ℕ) → a ≡ refused k i → raise_place p k i ≡ m → X) → X
place_inv p (accepted ty vs used) e f = absurd (let z : ◌≡◌ {A = ℕ} 0 1 = cc e in omega arith)
place_inv p (refused j i) {k} {m} e f = let g : j ≡ k = cc e in let h : raise_place p j i ≡ m = cc e in f i (ap (λ x. refused x i) g) (rw g at h)

module _ (ts rs : List Row) (s : List ℕ) (p : ℕ) {at n ty tag tail next m : ℕ} (b : Bytes s) where
  pub five_there : frame_at ts rs s p ≡ frame at n ty tag (refused R.NotUtf8 m) tail next → NotUtf8In s m
  five_there e =
      let w = stood ts rs s p e in
      place_inv p (answer_of ts rs (between p next s)) w.answer
      (λ i g h. rw h at
      (five_moved s p next w.start w.held
      (frame_five (table_for ts rs ty) (between p next s) (bytes_take (next - p) (drop p s) (bytes_drop p s b)) (w.reads ∙ ap (framed 0 tag) g))))

  pub six_there : frame_at ts rs s p ≡ frame at n ty tag (refused R.ZeroByte m) tail next → ZeroIn s m
  six_there e =
      let w = stood ts rs s p e in
      place_inv p (answer_of ts rs (between p next s)) w.answer
      (λ i g h. rw h at
      (six_moved s p next w.start w.held
      (frame_six (table_for ts rs ty) (between p next s) (bytes_take (next - p) (drop p s) (bytes_drop p s b)) (w.reads ∙ ap (framed 0 tag) g))))
