-- What holds of the definitions in specs/Demand.antt.
use Prim.Native.Nat.{ℕ, ◌+◌, ◌-◌, ◌^◌, ◌≤◌, ◌<◌}
use native.Mathlib.Omega.{arith}
use Rattle.std.specs.Prelude.{◌≡◌}
use Rattle.std.proofs.Math.Path.{refl, sym, ap, ap₂}
use Rattle.std.proofs.Common.{◌∙◌, subst, take-append-drop, take_at, take-take, length-take-le, drop-drop}
use mathlib.Core.List.{List, [], ◌++◌, append_assoc, append-nil}
use Rattle.std.proofs.Math.ListN.{length, take, drop, length-append, length-take, length-drop}
use Rattle.std.proofs.Math.Seq.{take-append-le, take-append_seam, drop-append_seam, take-length, drop_at}
use Rattle.numbers.specs.Numbers.{Bytes, from_le, to_le}
use Rattle.numbers.proofs.Numbers.{length_to_le, to_from, from_to, from_bound, bytes_to_le, bytes_take, bytes_drop, bytes_split, bytes_join}
use Rattle.numbers.specs.declared.Refusal.TheVariants as R
use Rattle.fields.specs.Layouts.{items_bytes}
use Rattle.fields.specs.Values.{Value}
use Rattle.layouts.specs.Tables.{Row}
use Rattle.layouts.specs.Bodies.{Answer, accepted, refused}
use Rattle.framing.specs.Frames.{Frame, headless, framed, read_frame}
use Rattle.framing.specs.Raising.{raise}
use Rattle.framing.proofs.RaisedLaws.{raise_zero}
use Rattle.laying.proofs.LayingLaws.{drop_take}
use Rattle.framing.specs.Writing.{head_bytes}
use Rattle.framing.proofs.WritingLaws.{head_length}
use Rattle.framing.specs.Local.{size_in}
use Rattle.framing.specs.Stretch.{type_in, tag_in, table_for, answer_in, answer_of, tail_in, entry, ends, list_from, listing}
use Rattle.framing.proofs.CutLaws.{whole_header}
use Rattle.framing.specs.ListingLaws.{Front}
use Rattle.framing.proofs.ListingLaws.{list_next}
use Rattle.framing.specs.Accepted.{Stands, Accepts}
use Rattle.framing.proofs.Accepted.{reads_frame, accepts}
use Rattle.framing.proofs.Stripped.{first_used}
use Rattle.framing.specs.Demand.{Whole, Lengthened, Strange, Edited, nothing, grown, added, old_lines, new_lines, repeated}

-- ---- one frame

answer_inv : {X : Type 0} {ty used : ℕ} {vs : List Value} (m : Frame) → answer_in m ≡ accepted ty vs used → ((p tag : ℕ) → m ≡ framed p tag (accepted ty vs used) → X) → X
answer_inv (headless k at) e f = absurd (let z : ◌≡◌ {A = ℕ} 0 1 = cc e in omega arith)
answer_inv (framed p tag a) e f = f p tag (ap (framed p tag) e)

-- type and tag stand after the size, in front of the fields
type_held : (f : List ℕ) (u : ℕ) → 7 ≤ u → type_in f ≡ from_le (take 1 (drop 4 (take u f)))
type_held f u h =
    let e : u ≡ 4 + (u - 4) = omega arith in
    ap from_le (sym (ap (λ n. take 1 (drop 4 (take n f))) e ∙ ap (take 1) (drop_take 4 (u - 4) f) ∙ take-take 1 (u - 4) (drop 4 f) (omega arith)))

tag_held : (f : List ℕ) (u : ℕ) → 7 ≤ u → tag_in f ≡ from_le (take 2 (drop 1 (drop 4 (take u f))))
tag_held f u h =
    let e : u ≡ 5 + (u - 5) = omega arith in
    ap from_le (sym (ap (take 2) (drop-drop 1 4 (take u f)) ∙ ap (λ n. take 2 (drop 5 (take n f))) e ∙ ap (take 2) (drop_take 5 (u - 5) f) ∙ take-take 2 (u - 5) (drop 5 f) (omega arith)))

-- the size in front of some bytes
size_small : (x : List ℕ) → Bytes x → 4 ≤ length x → size_in x < 256 ^ 4
size_small x b h = subst (λ (n : ℕ). from_le (take 4 x) < 256 ^ n) (length-take-le 4 x h) (from_bound (take 4 x) (bytes_take 4 x b))

size_front : (x : List ℕ) → Bytes x → 4 ≤ length x → to_le 4 (size_in x) ≡ take 4 x
size_front x b h = ap (λ n. to_le n (from_le (take 4 x))) (sym (length-take-le 4 x h)) ∙ to_from (take 4 x) (bytes_take 4 x b)

headed_length : (n ty tag : ℕ) (x z : List ℕ) → x ≡ head_bytes n ty tag ++ z ++ [] → 7 + length z ≡ length x
headed_length n ty tag x z e =
    sym (ap length (e ∙ append-nil (head_bytes n ty tag ++ z)) ∙ length-append (head_bytes n ty tag) z ∙ ap (λ m. m + length z) (head_length n ty tag))

module _ (ts rs : List Row) (f g : List ℕ) {ty used : ℕ} {vs : List Value} (b : Bytes f) (c : Bytes g) (a : answer_of ts rs f ≡ accepted ty vs used) (l : Lengthened f g used) where
  pub record Grown : Type 0 where
    pub within : used ≤ length f
    pub type : type_in g ≡ type_in f
    pub tag : tag_in g ≡ tag_in f
    pub answer : answer_of ts rs g ≡ accepted ty vs used
    -- byte for byte, with the same items
    pub under : ℕ
    pub old : Accepts (table_for ts rs (type_in f)) f ty under vs used
    pub new : Accepts (table_for ts rs (type_in f)) g ty under vs used
    pub items : new.items ≡ old.items

  pub grown_frame : Grown
  unfolding answer_of
  grown_frame =
      answer_inv (read_frame (table_for ts rs (type_in f)) f) a
      (λ at tag e.
      let rows : List Row = table_for ts rs (type_in f) in
      let A = accepts rows f b e in
      let i : List ℕ = items_bytes A.items in
      let u = A.uses in
      let n : length (take used f) ≡ 7 + length i = ap length (first_used rows f A) ∙ length-append (head_bytes A.size ty tag) i ∙ ap (λ m. m + length i) (head_length A.size ty tag) in
      let k = length-take used f in
      let m = l.longer in
      let t : type_in g ≡ type_in f = type_held g used (omega arith) ∙ ap (λ (x : List ℕ). from_le (take 1 x)) l.same ∙ sym (type_held f used (omega arith)) in
      let v : tag_in g ≡ tag_in f = tag_held g used (omega arith) ∙ ap (λ (x : List ℕ). from_le (take 2 (drop 1 x))) l.same ∙ sym (tag_held f used (omega arith)) in
      let w = l.whole in
      let seven = w.seven in
      let z : length g < 256 ^ 4 = rw (← w.sized) (size_small g c (omega arith)) in
      let x : take used f ≡ to_le 4 A.size ++ (to_le 1 ty ++ (to_le 2 tag ++ i)) = first_used rows f A ∙ (simp append_assoc) in
      let d : drop 4 (take used g) ≡ to_le 1 ty ++ (to_le 2 tag ++ i)
      = l.same ∙ ap (drop 4) x ∙ drop_at (to_le 4 A.size) (to_le 1 ty ++ (to_le 2 tag ++ i)) 4 (length_to_le 4 A.size) in
      let q : take 4 g ≡ to_le 4 (length g) = sym (size_front g c (omega arith)) ∙ ap (to_le 4) w.sized in
      let p : take used g ≡ head_bytes (length g) ty tag ++ i
      = sym (take-append-drop 4 (take used g)) ∙ ap₂ (λ (x y : List ℕ). x ++ y) (take-take 4 used g (omega arith) ∙ q) d ∙ (simp append_assoc) in
      let r : g ≡ head_bytes (length g) ty tag ++ (i ++ drop used g) ++ []
      = sym (take-append-drop used g) ∙ ap (λ (x : List ℕ). x ++ drop used g) p ∙ (simp (append_assoc, append-nil)) in
      let s : Stands rows (length g) ty tag A.items = record { sized = z; typed = A.stands.typed; tagged = A.stands.tagged; goods = A.stands.goods; known = A.stands.known } in
      let y : 7 + length (i ++ drop used g) ≡ length g = headed_length (length g) ty tag g (i ++ drop used g) r in
      record {
        within = omega arith;
        type = t;
        tag = v;
        under = tag;
        old = A;
        new = record { size = length g; items = A.items; left = drop used g; stands = s; held = take-length g ∙ r ∙ append-nil _; values = A.values; uses = u };
        items = refl;
        answer = rw t (ap answer_in (ap (read_frame rows) r ∙ reads_frame rows (length g) ty tag A.items (drop used g) [] s y) ∙ ap₂ (λ x o. accepted ty x o) (sym A.values) (sym u));
      })

-- ---- stretches

module _ (ts rs : List Row) where
  strange_frame : (f : List ℕ) → Strange ts rs f → answer_of ts rs f ≡ refused R.UnknownType 0
  unfolding answer_of read_frame
  strange_frame f s = rw ((whole_header f s.whole.seven s.whole.sized).reads, s.unknown)

  -- a whole frame in front of anything is listed, and the listing goes on after it
  list_whole : (p : ℕ) (f b : List ℕ) → Whole f
      → list_from ts rs p 0 (f ++ b) ≡ entry p (length f) (type_in f) (tag_in f) (raise p (answer_of ts rs f)) (tail_in (length f) (answer_of ts rs f)) (list_from ts rs (p + length f) 0 b)
  list_whole p f b w =
      let h = w.seven in
      let l = length-append f b in
      let x : Front (f ++ b) (length f) = record { four = omega arith; size = ap from_le (take-append-le 4 f b (omega arith)) ∙ w.sized; seven = h; held = omega arith } in
      rw (take-append_seam f b, drop-append_seam f b) at (list_next ts rs p (length f) (f ++ b) x)

  pub old_listed : {old new : List ℕ} (e : Edited ts rs old new) (p : ℕ) → Bytes old → list_from ts rs p 0 old ≡ old_lines p e
  unfolding old_lines list_from
  old_listed nothing p b = refl
  old_listed (grown {old = old} f g ty used vs w a l e) p b =
      list_whole p f old w ∙ rw a (ap (entry p (length f) (type_in f) (tag_in f) (raise p (accepted ty vs used)) (length f - used)) (old_listed e (p + length f) (bytes_split f old b).1))
  old_listed (added f s e) p b = old_listed e p b

  pub new_listed : {old new : List ℕ} (e : Edited ts rs old new) (p : ℕ) → Bytes old → Bytes new → list_from ts rs p 0 new ≡ new_lines p e
  unfolding new_lines list_from
  new_listed nothing p b c = refl
  new_listed (grown {old = old} {new = new} f g ty used vs w a l e) p b c =
      let x = grown_frame ts rs f g (bytes_split f old b).0 (bytes_split g new c).0 a l in
      let y = x.within in
      let z = l.longer in
      list_whole p g new l.whole
      ∙ rw (x.type, x.tag, x.answer)
      (ap₂ (entry p (length g) (type_in f) (tag_in f) (raise p (accepted ty vs used))) (omega arith) (new_listed e (p + length g) (bytes_split f old b).1 (bytes_split g new c).1))
  new_listed (added {new = new} f s e) p b c =
      list_whole p f new s.whole
      ∙ rw (strange_frame f s) (ap (entry p (length f) (type_in f) (tag_in f) (refused R.UnknownType 0) 0) (new_listed e (p + length f) b (bytes_split f new c).1))

-- ---- the accident

-- the fields of an accepted frame lie within it, after its header
fields_within : (ts rs : List Row) (f : List ℕ) {ty used : ℕ} {vs : List Value} → Bytes f → answer_of ts rs f ≡ accepted ty vs used → (7 ≤ used) × (used ≤ length f)
unfolding answer_of
fields_within ts rs f {ty} {used} b a =
    answer_inv (read_frame (table_for ts rs (type_in f)) f) a
    (λ at tag e.
    let rows : List Row = table_for ts rs (type_in f) in
    let A = accepts rows f b e in
    let n : length (take used f) ≡ 7 + length (items_bytes A.items)
    = ap length (first_used rows f A) ∙ length-append (head_bytes A.size ty tag) (items_bytes A.items) ∙ ap (λ m. m + length (items_bytes A.items)) (head_length A.size ty tag) in
    let k = length-take used f in
    let u = A.uses in
    (omega arith, omega arith))

once : {m n t t' p p' ty tag : ℕ} (a : Answer) → m ≡ n → t ≡ t' → p ≡ p' → entry 0 m ty tag (raise 0 a) t (ends p) ≡ entry 0 n ty tag a t' (ends p')
once a e f g = rw (raise_zero a, e, f, g)

module _ (ts rs : List Row) (f : List ℕ) {ty used : ℕ} {vs : List Value} (b : Bytes f) (w : Whole f) (a : answer_of ts rs f ≡ accepted ty vs used) (h : length f + length f < 256 ^ 4) where
  repeated_length : length (repeated f) ≡ length f + length f
  unfolding repeated
  repeated_length =
      let s = w.seven in
      length-append (to_le 4 (length f + length f)) (drop 4 f ++ f)
      ∙ ap₂ (λ m n. m + n) (length_to_le 4 (length f + length f)) (length-append (drop 4 f) f ∙ ap (λ n. n + length f) (length-drop 4 f)) ∙ (omega arith)

  repeated_size : size_in (repeated f) ≡ length f + length f
  unfolding repeated
  repeated_size = ap from_le (take_at (to_le 4 (length f + length f)) (drop 4 f ++ f) 4 (length_to_le 4 (length f + length f))) ∙ from_to 4 (length f + length f) h

  repeated_bytes : Bytes (repeated f)
  unfolding repeated
  repeated_bytes = bytes_join (to_le 4 (length f + length f)) (drop 4 f ++ f) (bytes_to_le 4 (length f + length f)) (bytes_join (drop 4 f) f (bytes_drop 4 f b) b)

  repeated_same : 7 ≤ used → used ≤ length f → drop 4 (take used (repeated f)) ≡ drop 4 (take used f)
  unfolding repeated
  repeated_same v u =
      let n : used ≡ 4 + (used - 4) = omega arith in
      let x : List ℕ = to_le 4 (length f + length f) in
      let d = length-drop 4 f in
      let t : drop 4 (x ++ (drop 4 f ++ f)) ≡ drop 4 f ++ f = drop_at x (drop 4 f ++ f) 4 (length_to_le 4 (length f + length f)) in
      ap (λ m. drop 4 (take m (x ++ (drop 4 f ++ f)))) n ∙ drop_take 4 (used - 4) (x ++ (drop 4 f ++ f)) ∙ ap (take (used - 4)) t ∙ take-append-le (used - 4) (drop 4 f) f (omega arith)
      ∙ sym (ap (λ m. drop 4 (take m f)) n ∙ drop_take 4 (used - 4) f)

  longer_by_itself : Lengthened f (repeated f) used
  longer_by_itself =
      let u = fields_within ts rs f b a in
      let l = repeated_length in
      let s = w.seven in
      record { whole = record { seven = omega arith; sized = repeated_size ∙ sym l }; same = repeated_same u.0 u.1; longer = omega arith }

  -- it is listed once, with the copy as its tail
  pub accident : listing ts rs (repeated f) ≡ entry 0 (length f + length f) (type_in f) (tag_in f) (accepted ty vs used) (length f - used + length f) (ends (length f + length f))
  unfolding listing new_lines
  accident =
      let e : Edited ts rs (f ++ []) (repeated f ++ []) = grown f (repeated f) ty used vs w a longer_by_itself nothing in
      let l = repeated_length in
      let n = new_listed ts rs e 0 (bytes_join f [] b tt) (bytes_join (repeated f) [] repeated_bytes tt) in
      ap (list_from ts rs 0 0) (sym (append-nil (repeated f))) ∙ n ∙ once (accepted ty vs used) l (omega arith) (omega arith)
