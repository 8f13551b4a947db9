-- The session after any stretch is sound (F15.9), and of its own answers 20 to 24 alone: what the frames of a listing ask is fair.
use Prim.Native.Nat.{ℕ, zero, suc, ◌+◌, ◌-◌, ◌%◌, ◌^◌, ◌≤◌, ◌<◌}
use native.Mathlib.Omega.{arith}
use Rattle.std.proofs.Math.Nat.{pow-le-pow_right}
use Rattle.std.specs.Prelude.{◌≡◌, Bool, true, false, cond, ◌⊎◌, eqb, Ok}
use Rattle.std.proofs.Math.Path.{refl, sym, ap}
use Rattle.std.proofs.Common.{◌∙◌, inl, inr, length-take, take-append-drop, drop-drop, eqb-true}
use mathlib.Core.List.{List, [], ◌∷◌, ◌++◌, map, append_assoc, append-nil}
use Rattle.std.proofs.Math.Option.{some}
use Rattle.std.proofs.Math.ListN.{length, take, drop, length-append, length-drop}
use Rattle.std.proofs.Math.Seq.{drop-append_seam, length-take-le}
use Rattle.numbers.specs.Numbers.{Bytes, to_le}
use Rattle.numbers.proofs.Numbers.{length_to_le, from_bound, bytes_take, bytes_drop}
use Rattle.numbers.specs.Reading.{ok}
use Rattle.strings.specs.Strings.{read_string, string_bytes}
use Rattle.strings.proofs.StringLaws.{reads_string}
use Rattle.strings.specs.Spans.{past_str}
use Rattle.places.specs.Reads.{NamesRead}
use Rattle.fields.specs.Layouts.{num, str, strs, Layout, Item, number, string, bytes, strings, qids, box, kind, item_bytes, items_bytes, many_bytes, AllGood, Goods}
use Rattle.fields.specs.Values.{Value, start_of, len_of, count_of, places}
use Rattle.layouts.specs.Tables.{lookup, table_t, table_r}
use Rattle.layouts.specs.Bodies.{accepted, refused}
use Rattle.framing.specs.Frames.{Frame, headless, framed, read_frame}
use Rattle.framing.specs.Raising.{raise_value, raise}
use Rattle.framing.specs.Writing.{head_bytes}
use Rattle.framing.proofs.WritingLaws.{head_length}
use Rattle.framing.specs.Accepted.{Accepts}
use Rattle.framing.proofs.Accepted.{accepts}
use Rattle.framing.specs.Stretch.{type_in, tag_in, table_for, answer_in, answer_of, Listing, entry, ends, stops, list_from, listing}
use Rattle.framing.proofs.ListingLaws.{front_case, list_next}
use Rattle.session.specs.Rules.{free, fresh, stepped}
use Rattle.session.specs.Own.{OwnOf}
use Rattle.session.proofs.Own.{own_answers}
use Rattle.session.specs.Sound.{Fair, FairEvent, Sound}
use Rattle.session.proofs.Sound.{fresh_sound, step_sound}
use Rattle.session.specs.declared.Request.{Request}
use Rattle.session.specs.declared.Session.{Session}
use Rattle.session.specs.declared.What.TheVariants as W
use Rattle.events.specs.Events.{fid_in, value_in, asked_by, qids_in, what_in, event_of}

-- ---- the first fid, and the name of a Tlcreate

no : ◌≡◌ {A = ℕ} 0 1 → ⊥
no e = omega arith

module _ (p a : ℕ) where
  first_fid_lem : (is : List Item) {l : Layout} → map kind is ≡ num 4 ∷ l → Goods is → fid_in (map (raise_value p) (places a is)) 0 < free
  unfolding places
  first_fid_lem [] e g = absurd (no (cc e))
  first_fid_lem (number w n ∷ is) e g = let f : w ≡ 4 = cc e in let h : n < 256 ^ 4 = rw f at g.0 in h
  first_fid_lem (string bs ∷ is) e g = absurd (no (cc e))
  first_fid_lem (bytes bs ∷ is) e g = absurd (no (cc e))
  first_fid_lem (strings l ∷ is) e g = absurd (no (cc e))
  first_fid_lem (qids n bs ∷ is) e g = absurd (no (cc e))
  first_fid_lem (box cs ∷ is) e g = absurd (no (cc e))

  second_name : (is : List Item) {l : Layout} → map kind is ≡ num 4 ∷ str ∷ l
      → start_of (value_in (map (raise_value p) (places a is)) 1) + len_of (value_in (map (raise_value p) (places a is)) 1) ≤ p + (a + length (items_bytes is))
  unfolding places items_bytes item_bytes string_bytes
  second_name (number w n ∷ string bs ∷ is) e =
      let u = length_to_le w n in
      let v = length_to_le 2 (length bs) in
      let x = length-append (to_le w n) ((to_le 2 (length bs) ++ bs) ++ items_bytes is) in
      let y = length-append (to_le 2 (length bs) ++ bs) (items_bytes is) in
      let z = length-append (to_le 2 (length bs)) bs in
      omega arith
  second_name [] e = absurd (no (cc e))
  second_name (number w n ∷ []) e = absurd (no (cc e))
  second_name (number w n ∷ number v m ∷ is) e = absurd (no (cc e))
  second_name (number w n ∷ bytes bs ∷ is) e = absurd (no (cc e))
  second_name (number w n ∷ strings l ∷ is) e = absurd (no (cc e))
  second_name (number w n ∷ qids m bs ∷ is) e = absurd (no (cc e))
  second_name (number w n ∷ box cs ∷ is) e = absurd (no (cc e))
  second_name (string bs ∷ is) e = absurd (no (cc e))
  second_name (bytes bs ∷ is) e = absurd (no (cc e))
  second_name (strings l ∷ is) e = absurd (no (cc e))
  second_name (qids n bs ∷ is) e = absurd (no (cc e))
  second_name (box cs ∷ is) e = absurd (no (cc e))

-- ---- the names of a Twalk

past_is : (bs : List ℕ) (q : ℕ) {x r : List ℕ} → read_string q (drop q bs) ≡ ok x r → past_str bs (Ok q) ≡ Ok (length bs - length r)
unfolding past_str
past_is bs q e = rw e

names_read : (bs : List ℕ) (l : List (List ℕ)) (q : ℕ) (r : List ℕ) → AllGood l → q ≤ length bs → drop q bs ≡ many_bytes l ++ r → NamesRead bs (length l) (Ok q)
unfolding NamesRead many_bytes
names_read bs [] q r g h e = tt
names_read bs (x ∷ l) q r g h e =
    let t : List ℕ = many_bytes l ++ r in
    let f : drop q bs ≡ string_bytes x ++ t = e ∙ append_assoc (string_bytes x) (many_bytes l) r in
    let m : read_string q (drop q bs) ≡ ok x t = ap (read_string q) f ∙ (reads_string q x g.0).back t in
    let n : length bs - q ≡ length (string_bytes x) + length t = sym (length-drop q bs) ∙ ap length f ∙ length-append (string_bytes x) t in
    let k : past_str bs (Ok q) ≡ Ok (q + length (string_bytes x)) = past_is bs q m ∙ ap Ok (omega arith) in
    let d : drop (q + length (string_bytes x)) bs ≡ t = sym (drop-drop (length (string_bytes x)) q bs) ∙ ap (drop (length (string_bytes x))) f ∙ drop-append_seam (string_bytes x) t in
    rw k (tt, names_read bs l (q + length (string_bytes x)) r g.1 (omega arith) d)

as_number : {X : Type 0} (i : Item) → kind i ≡ num 4 → ((n : ℕ) → i ≡ number 4 n → X) → X
as_number (number w n) e f = f n (ap (λ (v : ℕ). number v n) (cc e))
as_number (string bs) e f = absurd (no (cc e))
as_number (bytes bs) e f = absurd (no (cc e))
as_number (strings l) e f = absurd (no (cc e))
as_number (qids n bs) e f = absurd (no (cc e))
as_number (box cs) e f = absurd (no (cc e))

as_strings : {X : Type 0} (i : Item) → kind i ≡ strs → ((l : List (List ℕ)) → i ≡ strings l → X) → X
as_strings (strings l) e f = f l refl
as_strings (number w n) e f = absurd (no (cc e))
as_strings (string bs) e f = absurd (no (cc e))
as_strings (bytes bs) e f = absurd (no (cc e))
as_strings (qids n bs) e f = absurd (no (cc e))
as_strings (box cs) e f = absurd (no (cc e))

-- after the header, two numbers and the count
module _ (bs h z : List ℕ) (p : ℕ) (u : length h ≡ 7) (v : p ≤ length bs) where
  abbrev NamesOf : List Item → Type 0
  NamesOf is = NamesRead bs (count_of (value_in (map (raise_value p) (places 7 is)) 2)) (Ok (start_of (value_in (map (raise_value p) (places 7 is)) 2)))

  three : (a b : ℕ) (l : List (List ℕ)) → AllGood l → drop p bs ≡ h ++ (items_bytes (number 4 a ∷ number 4 b ∷ strings l ∷ []) ++ z) → NamesOf (number 4 a ∷ number 4 b ∷ strings l ∷ [])
  unfolding places items_bytes item_bytes
  three a b l g e =
      let front : List ℕ = h ++ (to_le 4 a ++ (to_le 4 b ++ to_le 2 (length l))) in
      let f : drop p bs ≡ front ++ (many_bytes l ++ z) = e ∙ simp (append_assoc, append-nil) in
      let la = length_to_le 4 a in
      let lb = length_to_le 4 b in
      let lc = length_to_le 2 (length l) in
      let k : length front ≡ 17 = simp length-append (omega arith) in
      let m : length bs - p ≡ 17 + length (many_bytes l ++ z) = sym (length-drop p bs) ∙ ap length f ∙ length-append front (many_bytes l ++ z) ∙ (omega arith) in
      let q : p + (7 + length (to_le 4 a) + length (to_le 4 b) + 2) ≡ p + length front = omega arith in
      let d : drop (p + length front) bs ≡ many_bytes l ++ z = sym (drop-drop (length front) p bs) ∙ ap (drop (length front)) f ∙ drop-append_seam front (many_bytes l ++ z) in
      rw q (names_read bs l (p + length front) z g (omega arith) d)

  walk_names : (is : List Item) → map kind is ≡ num 4 ∷ num 4 ∷ strs ∷ [] → Goods is → drop p bs ≡ h ++ (items_bytes is ++ z) → NamesOf is
  walk_names (i ∷ j ∷ k ∷ []) e g w =
      as_number i (cc e) (λ a ia. as_number j (cc e) (λ b jb. as_strings k (cc e) (λ l kl.
      let g3 : Goods (i ∷ j ∷ strings l ∷ []) = rw kl at g in
      let w3 : drop p bs ≡ h ++ (items_bytes (number 4 a ∷ number 4 b ∷ strings l ∷ []) ++ z) = rw (ia, jb, kl) at w in
      rw (ia, jb, kl) (three a b l g3.1.1.0.1 w3))))
  walk_names [] e g w = absurd (no (cc e))
  walk_names (i ∷ []) e g w = absurd (no (cc e))
  walk_names (i ∷ j ∷ []) e g w = absurd (no (cc e))
  walk_names (i ∷ j ∷ k ∷ m ∷ is) e g w = absurd (no (cc e))

-- ---- what a request of its type asks

record Typed (ty : ℕ) (r : Request) : Type 0 where
  is : r.ty ≡ ty

by_cond : {ty : ℕ} {x y : Request} (b : Bool) → (b ≡ true → Typed ty x) → Typed ty y → Typed ty (cond b x y)
by_cond true f g = f refl
by_cond false f g = g

module _ (vs : List Value) where
  typed_so : (ty : ℕ) → Typed ty (asked_by ty vs)
  unfolding asked_by
  typed_so ty =
      by_cond (eqb ty 100) (λ e. record { is = sym (eqb-true ty 100 e) })
      (by_cond (eqb ty 108) (λ e. record { is = sym (eqb-true ty 108 e) })
      (by_cond (eqb ty 102) (λ e. record { is = sym (eqb-true ty 102 e) })
      (by_cond (eqb ty 104) (λ e. record { is = sym (eqb-true ty 104 e) })
      (by_cond (eqb ty 110) (λ e. record { is = sym (eqb-true ty 110 e) })
      (by_cond (eqb ty 30) (λ e. record { is = sym (eqb-true ty 30 e) })
      (by_cond (eqb ty 14) (λ e. record { is = sym (eqb-true ty 14 e) })
      (by_cond (eqb ty 120) (λ e. record { is = sym (eqb-true ty 120 e) }) (by_cond (eqb ty 122) (λ e. record { is = sym (eqb-true ty 122 e) }) record { is = refl }))))))))

  type_kept : (ty : ℕ) → (asked_by ty vs).ty ≡ ty
  type_kept ty = (typed_so ty).is

  walk_known : (asked_by 110 vs).known ≡ fid_in vs 0
  unfolding asked_by
  walk_known = refl

  create_known : (asked_by 14 vs).known ≡ fid_in vs 0
  unfolding asked_by
  create_known = refl

  walk_part : ((asked_by 110 vs).count ≡ count_of (value_in vs 2)) × ((asked_by 110 vs).start ≡ start_of (value_in vs 2))
  unfolding asked_by
  walk_part = (refl, refl)

  copy_known : (asked_by 30 vs).known ≡ fid_in vs 0
  unfolding asked_by
  copy_known = refl

  create_name : ((asked_by 14 vs).start ≡ start_of (value_in vs 1)) × ((asked_by 14 vs).len ≡ len_of (value_in vs 1))
  unfolding asked_by
  create_name = (refl, refl)

-- the layouts of the three, in the one table that has them
walk_layout : {l : Layout} (t : Bool) → lookup (cond t table_t table_r) 110 ≡ some l → num 4 ∷ num 4 ∷ strs ∷ [] ≡ l
walk_layout true e = cc e
walk_layout false e = absurd (no (cc e))

create_layout : {l : Layout} (t : Bool) → lookup (cond t table_t table_r) 14 ≡ some l → num 4 ∷ str ∷ num 4 ∷ num 4 ∷ num 4 ∷ [] ≡ l
create_layout true e = cc e
create_layout false e = absurd (no (cc e))

copy_layout : {l : Layout} (t : Bool) → lookup (cond t table_t table_r) 30 ≡ some l → num 4 ∷ num 4 ∷ str ∷ [] ≡ l
copy_layout true e = cc e
copy_layout false e = absurd (no (cc e))

-- ---- a frame that is listed at p

module _ (bs : List ℕ) (p : ℕ) (f r : List ℕ) (b : Bytes f) (v : p ≤ length bs) (w : drop p bs ≡ f ++ r) where
  h : p + length f ≤ length bs
  h = let k = sym (length-drop p bs) ∙ ap length w ∙ length-append f r in omega arith

  module _ (t : Bool) {ty tag used : ℕ} {vs : List Value} (x : Accepts (cond t table_t table_r) f ty tag vs used) where
    fid_fits : {l : Layout} → num 4 ∷ l ≡ map kind x.items → fid_in (map (raise_value p) vs) 0 < free
    fid_fits m = rw x.values (first_fid_lem p 7 x.items (sym m) x.stands.goods)

    begins : (ty ≡ 110) ⊎ ((ty ≡ 14) ⊎ (ty ≡ 30)) → (asked_by ty (map (raise_value p) vs)).known < free
    begins (inl e) = rw (e, walk_known (map (raise_value p) vs)) (fid_fits (walk_layout t (rw e at x.stands.known)))
    begins (inr (inl e)) = rw (e, create_known (map (raise_value p) vs)) (fid_fits (create_layout t (rw e at x.stands.known)))
    begins (inr (inr e)) = rw (e, copy_known (map (raise_value p) vs)) (fid_fits (copy_layout t (rw e at x.stands.known)))

    frame_holds : 7 + length (items_bytes x.items) ≤ length f
    frame_holds =
        let l = ap length x.held ∙ length-append (head_bytes x.size ty tag) (items_bytes x.items ++ x.left) in
        let m = head_length x.size ty tag in
        let n = length-append (items_bytes x.items) x.left in
        let k = length-take x.size f in
        omega arith

    lies : ty ≡ 14 → (asked_by ty (map (raise_value p) vs)).start + (asked_by ty (map (raise_value p) vs)).len ≤ length bs
    lies e =
        let c = create_name (map (raise_value p) vs) in
        let m = second_name p 7 x.items (sym (create_layout t (rw e at x.stands.known))) in
        let k = frame_holds in
        let o = h in
        rw (e, c.0, c.1, x.values) (omega arith)

    reads : ty ≡ 110 → NamesRead bs (asked_by ty (map (raise_value p) vs)).count (Ok (asked_by ty (map (raise_value p) vs)).start)
    reads e =
        let c = walk_part (map (raise_value p) vs) in
        let m = sym (walk_layout t (rw e at x.stands.known)) in
        let z : List ℕ = x.left ++ (drop x.size f ++ r) in
        let y : drop p bs ≡ head_bytes x.size ty tag ++ (items_bytes x.items ++ z)
        = w ∙ ap (λ (q : List ℕ). q ++ r) (sym (take-append-drop x.size f) ∙ ap (λ (q : List ℕ). q ++ drop x.size f) x.held) ∙ simp append_assoc in
        rw (e, c.0, c.1, x.values) (walk_names bs (head_bytes x.size ty tag) z p (head_length x.size ty tag) v x.items m x.stands.goods y)

    fair_request : Fair bs (asked_by ty (map (raise_value p) vs))
    fair_request = record { begins = λ c. begins (rw (type_kept (map (raise_value p) vs) ty) at c); lies = λ c. lies (sym (type_kept (map (raise_value p) vs) ty) ∙ c); reads = λ c. reads (sym (type_kept (map (raise_value p) vs) ty) ∙ c) }

  either : (u : Bool) {r : Request} (n : ℕ) → Fair bs r → FairEvent bs (cond u (W.Asks r) (W.Answers n))
  either true n g = g
  either false n g = tt

  fair_event : FairEvent bs (what_in (raise p (answer_of table_t table_r f)))
  unfolding answer_of
  fair_event = go (read_frame (table_for table_t table_r (type_in f)) f) refl
    where
      go : (m : Frame) → read_frame (table_for table_t table_r (type_in f)) f ≡ m → FairEvent bs (what_in (raise p (answer_in m)))
      go (headless k at) e = tt
      go (framed q tag (refused k at)) e = tt
      go (framed q tag (accepted ty vs used)) e =
          either (eqb (ty % 2) 0) (qids_in (map (raise_value p) vs)) (fair_request (eqb (type_in f % 2) 0) (accepts (table_for table_t table_r (type_in f)) f b e))

-- ---- any trace

-- the session after the frames of a listing
unfoldable pub leaves : List ℕ → Session → Listing → Session
leaves bs s (entry at size ty tag a tail l) = leaves bs (stepped bs s (event_of ty tag a)).session l
leaves bs s (ends p) = s
leaves bs s (stops k p) = s

-- of each frame that was read the session answers 0 or 20 to 24; of any other what the codec does
abbrev pub AllOwn : List ℕ → Session → Listing → Type 0
AllOwn bs s (entry at size ty tag a tail l) = OwnOf (what_in a) (stepped bs s (event_of ty tag a)).answer × AllOwn bs (stepped bs s (event_of ty tag a)).session l
AllOwn bs s (ends p) = Unit {0}
AllOwn bs s (stops k p) = Unit {0}

tag_most : (f : List ℕ) → Bytes f → tag_in f < free
tag_most f b =
    let d = bytes_take 2 (drop 5 f) (bytes_drop 5 f b) in
    let g = from_bound (take 2 (drop 5 f)) d in
    let q : length (take 2 (drop 5 f)) ≤ 2 = simp length-take (omega arith) in
    let k : 256 ^ length (take 2 (drop 5 f)) ≤ 256 ^ 2 = pow-le-pow_right (omega arith) q in
    omega arith

module _ (bs : List ℕ) (w : Bytes bs) where
  one_frame : (s : Session) (p ty : ℕ) (f r : List ℕ) → Bytes f → p ≤ length bs → drop p bs ≡ f ++ r → Sound bs s → Sound bs (stepped bs s (event_of ty (tag_in f) (raise p (answer_of table_t table_r f)))).session
  unfolding event_of
  one_frame s p ty f r b v e d = step_sound w d (event_of ty (tag_in f) (raise p (answer_of table_t table_r f))) (tag_most f b) (fair_event bs p f r b v e)

  one_own : (s : Session) (p ty : ℕ) (f : List ℕ) → Bytes f → Sound bs s → OwnOf (what_in (raise p (answer_of table_t table_r f))) (stepped bs s (event_of ty (tag_in f) (raise p (answer_of table_t table_r f)))).answer
  unfolding event_of
  one_own s p ty f b d = own_answers d (event_of ty (tag_in f) (raise p (answer_of table_t table_r f))) (tag_most f b)

  -- of fewer than k bytes, from p on
  abbrev From : ℕ → Type 0
  From k = (xs : List ℕ) (p : ℕ) (s : Session) → length xs < k → Bytes xs → p ≤ length bs → drop p bs ≡ xs → Sound bs s → Sound bs (leaves bs s (list_from table_t table_r p 0 xs)) × AllOwn bs s (list_from table_t table_r p 0 xs)

  from_step : (k : ℕ) → From k → From (suc k)
  unfolding leaves list_from
  from_step k ih [] p s h b l o d = (d, tt)
  from_step k ih (x ∷ xs) p s h b l o d =
      front_case table_t table_r p (x ∷ xs)
      (λ size f e.
      let g : List ℕ = take size (x ∷ xs) in
      let r : List ℕ = drop size (x ∷ xs) in
      let c : Bytes g = bytes_take size (x ∷ xs) b in
      let n = f.seven in
      let t = f.held in
      let m : length g ≡ size = length-take-le size (x ∷ xs) f.held in
      let q = length-drop size (x ∷ xs) in
      let i : length bs - p ≡ length (x ∷ xs) = sym (length-drop p bs) ∙ ap length o in
      let y = one_frame s p (type_in g) g r c l (o ∙ sym (take-append-drop size (x ∷ xs))) d in
      let z = ih r (p + size) (stepped bs s (event_of (type_in g) (tag_in g) (raise p (answer_of table_t table_r g)))).session (omega arith) (bytes_drop size (x ∷ xs) b) (omega arith) (sym (drop-drop size p bs) ∙ ap (drop size) o) y in
      rw (list_next table_t table_r p size (x ∷ xs) f) (z.0, (one_own s p (type_in g) g c d, z.1)))
      (λ j e. rw (e, list_from) (d, tt))

  from_any : (k : ℕ) → From k
  from_any zero = λ xs p s h b l o d. absurd (omega arith)
  from_any (suc k) = from_step k (from_any k)

  from_fresh : Sound bs (leaves bs fresh (listing table_t table_r bs)) × AllOwn bs fresh (listing table_t table_r bs)
  unfolding listing
  from_fresh = from_any (suc (length bs)) bs 0 fresh (omega arith) w (omega arith) refl (fresh_sound bs)

  pub recording_sound : Sound bs (leaves bs fresh (listing table_t table_r bs))
  recording_sound = from_fresh.0

  pub recording_own : AllOwn bs fresh (listing table_t table_r bs)
  recording_own = from_fresh.1
