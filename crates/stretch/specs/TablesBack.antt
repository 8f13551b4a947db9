-- Demand 3 of walks that were written from tables: they read back, as the Twalk and the Rwalk of F3.2.
use Rattle.std.specs.Prelude.{ℕ, suc, ◌+◌, ◌^◌, ◌≤◌, ◌<◌, ◌≡◌, refl, List, [], ◌∷◌, ◌++◌, map, length, drop, get_or, Ok}
use Rattle.std.proofs.Common.{arith, sym, ap, ap₂, ◌∙◌, append_assoc, append-nil, lit<, le-leb}
use Rattle.std.proofs.Math.Option.{some}
use Rattle.std.proofs.lemmas.Bool.{lt-leb}
use Rattle.numbers.specs.Numbers.{to_le}
use Rattle.numbers.specs.Reading.{Reading, ok, after}
use Rattle.numbers.proofs.ReadingLaws.{or_else, after_inv}
use Rattle.strings.specs.Strings.{string_bytes}
use Rattle.strings.specs.Spans.{show_string}
use Rattle.fields.specs.Layouts.{num, Item, number, string, strings, qids, kind, counted, read_fields, many_bytes, item_bytes, items_bytes, AllGood, Goods}
use Rattle.fields.proofs.LayoutLaws.{reads_fields}
use Rattle.fields.specs.Values.{places, show, shows}
use Rattle.fields.proofs.ValueLaws.{shows_items}
use Rattle.layouts.specs.Tables.{Row, lookup, layout_twalk, layout_rwalk}
use Rattle.layouts.specs.Tables as L
use Rattle.layouts.specs.Plain as P
use Rattle.layouts.specs.Bodies.{accepted}
use Rattle.layouts.specs.declared.qids.Qid.{Qid}
use Rattle.framing.specs.Frames.{framed, read_frame}
use Rattle.framing.specs.Writing.{head_bytes, frame_past}
use Rattle.framing.proofs.WritingLaws.{head_length}
use Rattle.tables.specs.Tables.{TableWritten, name_fields, name_values, walk_fields, walk_values, TwalkWritten, qid_items, RwalkWritten}
use Rattle.tables.specs.QidLaws.{qids_bytes, qids_length}
use Rattle.framing.specs.Accepted.{Stands}
use Rattle.framing.proofs.Accepted.{reads_frame}
use Rattle.framing.specs.ReadBack.{Wrote}
use Rattle.framing.proofs.ReadBack.{good_text, wrote}

-- what a table that was written had: no more elements than a walk may
in_table : (k : ℕ) (m : Reading (List Item)) {ty tag n : ℕ} {o o' : List ℕ} → TableWritten ty tag (counted k m) o o' (Ok n) → (k ≤ 16) × Wrote m ty tag o o' n
unfolding frame_past
in_table k m {ty} {tag} w =
    or_else k 16
    (λ h. let f = le-leb k 16 h in (h, wrote m ty tag (rw f at w.bytes) (rw f at w.next)))
    (λ h. absurd (let d = rw (lt-leb k 16 h) at w.next in let z : ◌≡◌ {A = ℕ} 0 1 = cc d in omega arith))

-- a frame whose bytes are those of other items is read as those, and shows them
record FrameBack (rows : List Row) (ty tag n : ℕ) (o' : List ℕ) (ks : List Item) : Type 0 where
  pub reads : read_frame rows o' ≡ framed 0 tag (accepted ty (places 7 ks) n)
  pub after : shows (map kind ks) o' (places 7 ks) ≡ ok ks []

frame_back : {rows : List Row} {m : Reading (List Item)} {ty tag n : ℕ} {o o' : List ℕ} {ks : List Item} (W : Wrote m ty tag o o' n) → items_bytes W.items ≡ items_bytes ks → Stands rows n ty tag ks
    → FrameBack rows ty tag n o' ks
frame_back {rows} {m} {ty} {tag} {n} {o} {o'} {ks} W i s =
    let u = W.size in
    let q = ap length i in
    let a : o' ≡ head_bytes n ty tag ++ (items_bytes ks ++ []) ++ drop n o = W.front ∙ ap (λ (x : List ℕ). head_bytes n ty tag ++ x ++ drop n o) (i ∙ sym (append-nil (items_bytes ks))) in
    let b : o' ≡ head_bytes n ty tag ++ (items_bytes ks ++ drop n o)
    = W.front ∙ ap (λ (x : List ℕ). head_bytes n ty tag ++ x ++ drop n o) i ∙ append_assoc (head_bytes n ty tag) (items_bytes ks) (drop n o) in
    let v : 7 + length (items_bytes ks ++ []) ≡ n = ap (λ (x : List ℕ). 7 + length x) (append-nil (items_bytes ks)) ∙ (omega arith) in
    record {
      reads = ap (read_frame rows) a ∙ reads_frame rows n ty tag ks [] (drop n o) s v ∙ ap (λ k. framed 0 tag (accepted ty (places 7 ks) k)) (omega arith);
      after = ap (λ (x : List ℕ). shows (map kind ks) x (places 7 ks)) b ∙ shows_items ks (head_bytes n ty tag) (drop n o) 7 s.goods (head_length n ty tag);
    }

-- what is read and shown of one output is one
frame_one : {rows : List Row} {ty tag n tag' n' : ℕ} {o' : List ℕ} {ks ks' : List Item} → map kind ks ≡ map kind ks' → FrameBack rows ty tag n o' ks → FrameBack rows ty tag' n' o' ks' → (tag ≡ tag') × (n ≡ n') × (ks ≡ ks')
frame_one {ty = ty} {tag} {n} {tag'} {n'} {o'} {ks} {ks'} k B C =
    let d : framed 0 tag (accepted ty (places 7 ks) n) ≡ framed 0 tag' (accepted ty (places 7 ks') n') = sym B.reads ∙ C.reads in
    let v : places 7 ks ≡ places 7 ks' = cc d in
    let e : ok ks [] ≡ ok ks' [] = sym B.after ∙ ap₂ (λ l x. shows l o' x) k v ∙ C.after in
    (cc d, cc d, cc e)

-- ---- names

record Names (t : List (List ℕ)) (is : List Item) : Type 0 where
  pub names : List (List ℕ)
  pub are : is ≡ map string names
  pub count : length names ≡ length t
  pub good : AllGood names

names_shown : (t : List (List ℕ)) (lent : List ℕ) {is : List Item} {r : List ℕ} → shows (name_fields t) lent (name_values t) ≡ ok is r → Names t is
unfolding shows show
names_shown [] lent {is} e = record { names = []; are = (let f : [] ≡ is = cc e in sym f); count = refl; good = tt }
names_shown (row ∷ t) lent {is} e =
    after_inv (after (show_string lent (get_or row 0 0) (get_or row 1 0)) (λ bs s. ok (string bs) s)) _ e
    (λ i s e1 e2. after_inv (shows (name_fields t) lent (name_values t)) _ e2
    (λ js u e3 e4. after_inv (show_string lent (get_or row 0 0) (get_or row 1 0)) _ e1
    (λ bs v e5 e6.
    let n = names_shown t lent e3 in
    let f : string bs ≡ i = cc e6 in
    let g : i ∷ js ≡ is = cc e4 in
    record {
      names = bs ∷ n.names;
      are = sym g ∙ ap₂ (λ x y. x ∷ y) (sym f) n.are;
      count = ap suc n.count;
      good = (good_text lent (get_or row 0 0) (get_or row 1 0) e5, n.good);
    })))

names_bytes : (l : List (List ℕ)) → items_bytes (map string l) ≡ many_bytes l
unfolding items_bytes item_bytes many_bytes
names_bytes [] = refl
names_bytes (b ∷ bs) = ap (λ (x : List ℕ). string_bytes b ++ x) (names_bytes bs)

-- the names that the table's spans show, the frame that is read, and those names shown of the frame's bytes
pub record TwalkBack (rows : List Row) (tag fid newfid : ℕ) (lent : List ℕ) (t : List (List ℕ)) (o' : List ℕ) (n : ℕ) : Type 0 where
  pub names : List (List ℕ)
  pub left : List ℕ
  pub shown : shows (name_fields t) lent (name_values t) ≡ ok (map string names) left
  pub reads : read_frame rows o' ≡ framed 0 tag (accepted 110 (places 7 (number 4 fid ∷ number 4 newfid ∷ strings names ∷ [])) n)
  pub after : shows layout_twalk o' (places 7 (number 4 fid ∷ number 4 newfid ∷ strings names ∷ [])) ≡ ok (number 4 fid ∷ number 4 newfid ∷ strings names ∷ []) []

walk_inv : {X : Type 0} (t : List (List ℕ)) (lent : List ℕ) (fid newfid k : ℕ) {is : List Item} {r : List ℕ} → shows (walk_fields t) lent (walk_values fid newfid k t) ≡ ok is r
    → ((js : List Item) (u : List ℕ) → shows (name_fields t) lent (name_values t) ≡ ok js u → is ≡ number 4 fid ∷ number 4 newfid ∷ number 2 k ∷ js → X) → X
unfolding shows show
walk_inv t lent fid newfid k {is} e f =
    after_inv (after (after (shows (name_fields t) lent (name_values t)) (λ x v. ok (number 2 k ∷ x) v)) (λ x v. ok (number 4 newfid ∷ x) v)) _ e
    (λ a s e1 e2. after_inv (after (shows (name_fields t) lent (name_values t)) (λ x v. ok (number 2 k ∷ x) v)) _ e1
    (λ b v e3 e4. after_inv (shows (name_fields t) lent (name_values t)) _ e3
    (λ js u e5 e6.
    let x : number 4 fid ∷ a ≡ is = cc e2 in
    let y : number 4 newfid ∷ b ≡ a = cc e4 in
    let z : number 2 k ∷ js ≡ b = cc e6 in
    f js u e5 (sym (ap (λ c. number 4 fid ∷ number 4 newfid ∷ c) z ∙ ap (λ c. number 4 fid ∷ c) y ∙ x)))))

walk_bytes : (fid newfid : ℕ) (l : List (List ℕ)) → items_bytes (number 4 fid ∷ number 4 newfid ∷ number 2 (length l) ∷ map string l) ≡ items_bytes (number 4 fid ∷ number 4 newfid ∷ strings l ∷ [])
unfolding items_bytes item_bytes
walk_bytes fid newfid l =
    ap (λ (x : List ℕ). to_le 4 fid ++ (to_le 4 newfid ++ x)) (ap (λ (x : List ℕ). to_le 2 (length l) ++ x) (names_bytes l) ∙ sym (append-nil (to_le 2 (length l) ++ many_bytes l)))

pub twalk_back : {rows : List Row} {tag fid newfid n : ℕ} {lent o o' : List ℕ} (t : List (List ℕ)) → lookup rows 110 ≡ some layout_twalk → tag < 256 ^ 2 → fid < 256 ^ 4 → newfid < 256 ^ 4 → TwalkWritten tag fid newfid lent t o o' (Ok n)
    → TwalkBack rows tag fid newfid lent t o' n
twalk_back {rows} {tag} {fid} {newfid} {n} {lent} {o} {o'} t k g x y w =
    let m : Reading (List Item) = shows (walk_fields t) lent (walk_values fid newfid (length t) t) in
    let p = in_table (length t) m w.is in
    let W = p.1 in
    let h = p.0 in
    walk_inv t lent fid newfid (length t) W.shown
    (λ js r e f.
    let N = names_shown t lent e in
    let l : List (List ℕ) = N.names in
    let c = N.count in
    let ks : List Item = number 4 fid ∷ number 4 newfid ∷ strings l ∷ [] in
    let i : items_bytes W.items ≡ items_bytes ks
    = ap items_bytes (f ∙ ap₂ (λ k (z : List Item). number 4 fid ∷ number 4 newfid ∷ number 2 k ∷ z) (sym c) N.are) ∙ walk_bytes fid newfid l in
    let B : FrameBack rows 110 tag n o' ks
    = frame_back W i (record { sized = let z = W.small in omega arith; typed = lit< tt; tagged = g; goods = (x, (y, ((omega arith, N.good), tt))); known = k }) in
    record { names = l; left = r; shown = e ∙ ap (λ z. ok z r) N.are; reads = B.reads; after = B.after })

-- one output is the Twalk of one pair of fids and of one list of names
pub twalk_one : {rows : List Row} {tag fid newfid n tag' fid' newfid' n' : ℕ} {lent lent' o' : List ℕ} {t t' : List (List ℕ)} (B : TwalkBack rows tag fid newfid lent t o' n) (C : TwalkBack rows tag' fid' newfid' lent' t' o' n')
    → (tag ≡ tag') × (fid ≡ fid') × (newfid ≡ newfid') × (B.names ≡ C.names)
twalk_one B C =
    let e = frame_one refl (record { reads = B.reads; after = B.after }) (record { reads = C.reads; after = C.after }) in
    let f = e.2 in
    (e.0, cc f, cc f, cc f)

-- ---- qids

-- the qids that were written stand in the frame that is read, 13 bytes each, and are shown of its bytes
pub record RwalkBack (rows : List Row) (tag : ℕ) (t : List Qid) (o' : List ℕ) (n : ℕ) : Type 0 where
  pub reads : read_frame rows o' ≡ framed 0 tag (accepted 111 (places 7 (qids (length t) (qids_bytes t) ∷ [])) n)
  pub after : shows layout_rwalk o' (places 7 (qids (length t) (qids_bytes t) ∷ [])) ≡ ok (qids (length t) (qids_bytes t) ∷ []) []

pub rwalk_back : {rows : List Row} {tag n : ℕ} {o o' : List ℕ} (t : List Qid) → lookup rows 111 ≡ some layout_rwalk → tag < 256 ^ 2 → RwalkWritten tag t o o' (Ok n) → RwalkBack rows tag t o' n
unfolding items_bytes item_bytes
rwalk_back {rows} {tag} {n} {o} {o'} t k g w =
    let p = in_table (length t) (ok (number 2 (length t) ∷ qid_items t) []) w.is in
    let W = p.1 in
    let h = p.0 in
    let e = W.shown in
    let f : number 2 (length t) ∷ qid_items t ≡ W.items = cc e in
    let i : items_bytes W.items ≡ items_bytes (qids (length t) (qids_bytes t) ∷ []) = ap items_bytes (sym f) ∙ sym (append-nil (to_le 2 (length t) ++ qids_bytes t)) in
    let B : FrameBack rows 111 tag n o' (qids (length t) (qids_bytes t) ∷ [])
    = frame_back W i (record { sized = let z = W.small in omega arith; typed = lit< tt; tagged = g; goods = ((omega arith, qids_length t), tt); known = k }) in
    record { reads = B.reads; after = B.after }

-- qids whose numbers fit their fields
abbrev pub QidsFit : List Qid → Type 0
QidsFit [] = Unit {0}
QidsFit (x ∷ t) = ((x.ty < 256 ^ 1) × (x.version < 256 ^ 4) × (x.path < 256 ^ 8)) × QidsFit t

qids_good : (t : List Qid) → QidsFit t → Goods (qid_items t)
unfolding qid_items
qids_good [] g = tt
qids_good (x ∷ t) (g, gs) = (g.0, (g.1, (g.2, qids_good t gs)))

qids_kinds : (t t' : List Qid) → length t ≡ length t' → map kind (qid_items t) ≡ map kind (qid_items t')
unfolding qid_items
qids_kinds [] [] e = refl
qids_kinds [] (y ∷ u) e = absurd (omega arith)
qids_kinds (x ∷ t) [] e = absurd (omega arith)
qids_kinds (x ∷ t) (y ∷ u) e = ap (λ l. num 1 ∷ num 4 ∷ num 8 ∷ l) (qids_kinds t u (omega arith))

abbrev qid_made : ℕ → ℕ → ℕ → Qid
qid_made a b c = record { ty = a; version = b; path = c }

qids_of_items : (t t' : List Qid) → qid_items t ≡ qid_items t' → t ≡ t'
unfolding qid_items
qids_of_items [] [] e = refl
qids_of_items [] (y ∷ u) e = absurd (let z : ◌≡◌ {A = ℕ} 0 1 = cc e in omega arith)
qids_of_items (x ∷ t) [] e = absurd (let z : ◌≡◌ {A = ℕ} 0 1 = cc e in omega arith)
qids_of_items (x ∷ t) (y ∷ u) e =
    let a : x.ty ≡ y.ty = cc e in
    let b : x.version ≡ y.version = cc e in
    let c : x.path ≡ y.path = cc e in
    let d : qid_items t ≡ qid_items u = cc e in
    ap₂ (λ r l. qid_made r x.version x.path ∷ l) a (qids_of_items t u d) ∙ ap₂ (λ r s. qid_made y.ty r s ∷ u) b c

-- their bytes say which they are
pub qids_one : (t t' : List Qid) → QidsFit t → QidsFit t' → qids_bytes t ≡ qids_bytes t' → t ≡ t'
qids_one t t' g h e =
    let a = qids_length t in
    let b = qids_length t' in
    let c = ap length e in
    let R = (reads_fields 0 (qid_items t) (qids_good t g)).back [] in
    let S = (reads_fields 0 (qid_items t') (qids_good t' h)).back [] in
    let k = qids_kinds t t' (omega arith) in
    let d : ok (qid_items t) [] ≡ ok (qid_items t') [] = sym R ∙ ap₂ (λ l (x : List ℕ). read_fields l 0 (x ++ [])) k e ∙ S in
    qids_of_items t t' (cc d)

-- one output is the Rwalk of one table
pub rwalk_one : {rows : List Row} {tag n tag' n' : ℕ} {o' : List ℕ} (t t' : List Qid) → QidsFit t → QidsFit t' → RwalkBack rows tag t o' n → RwalkBack rows tag' t' o' n' → (tag ≡ tag') × (t ≡ t')
rwalk_one t t' g h B C =
    let e = frame_one refl (record { reads = B.reads; after = B.after }) (record { reads = C.reads; after = C.after }) in
    let f = e.2 in
    (e.0, qids_one t t' g h (cc f))

-- every dialect has the rows of both walks, and so what is written from tables is read back in each
pub walks_everywhere : ((lookup L.table_t 110 ≡ some layout_twalk) × (lookup L.table_r 111 ≡ some layout_rwalk)) × ((lookup P.table_t 110 ≡ some layout_twalk) × (lookup P.table_r 111 ≡ some layout_rwalk))
walks_everywhere = ((refl, refl), (refl, refl))
