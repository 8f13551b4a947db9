-- What holds of the definitions in specs/PackLaws.antt.
use Rattle.numbers.specs.Place.{Place}
use Rattle.std.specs.Prelude.{ℕ, zero, suc, ◌+◌, ◌-◌, ◌≤◌, ◌<◌, min, ◌≡◌, refl, Bool, true, List, [], ◌∷◌, ◌++◌, length, take, drop, get_or, Ok, Err}
use Rattle.std.proofs.Common.{arith, add-one, sym, ap₂, ◌∙◌, append_assoc, append-nil, length-append, drop-cons, le-leb}
use Rattle.std.proofs.Math.Path.{ap}
use Rattle.std.proofs.Math.Seq.{drop-length}
use Rattle.std.proofs.lemmas.Bool.{lt-leb}
use Rattle.std.proofs.lemmas.List.{length-take, get_or-take}
use Rattle.numbers.specs.Numbers.{Bytes}
use Rattle.numbers.proofs.Numbers.{length_to_le}
use Rattle.numbers.specs.Reading.{Reading, ok, bad}
use Rattle.numbers.proofs.ReadingLaws.{or_else}
use Rattle.numbers.specs.Places.{Within, over}
use Rattle.numbers.proofs.PlaceLaws.{inside, over_then, length_over, refused_one}
use Rattle.numbers.specs.declared.Fault.{Fault}
use Rattle.numbers.specs.declared.Refusal.{Refusal}
use Rattle.strings.specs.Strings.{string_bytes}
use Rattle.strings.specs.Spans.{show_string, check_at, StrCheck}
use Rattle.utf8.specs.Plain.{short_plain}
use Rattle.utf8.proofs.Plain.{short_many, short_text}
use Rattle.strings.proofs.SpanLaws.{shown_in, shown_length, string_inv, string_passed}
use Rattle.fields.specs.Layouts.{Item, number, string, item_bytes, items_bytes}
use Rattle.fields.specs.Values.{Value, show, shows}
use Rattle.laying.specs.Laying.{PutAll}
use Rattle.laying.proofs.LayingLaws.{put_fields_lem}
use Rattle.layouts.specs.Tables.{layout_dirent}
use Rattle.framing.proofs.WritingLaws.{put_fits, over_none}
use Rattle.flat.specs.Flat.{low, field_values}
use Rattle.blocks.specs.declared.Packed.{Packed}
use Rattle.blocks.specs.Blocks.{shown, Pack, holds, refuses, more, fitted, pack_from, pack_in, laid_in}
use Rattle.blocks.specs.Views.{Packing, Holding, told, Fitting, PackedInto, bytes_of, row_bytes, Shows}
use Rattle.blocks.specs.PackLaws.{Sized, plus, FitTo, first_bytes, Room, Ready, PutTo, Holds}

-- ---- an entry is its numbers and its name

abbrev items_of : List ℕ → List ℕ → List Item
items_of row bs =
    number 1 (low 1 (get_or row 0 0)) ∷ number 4 (low 4 (get_or row 1 0)) ∷ number 8 (low 8 (get_or row 2 0)) ∷ number 8 (low 8 (get_or row 3 0)) ∷ number 1 (low 1 (get_or row 4 0)) ∷ string bs ∷ []

module _ (names row : List ℕ) where
  named : {bs r : List ℕ} → show_string names (get_or row 5 0) (get_or row 6 0) ≡ ok bs r → shown names row ≡ ok (items_of row bs) []
  unfolding shows show
  named e = rw e

  unnamed : {k : Refusal} {at : ℕ} → show_string names (get_or row 5 0) (get_or row 6 0) ≡ bad k at → shown names row ≡ bad k at
  unfolding shows show
  unnamed e = rw e

items_length : (row bs : List ℕ) → length (items_bytes (items_of row bs)) ≡ length bs + 24
unfolding items_bytes item_bytes string_bytes
items_length row bs = simp (length-append, length_to_le) (omega arith)

name_sized : (names row : List ℕ) {bs r : List ℕ} → show_string names (get_or row 5 0) (get_or row 6 0) ≡ ok bs r → Sized names row
name_sized names row {bs} e =
    let s = string_inv names (get_or row 5 0) (get_or row 6 0) e in
    let l : length bs ≡ get_or row 6 0 = rw s.bytes (shown_length names (get_or row 5 0) (get_or row 6 0) s.lies) in
    record { items = items_of row bs; is = named names row e; size = items_length row bs ∙ ap (λ n. n + 24) l; small = s.small }

pub entry_passes : (names row : List ℕ) {a : ℕ} {q : Place} → StrCheck names (get_or row 5 0) (get_or row 6 0) (Ok 0) q → q ≡ Ok a → Sized names row
entry_passes names row c e = name_sized names row (string_passed c e).shows

pub entry_fails : (names row : List ℕ) {x : Fault} {q : Place} → StrCheck names (get_or row 5 0) (get_or row 6 0) (Ok 0) q → q ≡ Err x → shown names row ≡ bad x.0 x.1
entry_fails names row {x} c e = unnamed names row (go (show_string names (get_or row 5 0) (get_or row 6 0)) (sym c.is ∙ e))
  where
    go : (m : Reading (List ℕ)) → check_at m (Ok 0) ≡ Err x → m ≡ bad x.0 x.1
    go (ok bs r) f = absurd (let z : ◌≡◌ {A = ℕ} 0 1 = cc f in omega arith)
    go (bad j n) f = let y = refused_one f in ap₂ bad y.0 y.1

-- a short plain name passes
short_small : (s : List ℕ) {b : Bool} → b ≡ short_plain s → b ≡ true → length s ≤ 16
short_small s e h = or_else (length s) 16 (λ l. l) (λ l. absurd (let d = short_many s l ∙ sym e ∙ h in let z : ◌≡◌ {A = ℕ} 0 1 = cc d in omega arith))

pub short_name : {names : List ℕ} {x y : ℕ} {t b : Bool} → Within x y (length names) t → t ≡ true → b ≡ short_plain (take (x + y - x) (drop x names)) → b ≡ true → StrCheck names x y (Ok 0) (Ok 0)
unfolding show_string
short_name {names} {x} {y} w h e g =
    let l = inside w h in
    let n : x + y - x ≡ y = omega arith in
    let f = rw n at e in
    let m = short_small (take y (drop x names)) f g in
    let k = shown_length names x y l in
    let z = short_text (take y (drop x names)) f g in
    record { is = rw (shown_in names x y l, le-leb y 65535 (omega arith), z.0, z.1) }

-- an entry that shows has a name that passes
pub shows_sized : {names row : List ℕ} → Shows names row → Sized names row
shows_sized {names} {row} s = go (show_string names (get_or row 5 0) (get_or row 6 0)) refl
  where
    go : (m : Reading (List ℕ)) → show_string names (get_or row 5 0) (get_or row 6 0) ≡ m → Sized names row
    go (ok bs r) e = name_sized names row e
    go (bad k at) e = absurd (let d = sym s.is ∙ unnamed names row e in let z : ◌≡◌ {A = ℕ} 0 1 = cc d in omega arith)

pub sized_shows : {names row : List ℕ} → Sized names row → Shows names row
sized_shows s = record { items = s.items; rest = []; is = s.is }

pub row_size : {names row : List ℕ} → Sized names row → length (row_bytes names row) ≡ get_or row 6 0 + 24
row_size s = ap (λ m. length (bytes_of m)) s.is ∙ s.size

-- ---- an entry and those after it

module _ (names : List ℕ) (rows : List (List ℕ)) (row : List ℕ) (room : ℕ) where
  pack_cons : {m : Reading (List Item)} → shown names row ≡ m → pack_from names room (row ∷ rows) ≡ fitted room m (λ left. pack_from names left rows)
  unfolding pack_from
  pack_cons e = ap (λ m. fitted room m (λ left. pack_from names left rows)) e

  pub pack_fits : {is : List Item} {r : List ℕ} → shown names row ≡ ok is r → length (items_bytes is) ≤ room
      → pack_from names room (row ∷ rows) ≡ more (items_bytes is) (pack_from names (room - length (items_bytes is)) rows)
  pack_fits {is} e h = pack_cons e ∙ rw (le-leb (length (items_bytes is)) room h)

  pub pack_full : {is : List Item} {r : List ℕ} → shown names row ≡ ok is r → room < length (items_bytes is) → pack_from names room (row ∷ rows) ≡ holds 0 []
  pack_full {is} e h = pack_cons e ∙ rw (lt-leb (length (items_bytes is)) room h)

  pub pack_bad : {k : Refusal} {at : ℕ} → shown names row ≡ bad k at → pack_from names room (row ∷ rows) ≡ refuses k at
  pack_bad e = pack_cons e

pub pack_none : (names : List ℕ) (room : ℕ) → pack_from names room [] ≡ holds 0 []
unfolding pack_from
pack_none names room = refl

plus_more : (bs : List ℕ) (i u : ℕ) (x : Pack) → plus i u (told (more bs x)) ≡ plus (i + 1) (u + length bs) (told x)
plus_more bs i u (holds n cs) = let l = length-append bs cs in ap₂ Holding (omega arith) (omega arith)
plus_more bs i u (refuses k at) = refl

plus_none : (x : Packing) → x ≡ plus 0 0 x
plus_none (Ok x) =
    let e : x.entries ≡ 0 + x.entries = omega arith in
    let f : x.bytes ≡ 0 + x.bytes = omega arith in
    ap₂ Holding e f
plus_none (Err f) = refl

module _ {names : List ℕ} {room : ℕ} {rows : List (List ℕ)} where
  pub fit_none : FitTo names room rows 0 0
  fit_none =
      let z : room ≡ room - 0 = omega arith in
      record { on = plus_none (told (pack_from names room rows)) ∙ ap (λ n. plus 0 0 (told (pack_from names n rows))) z; held = omega arith; count = omega arith }

  module _ {i u : ℕ} (l : i < length rows) (f : FitTo names room rows i u) where
    abbrev row : List ℕ
    row = get_or rows i []

    here : {x : Pack} → pack_from names (room - u) (row ∷ drop (suc i) rows) ≡ x → told (pack_from names room rows) ≡ plus i u (told x)
    here e = f.on ∙ ap (λ t. plus i u (told (pack_from names (room - u) t))) (drop-cons rows i [] l) ∙ ap (λ x. plus i u (told x)) e

    pub fit_next : Sized names row → get_or row 6 0 + 24 ≤ room - u → FitTo names room rows (i + 1) (u + (get_or row 6 0 + 24))
    fit_next s h =
        let w = s.size in
        let k = f.held in
        let b : List ℕ = items_bytes s.items in
        let n1 : room - u - length b ≡ room - (u + (get_or row 6 0 + 24)) = omega arith in
        let n2 : u + length b ≡ u + (get_or row 6 0 + 24) = omega arith in
        record {
          on = here (pack_fits names (drop (suc i) rows) row (room - u) s.is (omega arith)) ∙ plus_more b i u (pack_from names (room - u - length b) (drop (suc i) rows))
              ∙ ap₂ (λ m n. plus (i + 1) m (told (pack_from names n (drop (suc i) rows)))) n2 n1 ∙ ap (λ j. plus (i + 1) (u + (get_or row 6 0 + 24)) (told (pack_from names (room - (u + (get_or row 6 0 + 24))) (drop j rows)))) (sym (add-one i));
          held = omega arith;
          count = omega arith;
        }

    pub fit_full : Sized names row → room - u < get_or row 6 0 + 24 → Fitting names room rows (Holding i u)
    fit_full s h =
        let w = s.size in
        record { is = sym (here (pack_full names (drop (suc i) rows) row (room - u) s.is (omega arith)) ∙ ap₂ Holding (omega arith) (omega arith)) }

    pub fit_bad : {x : Fault} → shown names row ≡ bad x.0 x.1 → Fitting names room rows (Err x)
    fit_bad e = record { is = sym (here (pack_bad names (drop (suc i) rows) row (room - u) e)) }

  pub fit_all : {i u : ℕ} → i ≡ length rows → FitTo names room rows i u → Fitting names room rows (Holding i u)
  fit_all {i} {u} e f =
      record { is = sym (f.on ∙ ap (λ t. plus i u (told (pack_from names (room - u) t))) (ap (λ n. drop n rows) e ∙ drop-length rows) ∙ ap (λ x. plus i u (told x)) (pack_none names (room - u)) ∙ ap₂ Holding (omega arith) (omega arith)) }

pub first_none : (names : List ℕ) (rows : List (List ℕ)) → first_bytes names rows 0 ≡ []
unfolding first_bytes
first_none names rows = refl

pub first_next : (names : List ℕ) (rows : List (List ℕ)) (i : ℕ) → i < length rows → first_bytes names rows (suc i) ≡ first_bytes names rows i ++ row_bytes names (get_or rows i [])
unfolding first_bytes
first_next names [] i h = absurd (omega arith)
first_next names (row ∷ rows) zero h = append-nil (row_bytes names row)
first_next names (row ∷ rows) (suc i) h =
    ap (λ (z : List ℕ). row_bytes names row ++ z) (first_next names rows i (omega arith)) ∙ sym (append_assoc (row_bytes names row) (first_bytes names rows i) (row_bytes names (get_or rows i [])))

-- one more entry is no less
first_grows : (names : List ℕ) (rows : List (List ℕ)) (m d : ℕ) → length (first_bytes names rows m) ≤ length (first_bytes names rows (m + d))
unfolding first_bytes
first_grows names rows zero d = omega arith
first_grows names [] (suc m) d = omega arith
first_grows names (row ∷ rows) (suc m) d =
    let e : suc m + d ≡ suc (m + d) = omega arith in
    let i = first_grows names rows m d in
    let x = length-append (row_bytes names row) (first_bytes names rows m) in
    let y = length-append (row_bytes names row) (first_bytes names rows (m + d)) in
    rw e (omega arith)

pub first_least : (names : List ℕ) (rows : List (List ℕ)) (m n : ℕ) → m ≤ n → length (first_bytes names rows m) ≤ length (first_bytes names rows n)
first_least names rows m n h = let e : m + (n - m) ≡ n = omega arith in rw e at (first_grows names rows m (n - m))

pub put_row : {names row o o' : List ℕ} {vs : List Value} {at : ℕ} {q : Place} → Bytes names → Room names row at (length o) → vs ≡ field_values layout_dirent row
    → PutAll layout_dirent names vs o (Ok at) o' q → o' ≡ over o at (row_bytes names row)
put_row {names} {row} {o} {o'} {vs} {at} b r e p =
    let s = r.shows in
    let g : bytes_of (shown names row) ≡ items_bytes s.items = ap bytes_of s.is in
    let h : at + length (items_bytes s.items) ≤ length o = rw g at r.held in
    let w = rw e at p in
    w.bytes ∙ (put_fields_lem layout_dirent names (field_values layout_dirent row) o at b s.is h).bytes ∙ put_fits (items_bytes s.items) o at h ∙ ap (over o at) (sym g)

pub no_entry : {names row : List ℕ} {at len : ℕ} {X : Type 0} → Room names row at len → len < at + 24 → X
no_entry r h = absurd (let z = row_size (shows_sized r.shows) in let k = r.held in omega arith)

pub put_none : (names : List ℕ) (rows : List (List ℕ)) (o : List ℕ) → PutTo names rows 0 0 o o
put_none names rows o = record {
  count = omega arith;
  at_is = ap length (sym (first_none names rows));
  is = over_none o 0 (omega arith) ∙ ap (over o 0) (sym (first_none names rows));
}

-- a row among the first n
pub row_before : (rows : List (List ℕ)) (n : ℕ) {i : ℕ} → i < length (take n rows) → (i < n) × (get_or (take n rows) i [] ≡ get_or rows i [])
row_before rows n {i} h =
    let l = length-take n rows in
    let b : i < n = omega arith in
    (b, get_or-take n rows i [] b)

module _ {names : List ℕ} {rows : List (List ℕ)} {n i at : ℕ} {o o1 : List ℕ} (r : Ready names rows n (length o)) (l : i < n) (p : PutTo names rows i at o o1) where
  abbrev this : List ℕ
  this = get_or rows i []

  grown : length (first_bytes names rows (suc i)) ≡ at + length (row_bytes names this)
  grown =
      let c = r.count in
      let a = p.at_is in
      ap length (first_next names rows i (omega arith)) ∙ length-append (first_bytes names rows i) (row_bytes names this) ∙ omega arith

  within : length (first_bytes names rows (suc i)) ≤ length o
  within = let k = r.held in let m = first_least names rows (suc i) n l in omega arith

  pub put_room : length o1 ≡ length o → Room names this at (length o1)
  put_room e = let g = grown in let w = within in record { shows = r.each i l; held = omega arith }

  -- where the next begins
  pub put_size : at + 24 + get_or this 6 0 ≡ length (first_bytes names rows (i + 1))
  put_size = let g = grown in let z = row_size (shows_sized (r.each i l)) in let k = ap (λ m. length (first_bytes names rows m)) (add-one i) in omega arith

  pub put_fit : at + 24 + get_or this 6 0 ≤ length o
  put_fit = let g = grown in let w = within in let z = row_size (shows_sized (r.each i l)) in omega arith

  pub put_length : {o2 : List ℕ} → length o1 ≡ length o → o2 ≡ over o1 at (row_bytes names this) → length o2 ≡ length o
  put_length e f = ap length f ∙ length_over o1 at (row_bytes names this) (put_room e).held ∙ e

  pub put_next : {o2 : List ℕ} → o2 ≡ over o1 at (row_bytes names this) → PutTo names rows (i + 1) (at + 24 + get_or this 6 0) o o2
  put_next {o2} e =
      let c = r.count in
      let b : List ℕ = first_bytes names rows i in
      let x : List ℕ = row_bytes names this in
      let f : first_bytes names rows (i + 1) ≡ b ++ x = ap (first_bytes names rows) (add-one i) ∙ first_next names rows i (omega arith) in
      let w = within in
      let k : length (first_bytes names rows (suc i)) ≡ length (b ++ x) = ap length (first_next names rows i (omega arith)) in
      let z : at ≡ 0 + length b = (let a = p.at_is in omega arith) in
      record {
        count = omega arith;
        at_is = put_size;
        is = e ∙ ap₂ (λ (y : List ℕ) m. over y m x) p.is z ∙ over_then o 0 b x (omega arith) ∙ ap (over o 0) (sym f);
      }

pub put_all : {names : List ℕ} {rows : List (List ℕ)} {n i at : ℕ} {o o' : List ℕ} → i ≡ n → PutTo names rows i at o o' → o' ≡ over o 0 (first_bytes names rows n)
put_all {names} {rows} {o = o} e p = p.is ∙ ap (λ m. over o 0 (first_bytes names rows m)) e

nothing_held : {names : List ℕ} {room : ℕ} {rows : List (List ℕ)} {n : ℕ} {bs : List ℕ} → holds 0 [] ≡ holds n bs → Holds names room rows n bs
nothing_held {names} {room} {rows} {n} {bs} e =
    let f : 0 ≡ n = cc e in
    let g : [] ≡ bs = cc e in
    let z = ap length g in
    record {
      count = omega arith;
      each = λ i l. absurd (omega arith);
      bytes = sym g ∙ sym (first_none names rows) ∙ ap (first_bytes names rows) f;
      held = omega arith;
    }

more_held : (names row : List ℕ) (rows : List (List ℕ)) (room : ℕ) {is : List Item} {r : List ℕ} → shown names row ≡ ok is r → length (items_bytes is) ≤ room → (x : Pack)
    → ((n : ℕ) (bs : List ℕ) → x ≡ holds n bs → Holds names (room - length (items_bytes is)) rows n bs) → {n : ℕ} {bs : List ℕ} → more (items_bytes is) x ≡ holds n bs → Holds names room (row ∷ rows) n bs
unfolding first_bytes
more_held names row rows room {is} {r} s l (refuses k at) ih e = absurd (let z : ◌≡◌ {A = ℕ} 0 1 = cc e in omega arith)
more_held names row rows room {is} {r} s l (holds m cs) ih {n} {bs} e =
    let f : suc m ≡ n = cc e in
    let g : items_bytes is ++ cs ≡ bs = cc e in
    let h = ih m cs refl in
    let a = length-append (items_bytes is) cs in
    let d : row_bytes names row ≡ items_bytes is = ap bytes_of s in
    let c = h.count in
    let k = h.held in
    rw (← f, ← g) (record {
      count = omega arith;
      each = go h.each;
      bytes = ap₂ (λ (y z : List ℕ). y ++ z) (sym d) h.bytes;
      held = omega arith;
    })
  where
    go : ((i : ℕ) → i < m → Shows names (get_or rows i [])) → (i : ℕ) → i < suc m → Shows names (get_or (row ∷ rows) i [])
    go t zero w = record { items = is; rest = r; is = s }
    go t (suc i) w = t i (omega arith)

pub held_in : (names : List ℕ) (room : ℕ) (rows : List (List ℕ)) {n : ℕ} {bs : List ℕ} → pack_from names room rows ≡ holds n bs → Holds names room rows n bs
held_in names room [] e = nothing_held (sym (pack_none names room) ∙ e)
held_in names room (row ∷ rows) {n} {bs} e = go (shown names row) refl (λ left m cs f. held_in names left rows f)
  where
    go : (m : Reading (List Item)) → shown names row ≡ m → ((left : ℕ) (k : ℕ) (cs : List ℕ) → pack_from names left rows ≡ holds k cs → Holds names left rows k cs) → Holds names room (row ∷ rows) n bs
    go (bad k at) s ih = absurd (let d = sym (pack_bad names rows row room s) ∙ e in let z : ◌≡◌ {A = ℕ} 0 1 = cc d in omega arith)
    go (ok is r) s ih =
        or_else (length (items_bytes is)) room
        (λ l. more_held names row rows room s l (pack_from names (room - length (items_bytes is)) rows) (λ k cs f. ih (room - length (items_bytes is)) k cs f) (sym (pack_fits names rows row room s l) ∙ e))
        (λ l. nothing_held (sym (pack_full names rows row room s l) ∙ e))

-- ---- what the packer answers

holding_one : {n b n' b' : ℕ} → Holding n b ≡ Holding n' b' → n ≡ n'
holding_one {n} {b} {n'} {b'} e =
    let f : ◌≡◌ {A = Packed} (record { entries = n; bytes = b }) (record { entries = n'; bytes = b' }) = cc e in ap (λ (x : Packed). x.entries) f

told_packed : (x : Pack) {n b : ℕ} {X : Type 0} → Holding n b ≡ told x → ((bs : List ℕ) → x ≡ holds n bs → X) → X
told_packed (holds m bs) {n} {b} e f = f bs (ap (λ k. holds k bs) (sym (holding_one e)))
told_packed (refuses k at) e f = absurd (let z : ◌≡◌ {A = ℕ} 0 1 = cc e in omega arith)

-- for any room that the output has, whatever the count
pub ready_within : {room : ℕ} {names : List ℕ} {rows : List (List ℕ)} (o : List ℕ) {r : Packing} → room ≤ length o → Fitting names room rows r → {x : Packed} → r ≡ Ok x → Ready names rows x.entries (length o)
ready_within {room} {names} {rows} o l f {x} g =
    told_packed (pack_from names room rows) {n = x.entries} {b = x.bytes} (sym g ∙ f.is)
    (λ bs h. let k = held_in names room rows h in let y = k.held in let z = ap length k.bytes in record { count = k.count; each = k.each; held = omega arith })

module _ (count : ℕ) {room : ℕ} {names : List ℕ} {rows : List (List ℕ)} (o : List ℕ) {r : Packing} (e : room ≡ min count (length o)) (f : Fitting names room rows r) where
  answered : r ≡ told (pack_in count (length o) names rows)
  answered = f.is ∙ ap (λ n. told (pack_from names n rows)) e

  pub pack_ready : {x : Packed} → r ≡ Ok x → Ready names rows x.entries (length o)
  pack_ready g = ready_within o (omega arith) f g

  pub pack_put : {x : Packed} {o' : List ℕ} → r ≡ Ok x → o' ≡ over o 0 (first_bytes names rows x.entries) → PackedInto count names rows o o' (Ok x)
  pack_put {x} {o'} g h =
      told_packed (pack_from names room rows) {n = x.entries} {b = x.bytes} (sym g ∙ f.is)
      (λ bs y.
      let k = held_in names room rows y in
      let w : pack_in count (length o) names rows ≡ holds x.entries bs = ap (λ m. pack_from names m rows) (sym e) ∙ y in
      record { answer = sym g ∙ answered; left = h ∙ ap (over o 0) (sym k.bytes) ∙ ap (laid_in o) (sym w) })

  pub pack_refused : {x : Fault} → r ≡ Err x → PackedInto count names rows o o r
  pack_refused {x} g = record { answer = answered; left = go (pack_in count (length o) names rows) (sym g ∙ answered) }
    where
      go : (y : Pack) → Err x ≡ told y → o ≡ laid_in o y
      go (holds n bs) d = absurd (let z : ◌≡◌ {A = ℕ} 0 1 = cc d in omega arith)
      go (refuses j i) d = refl
