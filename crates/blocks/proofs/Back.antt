-- What holds of the definitions in specs/Back.antt.
use Rattle.std.specs.Prelude.{ℕ, zero, suc, ◌+◌, ◌-◌, ◌^◌, ◌≤◌, ◌<◌, min, ◌≡◌, refl, List, [], ◌∷◌, ◌++◌, map, length, take, drop, get_or}
use Rattle.std.proofs.Common.{arith, sym, ap, ap₂, ◌∙◌, append_assoc, append-nil, length-append, take_at, drop_at}
use Rattle.std.proofs.Math.Seq.{drop-append_seam}
use Rattle.numbers.specs.Numbers.{Bytes}
use Rattle.numbers.specs.Reading.{Reading}
use Rattle.fields.specs.Layouts.{Item, items_bytes}
use Rattle.fields.proofs.LayoutLaws.{reads_fields}
use Rattle.fields.specs.Values.{Value, places, shows}
use Rattle.fields.proofs.ValueLaws.{shows_items}
use Rattle.layouts.specs.Tables.{layout_dirent}
use Rattle.framing.specs.ReadBack.{Readable}
use Rattle.framing.proofs.ReadBack.{shows_good}
use Rattle.flat.specs.Flat.{field_values}
use Rattle.blocks.specs.Blocks.{end, Listing, line, list_from, listing, shown, Pack, holds, refuses, more, pack_from, pack_in, laid_in}
use Rattle.blocks.specs.Views.{bytes_of, row_bytes, Shows}
use Rattle.blocks.specs.ListingLaws.{Front}
use Rattle.blocks.proofs.ListingLaws.{list_end, list_next}
use Rattle.blocks.specs.PackLaws.{Sized, first_bytes}
use Rattle.blocks.proofs.PackLaws.{shows_sized, pack_fits, held_in}
use Rattle.blocks.specs.Back.{records_in, Words, Again, Gives}

readable : (row : List ℕ) → ((j : ℕ) → get_or row j 0 < 256 ^ 8) → Readable layout_dirent (field_values layout_dirent row)
readable row w = (omega arith, (omega arith, (w 2, (w 3, (omega arith, (tt, tt))))))

again : (names row : List ℕ) → Bytes names → ((j : ℕ) → get_or row j 0 < 256 ^ 8) → Sized names row → (a cs : List ℕ) → Again names row a cs
again names row b w s a cs =
    let is : List Item = s.items in
    let g = shows_good layout_dirent names (field_values layout_dirent row) b (readable row w) s.is in
    let e : row_bytes names row ≡ items_bytes is = ap bytes_of s.is in
    let p : ℕ = length a in
    let r = (reads_fields p is g.1).back cs in
    let f : Front p (items_bytes is ++ cs) is = record { left = cs; reads = rw g.0 at r; whole = refl; kinds = g.0 } in
    let n : p + length (items_bytes is) ≡ length (a ++ row_bytes names row) = sym (length-append a (row_bytes names row) ∙ ap (λ (z : List ℕ). p + length z) e) in
    record {
      items = is;
      made = s.is;
      listed = ap (λ (z : List ℕ). list_from p 0 (z ++ cs)) e ∙ list_next p (items_bytes is ++ cs) f
          ∙ ap₂ (λ m (z : List ℕ). line p (places p is) m (list_from m 0 z)) n (drop-append_seam (items_bytes is) cs);
      shows_it = ap (λ (z : List ℕ). shows layout_dirent (a ++ (z ++ cs)) (places p is)) e ∙ ap (λ l. shows l (a ++ (items_bytes is ++ cs)) (places p is)) (sym g.0) ∙ shows_items is a cs p g.1 refl;
    }

gives_more : {s : List ℕ} {l : Listing} {ms : List (Reading (List Item))} {vs : List Value} {m : Reading (List Item)} (at next : ℕ) → shows layout_dirent s vs ≡ m → Gives s l ms → Gives s (line at vs next l) (m ∷ ms)
unfolding records_in
gives_more at next e g = record { records = ap₂ (λ x (y : List (Reading (List Item))). x ∷ y) e g.records; last = g.last }

gives_none : (a : List ℕ) → Gives (a ++ []) (list_from (length a) 0 []) []
unfolding records_in
gives_none a = rw (list_end (length a) 0) (record { records = refl; last = ap (λ (z : List ℕ). end (length z)) (sym (append-nil a)) })

first_back : (names : List ℕ) → Bytes names → (rows : List (List ℕ)) → Words rows → (n : ℕ) → n ≤ length rows → ((i : ℕ) → i < n → Shows names (get_or rows i [])) → (a : List ℕ)
    → Gives (a ++ first_bytes names rows n) (list_from (length a) 0 (first_bytes names rows n)) (map (shown names) (take n rows))
unfolding first_bytes
first_back names b rows w zero h s a = gives_none a
first_back names b [] w (suc n) h s a = absurd (omega arith)
first_back names b (row ∷ rows) w (suc n) h s a =
    let cs : List ℕ = first_bytes names rows n in
    let A = again names row b (λ j. w.each 0 j) (shows_sized (s 0 (omega arith))) a cs in
    let G = first_back names b rows (record { each = λ i j. w.each (suc i) j }) n (omega arith) (λ i l. s (suc i) (omega arith)) (a ++ row_bytes names row) in
    rw A.listed (gives_more (length a) (length (a ++ row_bytes names row)) (A.shows_it ∙ sym A.made) (rw (append_assoc a (row_bytes names row) cs) at G))

-- packed, then listed, gives the packed entries back (F11.8)
pub packed_listed : (count len : ℕ) (names : List ℕ) (rows : List (List ℕ)) {n : ℕ} {bs : List ℕ} → Bytes names → Words rows → pack_in count len names rows ≡ holds n bs → Gives bs (listing bs) (map (shown names) (take n rows))
unfolding listing
packed_listed count len names rows {n} b w e =
    let h = held_in names (min count len) rows e in
    rw h.bytes (first_back names b rows w n h.count h.each [])

-- ---- never past the count, nor past the output; and the bytes after are as they were

pub packed_within : (count len : ℕ) (names : List ℕ) (rows : List (List ℕ)) {n : ℕ} {bs : List ℕ} → pack_in count len names rows ≡ holds n bs → (length bs ≤ count) × (length bs ≤ len)
packed_within count len names rows e = let h = (held_in names (min count len) rows e).held in (omega arith, omega arith)

pub packed_front : (o bs : List ℕ) (n : ℕ) → (take (length bs) (laid_in o (holds n bs)) ≡ bs) × (drop (length bs) (laid_in o (holds n bs)) ≡ drop (length bs) o)
packed_front o bs n = let z : 0 + length bs ≡ length bs = omega arith in rw z (take_at bs (drop (length bs) o) (length bs) refl, drop_at bs (drop (length bs) o) (length bs) refl)

-- ---- the greatest number

more_inv : (bs : List ℕ) (x : Pack) {n : ℕ} {cs : List ℕ} {X : Type 0} → more bs x ≡ holds n cs → ((m : ℕ) (ds : List ℕ) → x ≡ holds m ds → n ≡ suc m → X) → X
more_inv bs (holds m ds) {n} e f = f m ds refl (let z : suc m ≡ n = cc e in sym z)
more_inv bs (refuses k at) e f = absurd (let z : ◌≡◌ {A = ℕ} 0 1 = cc e in omega arith)

most : (names : List ℕ) (rows : List (List ℕ)) (room : ℕ) {n : ℕ} {bs : List ℕ} → pack_from names room rows ≡ holds n bs → (m : ℕ) → m ≤ length rows → ((i : ℕ) → i < m → Shows names (get_or rows i []))
    → length (first_bytes names rows m) ≤ room → m ≤ n
unfolding first_bytes
most names rows room e zero h s l = omega arith
most names [] room e (suc m) h s l = absurd (omega arith)
most names (row ∷ rows) room {n} e (suc m) h s l =
    let z = shows_sized (s 0 (omega arith)) in
    let b : List ℕ = items_bytes z.items in
    let d : row_bytes names row ≡ b = ap bytes_of z.is in
    let a = length-append (row_bytes names row) (first_bytes names rows m) in
    let k = ap length d in
    more_inv b (pack_from names (room - length b) rows) (sym (pack_fits names rows row room z.is (omega arith)) ∙ e)
    (λ j ds f g. let i = most names rows (room - length b) f m (omega arith) (λ i t. s (suc i) (omega arith)) (omega arith) in omega arith)

-- any number of entries from the front that show and fit is at most the answer (F11.4)
pub greatest : (count len : ℕ) (names : List ℕ) (rows : List (List ℕ)) {n : ℕ} {bs : List ℕ} → pack_in count len names rows ≡ holds n bs → (m : ℕ) → m ≤ length rows
    → ((i : ℕ) → i < m → Shows names (get_or rows i [])) → length (first_bytes names rows m) ≤ count → length (first_bytes names rows m) ≤ len → m ≤ n
greatest count len names rows e m h s k l = most names rows (min count len) e m h s (omega arith)
