-- What holds of the definitions in specs/LayoutLaws.antt.
use Rattle.std.specs.Prelude.{ℕ, zero, suc, ◌+◌, ◌-◌, ◌*◌, ◌≤◌, ◌<◌, ◌≡◌, refl, Bool, true, false, cond, List, [], ◌∷◌, ◌++◌, map, length, take, drop, leb, eqb}
use Rattle.std.proofs.Common.{arith, sym, ap, ap₂, ◌∙◌, append-nil, append_assoc, length-append, length-drop, take-append-drop, take_at, drop_at, length-take-le, le-leb, leb-true, eq-eqb, eqb-true}
use Rattle.numbers.specs.Numbers.{Bytes, to_le, from_le}
use Rattle.numbers.proofs.Numbers.{length_to_le, from_to, to_from, bytes_take, bytes_drop}
use Rattle.numbers.specs.Reading.{Reading, ok, bad, after, raw, read_num}
use Rattle.numbers.specs.ReadingLaws.{Reads, Took}
use Rattle.numbers.proofs.ReadingLaws.{after_inv, cond_inv, reads_raw, reads_nil, reads_map, reads_then, reads_after, reads_cond, reads_num, took_then, took_map, took_raw, took_num}
use Rattle.numbers.specs.declared.Refusal.TheVariants as R
use Rattle.strings.specs.Strings.{read_string, string_bytes}
use Rattle.strings.proofs.StringLaws.{reads_string, took_string}
use Rattle.fields.specs.Layouts.{Shape, fixed, worded, Field, num, str, dat, strs, quids, boxed, Layout, Cell, amount, words, shape, Item, number, string, bytes, strings, qids, box, kind, most, counted, read_many, read_cell, read_cells, follow, at_end, agrees, read_field, read_fields, many_bytes, cell_bytes, cells_bytes, item_bytes, items_bytes, AllGood, GoodCell, GoodCells, Good, Goods}
use Rattle.fields.specs.LayoutLaws.{Agreed}

-- ---- read after write, and a cut

pub reads_many : (a : ℕ) (l : List (List ℕ)) → AllGood l → Reads (read_many (length l) a) (many_bytes l) l
unfolding read_many many_bytes
reads_many a [] g = reads_nil _ _ (λ r. refl)
reads_many a (b ∷ bs) (g, gs) =
    reads_after _ (reads_string a b g) (reads_map (λ r. b ∷ r) (reads_many (a + length (string_bytes b)) bs gs))

-- the elements after a count that passes
reads_few : {A : Type 0} {d : List ℕ → Reading A} {x : List ℕ} {a : A} (n : ℕ) → n ≤ 16 → Reads d x a → Reads (λ r. counted n (d r)) x a
reads_few n h e = reads_cond (bad R.TooManyElements 0) (le-leb n 16 h) e

-- the fields of a box
pub reads_cell : (a : ℕ) (c : Cell) → GoodCell c → Reads (read_cell (shape c) a) (cell_bytes c) c
unfolding read_cell cell_bytes
reads_cell a (amount w n) g = reads_map (amount w) (reads_num w n g)
reads_cell a (words bs) g = reads_map words (reads_string a bs g)

pub reads_cells : (a : ℕ) (cs : List Cell) → GoodCells cs → Reads (read_cells (map shape cs) a) (cells_bytes cs) cs
unfolding read_cells cells_bytes
reads_cells a [] g = reads_nil _ _ (λ r. refl)
reads_cells a (c ∷ cs) (g, gs) =
    reads_after _ (reads_cell a c g) (reads_map (λ r. c ∷ r) (reads_cells (a + length (cell_bytes c)) cs gs))

-- they end where they were written to
pub follows : (cs : List Cell) → GoodCells cs → Reads (follow (map shape cs)) (cells_bytes cs) 0
unfolding follow cells_bytes cell_bytes string_bytes
follows [] g = reads_nil _ _ (λ r. refl)
follows (amount w n ∷ cs) (g, gs) = reads_after _ (reads_num w n g) (follows cs gs)
follows (words bs ∷ cs) (g, gs) =
    rw (append_assoc (to_le 2 (length bs)) bs (cells_bytes cs)) (reads_after _ (reads_num 2 (length bs) g.short) (reads_after _ (reads_raw (length bs) bs refl) (follows cs gs)))

-- so their count, their size and they agree
agree : (cs : List Cell) → Good (box cs) → agrees (map shape cs) (to_le 2 (length (cells_bytes cs)) ++ cells_bytes cs) ≡ true
unfolding agrees
agree cs (h, g) =
    let n : ℕ = length (cells_bytes cs) in
    let l : length (to_le 2 n ++ cells_bytes cs) ≡ 2 + n = simp (length-append, length_to_le) in
    rw (
      le-leb 2 (length (to_le 2 n ++ cells_bytes cs)) (omega arith),
      take_at (to_le 2 n) (cells_bytes cs) 2 (length_to_le 2 n),
      from_to 2 n (omega arith),
      eq-eqb n (length (to_le 2 n ++ cells_bytes cs) - 2) (omega arith),
      drop_at (to_le 2 n) (cells_bytes cs) 2 (length_to_le 2 n),
    )
    (ap at_end (ap (follow (map shape cs)) (sym (append-nil (cells_bytes cs))) ∙ (follows cs g).back []))

box_back : (a : ℕ) (cs : List Cell) (r : List ℕ) → Good (box cs)
    → cond (agrees (map shape cs) (to_le 2 (length (cells_bytes cs)) ++ cells_bytes cs))
    (after (read_cells (map shape cs) (a + 4) (drop 2 (to_le 2 (length (cells_bytes cs)) ++ cells_bytes cs))) (λ ds u. ok (box ds) r)) (bad R.StatMalformed 0)
    ≡ ok (box cs) r
box_back a cs r g =
    rw (agree cs g, drop_at (to_le 2 (length (cells_bytes cs))) (cells_bytes cs) 2 (length_to_le 2 (length (cells_bytes cs))))
    (ap (λ m. after m (λ ds u. ok (box ds) r)) (ap (read_cells (map shape cs) (a + 4)) (sym (append-nil (cells_bytes cs))) ∙ (reads_cells (a + 4) cs g.1).back []))

pub reads_field : (a : ℕ) (i : Item) → Good i → Reads (read_field (kind i) a) (item_bytes i) i
unfolding read_field item_bytes
reads_field a (number w n) g = reads_map (number w) (reads_num w n g)
reads_field a (string bs) g = reads_map string (reads_string a bs g)
reads_field a (bytes bs) g =
    reads_after _ (reads_num 4 (length bs) (omega arith))
    (reads_cond (bad R.DataTooLong 0) (le-leb (length bs) most (omega arith)) (reads_map bytes (reads_raw (length bs) bs refl)))
reads_field a (strings l) g = reads_after _ (reads_num 2 (length l) (let h = g.0 in omega arith)) (reads_few (length l) g.0 (reads_map strings (reads_many (a + 2) l g.1)))
reads_field a (qids n bs) g = reads_after _ (reads_num 2 n (let h = g.0 in omega arith)) (reads_few n g.0 (reads_map (qids n) (reads_raw (13 * n) bs g.1)))
reads_field a (box cs) g =
    reads_after _ (reads_num 2 (2 + length (cells_bytes cs)) g.0)
    (reads_then _ (λ r. box_back a cs r g) (reads_raw (2 + length (cells_bytes cs)) (to_le 2 (length (cells_bytes cs)) ++ cells_bytes cs) (simp (length-append, length_to_le))))

pub reads_fields : (a : ℕ) (is : List Item) → Goods is → Reads (read_fields (map kind is) a) (items_bytes is) is
unfolding read_fields items_bytes
reads_fields a [] g = reads_nil _ _ (λ r. refl)
reads_fields a (i ∷ is) (g, gs) =
    reads_after _ (reads_field a i g) (reads_map (λ r. i ∷ r) (reads_fields (a + length (item_bytes i)) is gs))

-- ---- write after read

pub took_many : (n a : ℕ) (xs : List ℕ) {l : List (List ℕ)} {r : List ℕ} → Bytes xs → read_many n a xs ≡ ok l r → Took xs (many_bytes l) r ((length l ≡ n) × AllGood l)
unfolding read_many many_bytes
took_many zero a xs {l} {r} h e =
    let en : [] ≡ l = cc in
    let er : xs ≡ r = cc in
    rw (← en, ← er) (record { whole = refl; rest = h; good = (refl, tt) })
took_many (suc n) a xs {l} {r} h e =
    after_inv (read_string a xs) _ e
    (λ b s e1 e2. after_inv (read_many n (a + length (string_bytes b)) s) _ e2
    (λ bs t e3 e4.
    let p = took_string a xs h e1 in
    let q = took_many n (a + length (string_bytes b)) s p.rest e3 in
    let en : b ∷ bs ≡ l = cc in
    let er : t ≡ r = cc in
    rw (← en, ← er) (took_then p q (λ y b. (ap suc b.0, (y, b.1))))))

pub took_cell : (f : Shape) (a : ℕ) (xs : List ℕ) {c : Cell} {r : List ℕ} → Bytes xs → read_cell f a xs ≡ ok c r → Took xs (cell_bytes c) r ((shape c ≡ f) × GoodCell c)
unfolding read_cell cell_bytes
took_cell (fixed w) a xs {c} {r} h e =
    after_inv (read_num w xs) _ e
    (λ n s e1 e2.
    let ei : amount w n ≡ c = cc in
    let er : s ≡ r = cc in
    rw (← ei, ← er) (took_map (took_num w xs h e1) (λ g. (refl, g))))
took_cell worded a xs {c} {r} h e =
    after_inv (read_string a xs) _ e
    (λ bs s e1 e2.
    let ei : words bs ≡ c = cc in
    let er : s ≡ r = cc in
    rw (← ei, ← er) (took_map (took_string a xs h e1) (λ g. (refl, g))))

pub took_cells : (fs : List Shape) (a : ℕ) (xs : List ℕ) {cs : List Cell} {r : List ℕ} → Bytes xs → read_cells fs a xs ≡ ok cs r
    → Took xs (cells_bytes cs) r ((map shape cs ≡ fs) × GoodCells cs)
unfolding read_cells cells_bytes
took_cells [] a xs {cs} {r} h e =
    let en : [] ≡ cs = cc in
    let er : xs ≡ r = cc in
    rw (← en, ← er) (record { whole = refl; rest = h; good = (refl, tt) })
took_cells (f ∷ fs) a xs {cs} {r} h e =
    after_inv (read_cell f a xs) _ e
    (λ c s e1 e2. after_inv (read_cells fs (a + length (cell_bytes c)) s) _ e2
    (λ ds t e3 e4.
    let en : c ∷ ds ≡ cs = cc in
    let er : t ≡ r = cc in
    let p = took_cell f a xs h e1 in
    let q = took_cells fs (a + length (cell_bytes c)) s p.rest e3 in
    rw (← en, ← er) (took_then p q (λ x y. (ap₂ (λ u v. u ∷ v) x.0 y.0, (x.1, y.1))))))

pub both : (b c : Bool) → cond b c false ≡ true → (b ≡ true) × (c ≡ true)
both true c e = (refl, e)
both false c e = absurd (let z : ◌≡◌ {A = ℕ} 0 1 = cc e in omega arith)

at_end_lem : (n : ℕ) (r : List ℕ) → at_end (ok n r) ≡ true → r ≡ []
at_end_lem n [] e = refl
at_end_lem n (x ∷ r) e = absurd (let z : ◌≡◌ {A = ℕ} 0 1 = cc e in omega arith)

pub agreed : (fs : List Shape) (bs : List ℕ) → agrees fs bs ≡ true → Agreed fs bs
unfolding agrees
agreed fs bs e =
    let u = both (leb 2 (length bs)) _ e in
    let v = both (eqb (from_le (take 2 bs)) (length bs - 2)) _ u.1 in
    record { two = leb-true 2 (length bs) u.0; size = eqb-true (from_le (take 2 bs)) (length bs - 2) v.0; ends = v.1 }

-- nothing is left after the fields of a box that agrees
pub whole_box : (fs : List Shape) (bs : List ℕ) (cs : List Cell) {v : List ℕ} → Agreed fs bs → Took (drop 2 bs) (cells_bytes cs) v ((map shape cs ≡ fs) × GoodCells cs) → v ≡ []
whole_box fs bs cs {v} A p = at_end_lem 0 v (sym (ap at_end (ap₂ follow (sym p.good.0) p.whole ∙ (follows cs p.good.1).back v)) ∙ A.ends)

took_box : (fs : List Shape) (bs : List ℕ) (cs : List Cell) {v : List ℕ} → Bytes bs → length bs < 65536 → Agreed fs bs
    → Took (drop 2 bs) (cells_bytes cs) v ((map shape cs ≡ fs) × GoodCells cs) → (to_le 2 (length bs) ++ bs ≡ item_bytes (box cs)) × Good (box cs)
unfolding item_bytes
took_box fs bs cs {v} h small A p =
    let two = A.two in
    let z : v ≡ [] = whole_box fs bs cs A p in
    let d : drop 2 bs ≡ cells_bytes cs = p.whole ∙ ap (λ (x : List ℕ). cells_bytes cs ++ x) z ∙ append-nil (cells_bytes cs) in
    let l : length (cells_bytes cs) ≡ length bs - 2 = ap length (sym d) ∙ length-drop 2 bs in
    let t : length (take 2 bs) ≡ 2 = length-take-le 2 bs two in
    let hd : to_le 2 (length (cells_bytes cs)) ≡ take 2 bs = ap (to_le 2) (l ∙ sym A.size) ∙ ap (λ w. to_le w (from_le (take 2 bs))) (sym t) ∙ to_from (take 2 bs) (bytes_take 2 bs h) in
    (ap₂ {C = List ℕ} (λ x y. to_le 2 x ++ y) (omega arith) (sym (take-append-drop 2 bs) ∙ ap₂ {C = List ℕ} (λ x y. x ++ y) (sym hd) d), (omega arith, p.good.1))

pub took_field : (f : Field) (a : ℕ) (xs : List ℕ) {i : Item} {r : List ℕ} → Bytes xs → read_field f a xs ≡ ok i r → Took xs (item_bytes i) r ((kind i ≡ f) × Good i)
unfolding read_field item_bytes
took_field (num w) a xs {i} {r} h e =
    after_inv (read_num w xs) _ e
    (λ n s e1 e2.
    let ei : number w n ≡ i = cc in
    let er : s ≡ r = cc in
    rw (← ei, ← er) (took_map (took_num w xs h e1) (λ g. (refl, g))))
took_field str a xs {i} {r} h e =
    after_inv (read_string a xs) _ e
    (λ bs s e1 e2.
    let ei : string bs ≡ i = cc in
    let er : s ≡ r = cc in
    rw (← ei, ← er) (took_map (took_string a xs h e1) (λ g. (refl, g))))
took_field dat a xs {i} {r} h e =
    after_inv (read_num 4 xs) _ e
    (λ n s e1 e2.
    let u = cond_inv (leb n most) _ R.DataTooLong 0 e2 in
    after_inv (raw n s) _ u.1
    (λ bs t e3 e4.
    let ei : bytes bs ≡ i = cc in
    let er : t ≡ r = cc in
    let p = took_num 4 xs h e1 in
    let q = took_raw n s p.rest e3 in
    let small = leb-true n most u.0 in
    rw (← ei, ← er, q.good.0) (took_then p q (λ y b. (refl, (let k = b.0 in omega arith))))))
took_field strs a xs {i} {r} h e =
    after_inv (read_num 2 xs) _ e
    (λ n s e1 e2.
    let u = cond_inv (leb n 16) _ R.TooManyElements 0 e2 in
    after_inv (read_many n (a + 2) s) _ u.1
    (λ l t e3 e4.
    let ei : strings l ≡ i = cc in
    let er : t ≡ r = cc in
    let p = took_num 2 xs h e1 in
    let q = took_many n (a + 2) s p.rest e3 in
    let few = leb-true n 16 u.0 in
    rw (← ei, ← er, q.good.0) (took_then p q (λ y b. (refl, (few, b.1))))))
took_field quids a xs {i} {r} h e =
    after_inv (read_num 2 xs) _ e
    (λ n s e1 e2.
    let u = cond_inv (leb n 16) _ R.TooManyElements 0 e2 in
    after_inv (raw (13 * n) s) _ u.1
    (λ bs t e3 e4.
    let ei : qids n bs ≡ i = cc in
    let er : t ≡ r = cc in
    let p = took_num 2 xs h e1 in
    let q = took_raw (13 * n) s p.rest e3 in
    rw (← ei, ← er) (took_then p q (λ y b. (refl, (leb-true n 16 u.0, b.0))))))
took_field (boxed fs) a xs {i} {r} h e =
    after_inv (read_num 2 xs) _ e
    (λ n s e1 e2. after_inv (raw n s) _ e2
    (λ bs t e3 e4.
    let u = cond_inv (agrees fs bs) _ R.StatMalformed 0 e4 in
    after_inv (read_cells fs (a + 4) (drop 2 bs)) _ u.1
    (λ cs v e5 e6.
    let ei : box cs ≡ i = cc in
    let er : t ≡ r = cc in
    let p = took_num 2 xs h e1 in
    let q = took_raw n s p.rest e3 in
    let l = q.good.0 in
    let m = p.good in
    let c = took_cells fs (a + 4) (drop 2 bs) (bytes_drop 2 bs q.good.1) e5 in
    let b = took_box fs bs cs q.good.1 (omega arith) (agreed fs bs u.0) c in
    let w : to_le 2 n ++ bs ≡ item_bytes (box cs) = ap (λ k. to_le 2 k ++ bs) (sym l) ∙ b.0 in
    rw (← ei, ← er, ← w) (took_then p q (λ x y. (ap boxed c.good.0, b.1))))))

pub took_fields : (fs : Layout) (a : ℕ) (xs : List ℕ) {is : List Item} {r : List ℕ} → Bytes xs → read_fields fs a xs ≡ ok is r
    → Took xs (items_bytes is) r ((map kind is ≡ fs) × Goods is)
unfolding read_fields items_bytes
took_fields [] a xs {is} {r} h e =
    let en : [] ≡ is = cc in
    let er : xs ≡ r = cc in
    rw (← en, ← er) (record { whole = refl; rest = h; good = (refl, tt) })
took_fields (f ∷ fs) a xs {is} {r} h e =
    after_inv (read_field f a xs) _ e
    (λ i s e1 e2. after_inv (read_fields fs (a + length (item_bytes i)) s) _ e2
    (λ js t e3 e4.
    let en : i ∷ js ≡ is = cc in
    let er : t ≡ r = cc in
    let p = took_field f a xs h e1 in
    let q = took_fields fs (a + length (item_bytes i)) s p.rest e3 in
    rw (← en, ← er) (took_then p q (λ c b. (ap₂ (λ x y. x ∷ y) c.0 b.0, (c.1, b.1))))))
