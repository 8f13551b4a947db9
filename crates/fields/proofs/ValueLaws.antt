-- A value placed where its item stands shows that item.
use Rattle.std.specs.Prelude.{ℕ, ◌+◌, ◌*◌, ◌≡◌, refl, List, [], ◌∷◌, ◌++◌, map, length}
use Rattle.std.proofs.Common.{arith, ap, ◌∙◌, append_assoc, append-nil, length-append, drop_at, le-leb, eq-eqb}
use Rattle.std.proofs.Math.Seq.{take-append_seam}
use Rattle.numbers.specs.Numbers.{to_le}
use Rattle.numbers.proofs.Numbers.{length_to_le}
use Rattle.numbers.specs.Reading.{ok}
use Rattle.strings.specs.Strings.{string_bytes, GoodText}
use Rattle.strings.specs.Spans.{show_span, show_string}
use Rattle.fields.specs.Layouts.{Cell, amount, words, shape, Item, number, string, bytes, strings, qids, box, kind, many_bytes, cell_bytes, cells_bytes, item_bytes, items_bytes, GoodCell, GoodCells, Good, Goods}
use Rattle.fields.proofs.LayoutLaws.{reads_many}
use Rattle.fields.specs.Values.{place_cell, place_cells, place, places, show_cell, show_cells, show, shows}

-- bytes that stand after a and in front of c
shown_at : (a b c : List ℕ) (p : ℕ) → length a ≡ p → show_span (a ++ (b ++ c)) p (length b) ≡ ok b []
unfolding show_span
shown_at a b c p h =
    rw (le-leb (p + length b) (length (a ++ (b ++ c))) (simp length-append (omega arith)), drop_at a (b ++ c) p h, take-append_seam)

-- the same after a count of w bytes
shown_counted : (w n : ℕ) (a b c : List ℕ) (p : ℕ) → length a ≡ p → show_span (a ++ (to_le w n ++ b ++ c)) (p + w) (length b) ≡ ok b []
shown_counted w n a b c p h =
    ap (λ l. show_span l (p + w) (length b)) (simp append_assoc) ∙ shown_at (a ++ to_le w n) b c (p + w) (simp (length-append, length_to_le) (omega arith))

string_shown : (bs a c : List ℕ) (p : ℕ) → GoodText bs → length a ≡ p → show_string (a ++ (string_bytes bs ++ c)) (p + 2) (length bs) ≡ ok bs []
unfolding show_string string_bytes
string_shown bs a c p g h =
    rw (shown_counted 2 (length bs) a bs c p h, le-leb (length bs) 65535 (let q = g.short in omega arith), g.form, g.full)

cell_shown : (i : Cell) (a c : List ℕ) (p : ℕ) → GoodCell i → length a ≡ p → show_cell (shape i) (a ++ (cell_bytes i ++ c)) (place_cell p i) ≡ ok i []
unfolding show_cell cell_bytes
cell_shown (amount w n) a c p g h = refl
cell_shown (words bs) a c p g h = rw (string_shown bs a c p g h)

cells_shown : (is : List Cell) (a c : List ℕ) (p : ℕ) → GoodCells is → length a ≡ p → show_cells (map shape is) (a ++ (cells_bytes is ++ c)) (place_cells p is) ≡ ok is []
unfolding show_cells place_cells cells_bytes
cells_shown [] a c p g h = refl
cells_shown (i ∷ is) a c p (g, gs) h =
    rw (append_assoc (cell_bytes i) (cells_bytes is) c, cell_shown i a (cells_bytes is ++ c) p g h)
    (rw (← (append_assoc a (cell_bytes i) (cells_bytes is ++ c)))
    (rw (cells_shown is (a ++ cell_bytes i) c (p + length (cell_bytes i)) gs (simp length-append (omega arith)))))

pub item_shown : (i : Item) (a c : List ℕ) (p : ℕ) → Good i → length a ≡ p → show (kind i) (a ++ (item_bytes i ++ c)) (place p i) ≡ ok i []
unfolding show item_bytes
item_shown (number w n) a c p g h = refl
item_shown (string bs) a c p g h = rw (string_shown bs a c p g h)
item_shown (bytes bs) a c p g h = rw (shown_counted 4 (length bs) a bs c p h)
item_shown (strings l) a c p g h =
    rw (le-leb (length l) 16 g.0, shown_counted 2 (length l) a (many_bytes l) c p h, ← (append-nil (many_bytes l)), (reads_many (p + 2) l g.1).back [])
item_shown (qids n bs) a c p g h = rw (le-leb n 16 g.0, shown_counted 2 n a bs c p h, eq-eqb (length bs) (13 * n) g.1)
item_shown (box cs) a c p g h =
    let n : ℕ = length (cells_bytes cs) in
    let hd : List ℕ = a ++ (to_le 2 (2 + n) ++ to_le 2 n) in
    let e : a ++ (to_le 2 (2 + n) ++ (to_le 2 n ++ cells_bytes cs) ++ c) ≡ hd ++ (cells_bytes cs ++ c) = simp append_assoc in
    rw (e, cells_shown cs hd c (p + 4) g.1 (simp (length-append, length_to_le) (omega arith)), le-leb (2 + n) 65535 (let q = g.0 in omega arith))

pub shows_items : (is : List Item) (a c : List ℕ) (p : ℕ) → Goods is → length a ≡ p
    → shows (map kind is) (a ++ (items_bytes is ++ c)) (places p is) ≡ ok is []
unfolding shows places items_bytes
shows_items [] a c p g h = refl
shows_items (i ∷ is) a c p (g, gs) h =
    rw (append_assoc (item_bytes i) (items_bytes is) c, item_shown i a (items_bytes is ++ c) p g h)
    (rw (← (append_assoc a (item_bytes i) (items_bytes is ++ c)))
    (rw (shows_items is (a ++ item_bytes i) c (p + length (item_bytes i)) gs (simp length-append (omega arith)))))
