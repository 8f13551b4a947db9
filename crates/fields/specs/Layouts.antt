-- The format as data: fields, layouts, items; how a layout is read, and how items are written.
use Rattle.std.specs.Prelude.{ℕ, zero, suc, ◌+◌, ◌-◌, ◌*◌, ◌^◌, ◌≤◌, ◌<◌, ◌≡◌, Bool, true, false, cond, List, [], ◌∷◌, ◌++◌, map, length, take, drop, leb, eqb}
use Rattle.numbers.specs.Numbers.{to_le, from_le}
use Rattle.numbers.specs.Reading.{Reading, ok, bad, after, raw, read_num}
use Rattle.numbers.specs.declared.Refusal.TheVariants as R
use Rattle.strings.specs.Strings.{read_string, string_bytes, GoodText}

-- what stands in a box: a number of so many bytes, a string
pub data Shape : Type 0 where
  fixed : ℕ → Shape
  worded : Shape

-- F1: a number of so many bytes, a string, data, a vector of strings, a vector of qids; and a box of fields, which a stat is (F14.2)
pub data Field : Type 0 where
  num : ℕ → Field
  str : Field
  dat : Field
  strs : Field
  quids : Field
  boxed : List Shape → Field

abbrev pub Layout : Type 0
Layout = List Field

-- a qid is ty[1] version[4] path[8], 13 bytes (F1.6)
abbrev pub q : Layout
q = num 1 ∷ num 4 ∷ num 8 ∷ []

pub data Cell : Type 0 where
  amount : ℕ → ℕ → Cell
  words : List ℕ → Cell

abbrev pub shape : Cell → Shape
shape (amount w n) = fixed w
shape (words bs) = worded

-- a field's content: numbers, and the bytes shown
pub data Item : Type 0 where
  number : ℕ → ℕ → Item
  string : List ℕ → Item
  bytes : List ℕ → Item
  strings : List (List ℕ) → Item
  qids : ℕ → List ℕ → Item
  box : List Cell → Item

abbrev pub kind : Item → Field
kind (number w n) = num w
kind (string bs) = str
kind (bytes bs) = dat
kind (strings l) = strs
kind (qids n bs) = quids
kind (box cs) = boxed (map shape cs)

-- ---- writing

unfoldable pub many_bytes : List (List ℕ) → List ℕ
many_bytes [] = []
many_bytes (b ∷ bs) = string_bytes b ++ many_bytes bs

unfoldable pub cell_bytes : Cell → List ℕ
cell_bytes (amount w n) = to_le w n
cell_bytes (words bs) = string_bytes bs

unfoldable pub cells_bytes : List Cell → List ℕ
cells_bytes [] = []
cells_bytes (c ∷ cs) = cell_bytes c ++ cells_bytes cs

-- a box: a count of all after it, a size of all after that, the fields (F14.2)
unfoldable pub item_bytes : Item → List ℕ
item_bytes (number w n) = to_le w n
item_bytes (string bs) = string_bytes bs
item_bytes (bytes bs) = to_le 4 (length bs) ++ bs
item_bytes (strings l) = to_le 2 (length l) ++ many_bytes l
item_bytes (qids n bs) = to_le 2 n ++ bs
item_bytes (box cs) = to_le 2 (2 + length (cells_bytes cs)) ++ (to_le 2 (length (cells_bytes cs)) ++ cells_bytes cs)

unfoldable pub items_bytes : List Item → List ℕ
items_bytes [] = []
items_bytes (i ∷ is) = item_bytes i ++ items_bytes is

-- ---- reading, of bytes that begin at position a

-- a walk has at most sixteen elements (F1.9); the count is checked before any of them (F4.11, F4.12)
abbrev pub counted : {A : Type 0} → ℕ → Reading A → Reading A
counted n m = cond (leb n 16) m (bad R.TooManyElements 0)

abbrev pub ok_count : ℕ → Reading ℕ
ok_count n = counted n (ok n [])

-- how many bytes data may have that is read (F1.9)
abbrev pub most : ℕ
most = 33554432

-- so many strings, one after the other (F4.11)
unfoldable pub read_many : ℕ → ℕ → List ℕ → Reading (List (List ℕ))
read_many zero a xs = ok [] xs
read_many (suc n) a xs = after (read_string a xs) (λ b r. after (read_many n (a + length (string_bytes b)) r) (λ bs s. ok (b ∷ bs) s))

-- the fields of a box, one after the other
unfoldable pub read_cell : Shape → ℕ → List ℕ → Reading Cell
read_cell (fixed w) a xs = after (read_num w xs) (λ n r. ok (amount w n) r)
read_cell worded a xs = after (read_string a xs) (λ bs r. ok (words bs) r)

unfoldable pub read_cells : List Shape → ℕ → List ℕ → Reading (List Cell)
read_cells [] a xs = ok [] xs
read_cells (f ∷ fs) a xs = after (read_cell f a xs) (λ c r. after (read_cells fs (a + length (cell_bytes c)) r) (λ cs s. ok (c ∷ cs) s))

-- whether they end where the bytes do: the counts of the strings are followed, their text is not looked at (F14.3)
unfoldable pub follow : List Shape → List ℕ → Reading ℕ
follow [] xs = ok 0 xs
follow (fixed w ∷ fs) xs = after (read_num w xs) (λ n r. follow fs r)
follow (worded ∷ fs) xs = after (read_num 2 xs) (λ n r. after (raw n r) (λ bs s. follow fs s))

abbrev pub at_end : Reading ℕ → Bool
at_end (ok n []) = true
at_end (ok n (x ∷ r)) = false
at_end (bad k at) = false

-- whether n bytes, which are there, are a size and the fields that it counts
unfoldable pub agrees : List Shape → List ℕ → Bool
agrees fs bs = cond (leb 2 (length bs)) (cond (eqb (from_le (take 2 bs)) (length bs - 2)) (at_end (follow fs (drop 2 bs))) false) false

-- a field by its kind (F4.8 to F4.12, F14.3); data: count, limit, bytes; a vector: count, limit, elements
unfoldable pub read_field : Field → ℕ → List ℕ → Reading Item
read_field (num w) a xs = after (read_num w xs) (λ n r. ok (number w n) r)
read_field str a xs = after (read_string a xs) (λ bs r. ok (string bs) r)
read_field dat a xs = after (read_num 4 xs) (λ n r. cond (leb n most) (after (raw n r) (λ bs s. ok (bytes bs) s)) (bad R.DataTooLong 0))
read_field strs a xs = after (read_num 2 xs) (λ n r. counted n (after (read_many n (a + 2) r) (λ l s. ok (strings l) s)))
read_field quids a xs = after (read_num 2 xs) (λ n r. counted n (after (raw (13 * n) r) (λ bs s. ok (qids n bs) s)))
read_field (boxed fs) a xs =
    after (read_num 2 xs)
    (λ n r. after (raw n r) (λ bs s. cond (agrees fs bs) (after (read_cells fs (a + 4) (drop 2 bs)) (λ cs u. ok (box cs) s)) (bad R.StatMalformed 0)))

-- fields in order; the first that fails answers (F4.2)
unfoldable pub read_fields : Layout → ℕ → List ℕ → Reading (List Item)
read_fields [] a xs = ok [] xs
read_fields (f ∷ fs) a xs = after (read_field f a xs) (λ i r. after (read_fields fs (a + length (item_bytes i)) r) (λ is s. ok (i ∷ is) s))

-- ---- what can stand in a frame

abbrev pub AllGood : List (List ℕ) → Type 0
AllGood [] = Unit {0}
AllGood (b ∷ bs) = GoodText b × AllGood bs

abbrev pub GoodCell : Cell → Type 0
GoodCell (amount w n) = n < 256 ^ w
GoodCell (words bs) = GoodText bs

abbrev pub GoodCells : List Cell → Type 0
GoodCells [] = Unit {0}
GoodCells (c ∷ cs) = GoodCell c × GoodCells cs

abbrev pub Good : Item → Type 0
Good (number w n) = n < 256 ^ w
Good (string bs) = GoodText bs
Good (bytes bs) = length bs < suc most
Good (strings l) = (length l ≤ 16) × AllGood l
Good (qids n bs) = (n ≤ 16) × (length bs ≡ 13 * n)
Good (box cs) = (2 + length (cells_bytes cs) < 65536) × GoodCells cs

abbrev pub Goods : List Item → Type 0
Goods [] = Unit {0}
Goods (i ∷ is) = Good i × Goods is
