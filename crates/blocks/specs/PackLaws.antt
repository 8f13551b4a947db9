-- Packing by two passes, one that finds how many entries fit and one that puts them, is packing entry by entry.
use Rattle.std.specs.Prelude.{ℕ, zero, suc, ◌+◌, ◌-◌, ◌≤◌, ◌<◌, ◌≡◌, List, [], ◌∷◌, ◌++◌, length, drop, get_or, Ok, Err}
use Rattle.numbers.specs.Reading.{ok}
use Rattle.numbers.specs.Places.{over}
use Rattle.fields.specs.Layouts.{Item, items_bytes}
use Rattle.blocks.specs.Blocks.{shown, pack_from}
use Rattle.blocks.specs.Views.{Packing, Holding, told, row_bytes, Shows}

-- what is known of an entry whose name passes
pub record Sized (names row : List ℕ) : Type 0 where
  pub items : List Item
  pub is : shown names row ≡ ok items []
  pub size : length (items_bytes items) ≡ get_or row 6 0 + 24
  pub small : get_or row 6 0 ≤ 65535

-- ---- how many fit

abbrev pub plus : ℕ → ℕ → Packing → Packing
plus i u (Ok x) = Holding (i + x.entries) (u + x.bytes)
plus i u (Err f) = Err f

-- the entries before the i-th fit, and take u bytes: whoever goes on with the others has gone through them all
pub record FitTo (names : List ℕ) (room : ℕ) (rows : List (List ℕ)) (i u : ℕ) : Type 0 where
  pub on : told (pack_from names room rows) ≡ plus i u (told (pack_from names (room - u) (drop i rows)))
  pub held : u ≤ room
  pub count : i ≤ length rows

-- ---- the bytes of the first entries

unfoldable pub first_bytes : List ℕ → List (List ℕ) → ℕ → List ℕ
first_bytes names rows zero = []
first_bytes names [] (suc n) = []
first_bytes names (row ∷ rows) (suc n) = row_bytes names row ++ first_bytes names rows n

-- ---- what is put

-- an entry that shows, and room for it
pub record Room (names row : List ℕ) (at len : ℕ) : Type 0 where
  pub shows : Shows names row
  pub held : at + length (row_bytes names row) ≤ len

-- the first n entries, which show, and room for them
pub record Ready (names : List ℕ) (rows : List (List ℕ)) (n len : ℕ) : Type 0 where
  pub count : n ≤ length rows
  pub each : (i : ℕ) → i < n → Shows names (get_or rows i [])
  pub held : length (first_bytes names rows n) ≤ len

-- the first entries put up to the i-th
pub record PutTo (names : List ℕ) (rows : List (List ℕ)) (i at : ℕ) (o o' : List ℕ) : Type 0 where
  pub count : i ≤ length rows
  pub at_is : at ≡ length (first_bytes names rows i)
  pub is : o' ≡ over o 0 (first_bytes names rows i)

-- ---- what a packing holds

-- the first n entries, which show, and whose bytes fit
pub record Holds (names : List ℕ) (room : ℕ) (rows : List (List ℕ)) (n : ℕ) (bs : List ℕ) : Type 0 where
  pub count : n ≤ length rows
  pub each : (i : ℕ) → i < n → Shows names (get_or rows i [])
  pub bytes : bs ≡ first_bytes names rows n
  pub held : length bs ≤ room
