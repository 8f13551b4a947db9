-- What is packed is listed again, entry by entry; no more entries from the front would fit; and what stands after the packed bytes is as it was.
use Rattle.std.specs.Prelude.{ℕ, ◌^◌, ◌<◌, ◌≡◌, List, [], ◌∷◌, ◌++◌, length, get_or}
use Rattle.numbers.specs.Reading.{Reading, ok}
use Rattle.fields.specs.Layouts.{Item}
use Rattle.fields.specs.Values.{places, shows}
use Rattle.layouts.specs.Tables.{layout_dirent}
use Rattle.blocks.specs.Blocks.{Found, end, stop, Listing, line, ends, stops, list_from, shown}
use Rattle.blocks.specs.Views.{row_bytes}

-- ---- packed, then listed

-- what the lines of a listing show of the block
unfoldable pub records_in : List ℕ → Listing → List (Reading (List Item))
records_in s (line at vs next l) = shows layout_dirent s vs ∷ records_in s l
records_in s (ends p) = []
records_in s (stops k at p) = []

-- and how it ends
abbrev pub last_of : Listing → Found
last_of (line at vs next l) = last_of l
last_of (ends p) = end p
last_of (stops k at p) = stop k at p

-- a table holds numbers of eight bytes
pub record Words (rows : List (List ℕ)) : Type 0 where
  pub each : (i j : ℕ) → get_or (get_or rows i []) j 0 < 256 ^ 8

-- the entry at the front of what is left is listed, and shows what it was made of
pub record Again (names row : List ℕ) (a cs : List ℕ) : Type 0 where
  pub items : List Item
  pub made : shown names row ≡ ok items []
  pub listed : list_from (length a) 0 (row_bytes names row ++ cs) ≡ line (length a) (places (length a) items) (length (a ++ row_bytes names row)) (list_from (length (a ++ row_bytes names row)) 0 cs)
  pub shows_it : shows layout_dirent (a ++ (row_bytes names row ++ cs)) (places (length a) items) ≡ ok items []

-- the listing of a block shows these entries and ends where the block does
pub record Gives (s : List ℕ) (l : Listing) (shown : List (Reading (List Item))) : Type 0 where
  pub records : records_in s l ≡ shown
  pub last : last_of l ≡ end (length s)
