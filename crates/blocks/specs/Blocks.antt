-- A directory block: entries one after the other (F1.7), listed from a position on (F11.1 to F11.3) and packed entry by entry (F11.4 to F11.7).
use Rattle.std.specs.Prelude.{ℕ, zero, suc, ◌+◌, ◌-◌, min, cond, List, [], ◌∷◌, ◌++◌, length, drop, leb, ltb, eqb}
use Rattle.numbers.specs.Reading.{Reading, ok, bad}
use Rattle.numbers.specs.Places.{over}
use Rattle.numbers.specs.declared.Refusal.{Refusal}
use Rattle.numbers.specs.declared.Refusal.TheVariants as R
use Rattle.fields.specs.Layouts.{Item, read_fields, items_bytes}
use Rattle.fields.specs.Values.{Value, places, shows}
use Rattle.layouts.specs.Tables.{layout_dirent}
use Rattle.flat.specs.Flat.{field_values}

-- ---- at a position

-- one entry: where it begins, its values, and where the next begins; the end; or a refusal, its place (F2.7), and where the entry begins
pub data Found : Type 0 where
  entry : ℕ → List Value → ℕ → Found
  end : ℕ → Found
  stop : Refusal → ℕ → ℕ → Found

-- spans and places count from the block's first byte (F11.2)
abbrev pub entry_of : ℕ → Reading (List Item) → Found
entry_of p (ok is r) = entry p (places p is) (p + length (items_bytes is))
entry_of p (bad k at) = stop k at p

-- of the bytes that are left
unfoldable pub front : ℕ → List ℕ → Found
front p xs = entry_of p (read_fields layout_dirent p xs)

-- past the end it is 1; the end, where exactly nothing is left (F11.1)
unfoldable pub entry_at : List ℕ → ℕ → Found
entry_at s p = cond (ltb (length s) p) (stop R.Short 0 p) (cond (eqb (length s) p) (end p) (front p (drop p s)))

-- ---- the listing (F11.3)

pub data Listing : Type 0 where
  line : ℕ → List Value → ℕ → Listing → Listing
  ends : ℕ → Listing
  stops : Refusal → ℕ → ℕ → Listing

-- from position p on, once k more bytes of an entry are passed
unfoldable pub list_from : ℕ → ℕ → List ℕ → Listing
list_from p k [] = ends p
list_from p (suc k) (x ∷ xs) = list_from (suc p) k xs
list_from p zero (x ∷ xs) =
    elim (front p (x ∷ xs)) [
      | entry at vs next ↦ line at vs next (list_from (suc p) (next - suc p) xs)
      | end q ↦ ends q
      | stop j at q ↦ stops j at q
    ]

unfoldable pub listing : List ℕ → Listing
listing s = list_from 0 0 s

-- ---- packing

-- a row of the table is an entry's flat values (F11.4); its name is a span of the names
abbrev pub shown : List ℕ → List ℕ → Reading (List Item)
shown names row = shows layout_dirent names (field_values layout_dirent row)

-- how many entries, and their bytes; or the refusal of a name, and its place
pub data Pack : Type 0 where
  holds : ℕ → List ℕ → Pack
  refuses : Refusal → ℕ → Pack

abbrev pub more : List ℕ → Pack → Pack
more bs (holds n cs) = holds (suc n) (bs ++ cs)
more bs (refuses k at) = refuses k at

-- the name first, then the fit (F11.5); where one does not fit, none after it is looked at (F11.6)
abbrev pub fitted : ℕ → Reading (List Item) → (ℕ → Pack) → Pack
fitted room (bad k at) others = refuses k at
fitted room (ok is r) others = cond (leb (length (items_bytes is)) room) (more (items_bytes is) (others (room - length (items_bytes is)))) (holds 0 [])

unfoldable pub pack_from : List ℕ → ℕ → List (List ℕ) → Pack
pack_from names room [] = holds 0 []
pack_from names room (row ∷ rows) = fitted room (shown names row) (λ left. pack_from names left rows)

-- both the count and the output have room for them (F11.4)
abbrev pub pack_in : ℕ → ℕ → List ℕ → List (List ℕ) → Pack
pack_in count len names rows = pack_from names (min count len) rows

-- refused, the output is as it was; so is what stands after the packed bytes (F11.7)
abbrev pub laid_in : List ℕ → Pack → List ℕ
laid_in o (holds n bs) = over o 0 bs
laid_in o (refuses k at) = o
