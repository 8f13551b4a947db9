-- What the functions answer, as the definition has it. What the contracts cite.
use Rattle.std.specs.Prelude.{ℕ, ◌≡◌, List, [], length, Result, Ok, Err, Option, Some, None}
use Rattle.numbers.specs.declared.Fault.{Fault}
use Rattle.numbers.specs.Reading.{Reading, ok, bad}
use Rattle.fields.specs.Layouts.{Item, items_bytes}
use Rattle.layouts.specs.Records.{dirent}
use Rattle.blocks.specs.declared.Listed.{Listed}
use Rattle.blocks.specs.declared.NoEntry.{NoEntry}
use Rattle.blocks.specs.declared.Packed.{Packed}
use Rattle.blocks.specs.Blocks.{Found, entry, end, stop, entry_at, shown, Pack, holds, refuses, pack_from, pack_in, laid_in}

-- ---- one entry

abbrev pub Step : Type 0
Step = Result (Option Listed) NoEntry

-- an end is that of the position that was asked
abbrev pub view_step : ℕ → Step → Found
view_step p (Ok (Some l)) = entry l.at (dirent l.entry) l.next
view_step p (Ok None) = end p
view_step p (Err x) = stop x.fault.0 x.fault.1 x.position

pub record Asked (s : List ℕ) (p : ℕ) (r : Step) : Type 0 where
  pub is : view_step p r ≡ entry_at s p

-- ---- packing

-- how many entries and how many bytes; or the refusal of a name, and its place
abbrev pub Packing : Type 0
Packing = Result Packed Fault

abbrev pub Holding : ℕ → ℕ → Packing
Holding n b = Ok (record { entries = n; bytes = b })

abbrev pub told : Pack → Packing
told (holds n bs) = Holding n (length bs)
told (refuses k at) = Err (k, at)

-- how many entries fit so much room
pub record Fitting (names : List ℕ) (room : ℕ) (rows : List (List ℕ)) (r : Packing) : Type 0 where
  pub is : r ≡ told (pack_from names room rows)

pub record PackedInto (count : ℕ) (names : List ℕ) (rows : List (List ℕ)) (o o' : List ℕ) (r : Packing) : Type 0 where
  pub answer : r ≡ told (pack_in count (length o) names rows)
  pub left : o' ≡ laid_in o (pack_in count (length o) names rows)

-- ---- the bytes of the first entries of a table

abbrev pub bytes_of : Reading (List Item) → List ℕ
bytes_of (ok is r) = items_bytes is
bytes_of (bad k at) = []

abbrev pub row_bytes : List ℕ → List ℕ → List ℕ
row_bytes names row = bytes_of (shown names row)

-- an entry whose name passes
pub record Shows (names row : List ℕ) : Type 0 where
  pub items : List Item
  pub rest : List ℕ
  pub is : shown names row ≡ ok items rest
