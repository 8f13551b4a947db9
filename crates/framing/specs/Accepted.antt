-- What an accepted frame is, byte for byte; and what is read of bytes that are such a frame. Over any table.
use Rattle.std.specs.Prelude.{ℕ, ◌+◌, ◌^◌, ◌<◌, ◌≡◌, List, ◌++◌, map, length, take}
use Rattle.std.proofs.Math.Option.{some}
use Rattle.numbers.specs.Numbers.{Bytes}
use Rattle.fields.specs.Layouts.{Item, kind, items_bytes, Goods}
use Rattle.fields.specs.Values.{Value, places}
use Rattle.layouts.specs.Tables.{Row, lookup}
use Rattle.framing.specs.Frames.{Header}
use Rattle.framing.specs.Writing.{head_bytes}

-- a frame that can stand: its numbers have room, its items are good, and the table gives its type their layout
pub record Stands (rows : List Row) (size ty tag : ℕ) (is : List Item) : Type 0 where
  pub sized : size < 256 ^ 4
  pub typed : ty < 256 ^ 1
  pub tagged : tag < 256 ^ 2
  pub goods : Goods is
  pub known : lookup rows ty ≡ some (map kind is)

-- ---- and the other way

-- the first size bytes, as far as they are held, are the header, the items and what is left
pub record Accepts (rows : List Row) (s : List ℕ) (ty tag : ℕ) (vs : List Value) (used : ℕ) : Type 0 where
  pub size : ℕ
  pub items : List Item
  pub left : List ℕ
  pub stands : Stands rows size ty tag items
  pub held : take size s ≡ head_bytes size ty tag ++ (items_bytes items ++ left)
  pub values : vs ≡ places 7 items
  pub uses : used ≡ 7 + length (items_bytes items)

-- a header that was read, byte for byte
pub record Headed (s : List ℕ) (h : Header) (d : List ℕ) : Type 0 where
  pub size : ℕ
  pub sized : size < 256 ^ 4
  pub typed : h.ty < 256 ^ 1
  pub tagged : h.tag < 256 ^ 2
  pub bytes : Bytes d
  pub held : take size s ≡ head_bytes size h.ty h.tag ++ d
