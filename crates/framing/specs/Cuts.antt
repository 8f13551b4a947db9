-- What the answer says where a stretch is cut at a position.
use Rattle.std.specs.Prelude.{ℕ, ◌+◌, ◌-◌, ◌≤◌, ◌≡◌, List, length, take, drop, Result, Ok, Err, Option, Some, None}
use Rattle.layouts.specs.Tables.{Row}
use Rattle.framing.specs.Local.{size_in}
use Rattle.framing.specs.Stretch.{type_in, tag_in, end, stop, listed_frame, frame_at}
use Rattle.numbers.specs.declared.Refusal.{Refusal}
use Rattle.framing.specs.declared.Cut.{Cut}

-- the bytes from a position to the next
abbrev pub between : ℕ → ℕ → List ℕ → List ℕ
between p e s = take (e - p) (drop p s)

-- a whole frame from p to e, of the size that it declares; k is its type and g its tag
pub record WholeAt (s : List ℕ) (p k g e : ℕ) : Type 0 where
  pub seven : p + 7 ≤ e
  pub held : e ≤ length s
  pub size : size_in (between p e s) ≡ e - p
  pub ty : k ≡ type_in (between p e s)
  pub tag : g ≡ tag_in (between p e s)
  pub is : (ts rs : List Row) → listed_frame ts rs p (between p e s) ≡ frame_at ts rs s p

-- how a stretch is cut at a position, whatever the tables: no body is looked at
unfoldable pub CutAt : List ℕ → ℕ → Result (Option Cut) Refusal → Type 0
CutAt s p (Ok (Some c)) = WholeAt s p c.ty c.tag c.next
CutAt s p (Ok None) = (ts rs : List Row) → end p ≡ frame_at ts rs s p
CutAt s p (Err k) = (ts rs : List Row) → stop k p ≡ frame_at ts rs s p
