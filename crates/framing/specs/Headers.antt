-- What the answer of a header's reader says.
use Rattle.std.specs.Prelude.{ℕ, ◌≤◌, ◌≡◌, List, length, take, drop, Result, Ok, Err}
use Rattle.numbers.specs.Reading.{ok, bad}
use Rattle.framing.specs.Frames.{read_type_tag, read_header}
use Rattle.numbers.specs.declared.Refusal.{Refusal}
use Rattle.framing.specs.declared.Head.{Head}

-- what is known of a header that was read: the first n bytes are the frame's, as far as they are held
pub record Headed (s : List ℕ) (n ty tag : ℕ) : Type 0 where
  pub seven : 7 ≤ n
  pub held : n ≤ length s
  pub reads : read_header s ≡ ok (record { ty = ty; tag = tag }) (drop 7 (take n s))

unfoldable pub HeadIs : List ℕ → Result Head Refusal → Type 0
HeadIs s (Ok h) = Headed s h.len h.ty h.tag
HeadIs s (Err k) = read_header s ≡ bad k 0

-- after the size, of the frame's own bytes: the type and the tag
pub record Tagged (b : List ℕ) (n ty tag : ℕ) : Type 0 where
  pub all : n ≡ length b
  pub seven : 7 ≤ length b
  pub reads : read_type_tag (drop 4 b) ≡ ok (record { ty = ty; tag = tag }) (drop 7 b)

unfoldable pub TypeTag : List ℕ → Result Head Refusal → Type 0
TypeTag b (Ok h) = Tagged b h.len h.ty h.tag
TypeTag b (Err k) = read_type_tag (drop 4 b) ≡ bad k 0
