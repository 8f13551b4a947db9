-- A damaged frame (F6.11): what two listings have in common whose stretches differ inside one frame.
use Rattle.std.specs.Prelude.{ℕ, ◌+◌, ◌≡◌, ◌⊎◌, List, length, take, drop}
use Rattle.layouts.specs.Bodies.{Answer}
use Rattle.framing.specs.Stretch.{Listing, entry, ends, stops}

-- it has a frame of size n at p, accepted or not
abbrev pub Has : ℕ → ℕ → Listing → Type 0
Has p n (entry at size ty tag a tail l) = ((at ≡ p) × (size ≡ n)) ⊎ Has p n l
Has p n (ends q) = ⊥
Has p n (stops k q) = ⊥

-- t is as long as s, and differs from it only inside the frame of size n at p, after its four size bytes
pub record Damaged (p n : ℕ) (s t : List ℕ) : Type 0 where
  pub long : length t ≡ length s
  pub before : take (p + 4) t ≡ take (p + 4) s
  pub after : drop (p + n) t ≡ drop (p + n) s

-- equal, last line and all, but for one entry, of size n at p in both: its type, tag, answer and tail may differ
pub data EqualBut (p n : ℕ) : Listing → Listing → Type 0 where
  there : {ty tag tail ty' tag' tail' : ℕ} {a a' : Answer} {l : Listing} → EqualBut p n (entry p n ty tag a tail l) (entry p n ty' tag' a' tail' l)
  other : {at size ty tag tail : ℕ} {a : Answer} {l m : Listing} → EqualBut p n l m → EqualBut p n (entry at size ty tag a tail l) (entry at size ty tag a tail m)
