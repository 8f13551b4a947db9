-- A '/' and the name, and the sum of their lengths.
use native.Mathlib.Omega.{arith}
use lib.ListN.{length}
use Prim.Native.Nat.{ℕ, ◌+◌}
use mathlib.Core.List.{List}
use mathlib.Core.Path.{ap, ◌∙◌}
use Rattle.places.proofs.PathLaws.{name_put}
use Rattle.places.proofs.put_name.Goals as goal

pub returns : goal.returns
returns c = let a = c.args in (ap (λ (t : List ℕ). a.n + 1 + length t) c.shown-text.ensures.is ∙ (omega arith), name_put c.put_u8-slash.ensures c.put_bytes.ensures c.requires)
