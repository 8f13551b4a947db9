-- By laws over any length: counting the 170,000 elements out would take memory.
use Rattle.std.proofs.Common.{◌≡◌, ℕ, replicate, sym, refl}
use lib.ListN.{length-replicate}
use Rattle.questions.specs.Parts.{unused}
use Rattle.questions.proofs.room.Goals as goal

filled : (n : ℕ) → replicate n 238 ≡ unused n
unfolding unused
filled n = refl

pub returns : goal.returns
returns c = record { bytes = filled 170000; size = sym (length-replicate {A = ℕ} 170000 238) }
