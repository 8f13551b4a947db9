-- What a program holds is well typed: whatever the logic takes for a value of a declared type (`Is`) has a machine value, as lowering writes it, whose numbers fit their widths (`WT`).
use Rattle.std.specs.Prelude.{List}
use seplogic.Ra.Ura.{Ura}
use mir.Val.{Val, WT}
use types.Logic.{Logic}
use Rattle.std.specs.Borrow.{RattleType}
use denote.Laws.{Is, Lawful}
use denote.Lowered.{Lowered}

pub typed_low : {M : Type 1} {𝓤 : Ura M} (𝓛 : Logic 𝓤) (R : RattleType) (L : Lowered R) → Lawful 𝓛 R → (x : R.Denot) (vs : List Val) → Is R x vs → WT (L.lowered x)
typed_low 𝓛 R L w x vs p = let t = rw (L.layout_is, L.val_is x vs p) at (w.typed x vs p) in t.0.1
