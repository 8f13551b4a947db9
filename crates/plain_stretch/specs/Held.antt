-- Written by tools/messages from crates/stretch/specs/Held.antt.
-- A frame that a program holds is well typed (`WT`).
use Rattle.std.specs.Prelude.{List}
use seplogic.Ra.Ura.{Ura}
use mir.Val.{Val, WT}
use types.Logic.{Logic}
use denote.Laws.{Is}
use denote.Struct.Laws.{lawful}
use Rattle.framing.proofs.Typed.{typed_low}
use Rattle.plain_frames.specs.declared.Tframe.{Tframe}
use Rattle.plain_frames.specs.contracts.Tframe.{the_type as type_t, the_row as rowT}
use Rattle.plain_frames.proofs.Tframe.TheLaws.{the_laws as lawsT, lowered as loweredT, lowers as lowersT}
use Rattle.plain_frames.specs.declared.Rframe.{Rframe}
use Rattle.plain_frames.specs.contracts.Rframe.{the_type as type_r, the_row as rowR}
use Rattle.plain_frames.proofs.Rframe.TheLaws.{the_laws as lawsR, lowered as loweredR, lowers as lowersR}

module _ {M : Type 1} {𝓤 : Ura M} (𝓛 : Logic 𝓤) where
  pub request_held : (f : Tframe) (vs : List Val) → Is rowT f vs → WT (loweredT f)
  request_held = typed_low 𝓛 rowT lowersT (lawful type_t lawsT 𝓛)

  pub reply_held : (f : Rframe) (vs : List Val) → Is rowR f vs → WT (loweredR f)
  reply_held = typed_low 𝓛 rowR lowersR (lawful type_r lawsR 𝓛)
