-- A table of qids that a program holds is well typed (`WT`), so its numbers fit.
use Rattle.std.specs.Prelude.{List, [], ◌∷◌}
use seplogic.Ra.Ura.{Ura}
use mir.Val.{Val, WT}
use types.Logic.{Logic}
use denote.Laws.{Is}
use denote.Struct.Laws.{lawful}
use Rattle.layouts.specs.declared.qids.Qid.{Qid}
use Rattle.layouts.specs.contracts.qids.Qid.{the_type as typeQid, the_row as rowQid}
use Rattle.layouts.proofs.qids.Qid.TheLaws.{the_laws as lawsQid, lowered as loweredQid, lowers as lowersQid}
use Rattle.framing.proofs.Typed.{typed_low}
use Rattle.stretch.specs.TablesBack.{QidsFit}

pub qid_held : {M : Type 1} {𝓤 : Ura M} (𝓛 : Logic 𝓤) → (v : Qid) (vs : List Val) → Is rowQid v vs → WT (loweredQid v)
qid_held 𝓛 = typed_low 𝓛 rowQid lowersQid (lawful typeQid lawsQid 𝓛)

-- a table of qids that a program holds has numbers that fit
abbrev pub QidsTyped : List Qid → Type 0
QidsTyped [] = Unit {0}
QidsTyped (x ∷ t) = WT (loweredQid x) × QidsTyped t

pub qids_fit : (t : List Qid) → QidsTyped t → QidsFit t
qids_fit [] g = tt
qids_fit (x ∷ t) (g, gs) = ((g.0.fits, g.1.0.fits, g.1.1.0.fits), qids_fit t gs)
