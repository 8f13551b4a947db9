-- What holds of a session after any frames (F15.9): open tags are distinct, fids are distinct, the places of fids are below the used ones, and
-- each older place is not above its own.
use Rattle.std.specs.Prelude.{ℕ, ◌+◌, ◌<◌, ◌≤◌, ◌≡◌, List, ◌⊎◌, length, Ok}
use Rattle.std.proofs.Math.ListN.{get_or}
use Rattle.places.specs.Sound.{Sound as SoundPlaces}
use Rattle.places.specs.Reads.{NamesRead}
use Rattle.places.specs.Paths.{Named}
use Rattle.session.specs.declared.Request.{Request}
use Rattle.session.specs.declared.Session.{Session}
use Rattle.session.specs.declared.Effect.{Effect}
use Rattle.session.specs.declared.Effect.TheVariants as E
use Rattle.session.specs.declared.Way.{Way}
use Rattle.session.specs.declared.Way.TheVariants as Y
use Rattle.session.specs.declared.What.{What}
use Rattle.session.specs.declared.What.TheVariants as W
use Rattle.session.specs.Rules.{free, blank}
use Rattle.session.specs.Keys.{Distinct}

-- what a request that was read asks: a walk, a creation and a copy begin at a fid that is to be known; the name of a file that is made lies within the
-- stretch, and the names of a walk are read there
pub record Fair (bs : List ℕ) (r : Request) : Type 0 where
  pub begins : (r.ty ≡ 110) ⊎ ((r.ty ≡ 14) ⊎ (r.ty ≡ 30)) → r.known < free
  pub lies : r.ty ≡ 14 → r.start + r.len ≤ length bs
  pub reads : r.ty ≡ 110 → NamesRead bs r.count (Ok r.start)

abbrev pub FairEvent : List ℕ → What → Type 0
FairEvent bs (W.Asks r) = Fair bs r
FairEvent bs (W.Answers n) = Unit {0}
FairEvent bs (W.Refused k) = Unit {0}

pub record Sound (bs : List ℕ) (s : Session) : Type 0 where
  pub tags : Distinct s.tags
  pub fids : Distinct s.fids
  pub asks : length s.requests ≡ 64
  pub ats : length s.at ≡ 64
  pub fair : (i : ℕ) → i < 64 → (get_or s.tags i 0 ≡ free → ⊥) → Fair bs (get_or s.requests i blank)
  pub inside : (i : ℕ) → i < 64 → (get_or s.fids i 0 ≡ free → ⊥) → get_or s.at i 0 < s.places.used
  pub places : SoundPlaces s.places
  pub names : Named bs s.places

-- what a way asks of a request
abbrev pub FitFor : List ℕ → Request → Way → Type 0
FitFor bs r Y.Root = Unit {0}
FitFor bs r Y.Walk = (r.known < free) × NamesRead bs r.count (Ok r.start)
FitFor bs r Y.Child = (r.known < free) × (r.start + r.len ≤ length bs)
FitFor bs r Y.Copy = r.known < free

abbrev pub FitEffect : List ℕ → Request → Effect → Type 0
FitEffect bs r (E.Gives w) = FitFor bs r w
FitEffect bs r E.Nothing = Unit {0}
FitEffect bs r E.Empties = Unit {0}
FitEffect bs r E.Flushes = Unit {0}
FitEffect bs r E.Drops = Unit {0}

-- ---- what a request of its type asks, whatever the reply

pub record Fitting (bs : List ℕ) (r : Request) (e : Effect) : Type 0 where
  pub is : FitEffect bs r e
