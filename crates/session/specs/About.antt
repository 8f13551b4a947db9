-- The fid that a frame is about, if the session accepts it (F15.12).
use Rattle.std.specs.Prelude.{ℕ, cond, eqb}
use Rattle.session.specs.declared.Request.{Request}
use Rattle.session.specs.declared.Session.{Session}
use Rattle.session.specs.declared.Effect.{Effect}
use Rattle.session.specs.declared.Effect.TheVariants as E
use Rattle.session.specs.declared.What.{What}
use Rattle.session.specs.declared.What.TheVariants as W
use Rattle.session.specs.declared.Event.{Event}
use Rattle.session.specs.Rows.{has}
use Rattle.session.specs.Rules.{none, effect_of, request_of}

-- Tauth's afid and Tattach's fid are given by the reply; of any other request the first fid must be known
unfoldable pub first_fid : Request → ℕ
first_fid r = cond (eqb r.ty 102) r.to (cond (eqb r.ty 104) r.to r.known)

unfoldable pub fid_given : Effect → ℕ → ℕ
fid_given (E.Gives w) to = to
fid_given E.Nothing to = none
fid_given E.Empties to = none
fid_given E.Flushes to = none
fid_given E.Drops to = none

-- by the request that is open under the tag
unfoldable pub answered_fid : Session → ℕ → ℕ → ℕ → ℕ
answered_fid s tag ty n =
    cond (has tag s.tags) (fid_given (effect_of (request_of s tag).ty ty (eqb n (request_of s tag).count)) (request_of s tag).to) none

abbrev pub about_in : Session → ℕ → ℕ → What → ℕ
about_in s ty tag (W.Asks r) = first_fid r
about_in s ty tag (W.Answers n) = answered_fid s tag ty n
about_in s ty tag (W.Refused k) = none

unfoldable pub fid_of : Session → Event → ℕ
fid_of s e = about_in s e.ty e.tag e.what
