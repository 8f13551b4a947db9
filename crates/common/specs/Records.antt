-- Written by tools/messages from its table of messages.
-- A definition states for each record its values, in the order of its fields.
use Rattle.std.specs.Prelude.{List, [], ◌∷◌}
use Rattle.fields.specs.Values.{Value, val}
use Rattle.layouts.specs.Records.{span_of, part_of}
use Rattle.common.specs.declared.sessions.Tversion.{Tversion}
use Rattle.common.specs.declared.sessions.Rversion.{Rversion}
use Rattle.common.specs.declared.sessions.Rauth.{Rauth}
use Rattle.common.specs.declared.sessions.Rattach.{Rattach}
use Rattle.common.specs.declared.sessions.Tflush.{Tflush}
use Rattle.common.specs.declared.sessions.Tclunk.{Tclunk}
use Rattle.common.specs.declared.walking.Twalk.{Twalk}
use Rattle.common.specs.declared.walking.Rwalk.{Rwalk}
use Rattle.common.specs.declared.files.Tread.{Tread}
use Rattle.common.specs.declared.files.Rread.{Rread}
use Rattle.common.specs.declared.files.Twrite.{Twrite}
use Rattle.common.specs.declared.files.Rwrite.{Rwrite}
use Rattle.common.specs.declared.files.Tremove.{Tremove}

-- ---- sessions

abbrev pub tversion : Tversion → List Value
tversion m = val m.msize ∷ span_of m.version ∷ []

abbrev pub rversion : Rversion → List Value
rversion m = val m.msize ∷ span_of m.version ∷ []

abbrev pub rauth : Rauth → List Value
rauth m = val m.aqid.ty ∷ val m.aqid.version ∷ val m.aqid.path ∷ []

abbrev pub rattach : Rattach → List Value
rattach m = val m.qid.ty ∷ val m.qid.version ∷ val m.qid.path ∷ []

abbrev pub tflush : Tflush → List Value
tflush m = val m.oldtag.0 ∷ []

abbrev pub tclunk : Tclunk → List Value
tclunk m = val m.fid.0 ∷ []

-- ---- walking

abbrev pub twalk : Twalk → List Value
twalk m = val m.fid.0 ∷ val m.newfid.0 ∷ part_of m.wnames ∷ []

abbrev pub rwalk : Rwalk → List Value
rwalk m = part_of m.wqids ∷ []

-- ---- files

abbrev pub tread : Tread → List Value
tread m = val m.fid.0 ∷ val m.offset ∷ val m.count ∷ []

abbrev pub rread : Rread → List Value
rread m = span_of m.«data» ∷ []

abbrev pub twrite : Twrite → List Value
twrite m = val m.fid.0 ∷ val m.offset ∷ span_of m.«data» ∷ []

abbrev pub rwrite : Rwrite → List Value
rwrite m = val m.count ∷ []

abbrev pub tremove : Tremove → List Value
tremove m = val m.fid.0 ∷ []
