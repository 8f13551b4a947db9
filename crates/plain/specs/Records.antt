-- Written by tools/messages from its table of messages.
-- A definition states for each record its values, in the order of its fields.
use Rattle.std.specs.Prelude.{List, [], ◌∷◌}
use Rattle.fields.specs.Values.{Value, val}
use Rattle.layouts.specs.Records.{span_of}
use Rattle.stats.specs.Stats.{stat_of}
use Rattle.plain.specs.declared.sessions.Tauth.{Tauth}
use Rattle.plain.specs.declared.sessions.Tattach.{Tattach}
use Rattle.plain.specs.declared.sessions.Rerror.{Rerror}
use Rattle.plain.specs.declared.files.Topen.{Topen}
use Rattle.plain.specs.declared.files.Ropen.{Ropen}
use Rattle.plain.specs.declared.files.Tcreate.{Tcreate}
use Rattle.plain.specs.declared.files.Rcreate.{Rcreate}
use Rattle.plain.specs.declared.attributes.Tstat.{Tstat}
use Rattle.plain.specs.declared.attributes.Rstat.{Rstat}
use Rattle.plain.specs.declared.attributes.Twstat.{Twstat}

-- ---- sessions

abbrev pub tauth : Tauth → List Value
tauth m = val m.afid.0 ∷ span_of m.uname ∷ span_of m.aname ∷ []

abbrev pub tattach : Tattach → List Value
tattach m = val m.fid.0 ∷ val m.afid.0 ∷ span_of m.uname ∷ span_of m.aname ∷ []

abbrev pub rerror : Rerror → List Value
rerror m = span_of m.ename ∷ []

-- ---- files

abbrev pub topen : Topen → List Value
topen m = val m.fid.0 ∷ val m.mode ∷ []

abbrev pub ropen : Ropen → List Value
ropen m = val m.qid.ty ∷ val m.qid.version ∷ val m.qid.path ∷ val m.iounit ∷ []

abbrev pub tcreate : Tcreate → List Value
tcreate m = val m.fid.0 ∷ span_of m.name ∷ val m.perm ∷ val m.mode ∷ []

abbrev pub rcreate : Rcreate → List Value
rcreate m = val m.qid.ty ∷ val m.qid.version ∷ val m.qid.path ∷ val m.iounit ∷ []

-- ---- attributes

abbrev pub tstat : Tstat → List Value
tstat m = val m.fid.0 ∷ []

abbrev pub rstat : Rstat → List Value
rstat m = stat_of m.stat ∷ []

abbrev pub twstat : Twstat → List Value
twstat m = val m.fid.0 ∷ stat_of m.stat ∷ []
