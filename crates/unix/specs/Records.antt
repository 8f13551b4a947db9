-- Written by tools/messages from its table of messages.
-- A definition states for each record its values, in the order of its fields.
use Rattle.std.specs.Prelude.{List, [], ◌∷◌}
use Rattle.fields.specs.Values.{Value, val}
use Rattle.layouts.specs.Records.{span_of}
use Rattle.stats.specs.Stats.{unix_of}
use Rattle.unix.specs.declared.sessions.Rerror.{Rerror}
use Rattle.unix.specs.declared.files.Tcreate.{Tcreate}
use Rattle.unix.specs.declared.attributes.Rstat.{Rstat}
use Rattle.unix.specs.declared.attributes.Twstat.{Twstat}

-- ---- sessions

abbrev pub rerror : Rerror → List Value
rerror m = span_of m.ename ∷ val m.errno ∷ []

-- ---- files

abbrev pub tcreate : Tcreate → List Value
tcreate m = val m.fid.0 ∷ span_of m.name ∷ val m.perm ∷ val m.mode ∷ span_of m.extension ∷ []

-- ---- attributes

abbrev pub rstat : Rstat → List Value
rstat m = unix_of m.stat ∷ []

abbrev pub twstat : Twstat → List Value
twstat m = val m.fid.0 ∷ unix_of m.stat ∷ []
