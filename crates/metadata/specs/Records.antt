-- Written by tools/messages from its table of messages.
-- A definition states for each record its values, in the order of its fields.
use Rattle.std.specs.Prelude.{List, [], ◌∷◌}
use Rattle.fields.specs.Values.{Value, val}
use Rattle.layouts.specs.Records.{span_of}
use Rattle.metadata.specs.declared.attributes.Tstatfs.{Tstatfs}
use Rattle.metadata.specs.declared.attributes.Rstatfs.{Rstatfs}
use Rattle.metadata.specs.declared.attributes.Tgetattr.{Tgetattr}
use Rattle.metadata.specs.declared.attributes.Rgetattr.{Rgetattr}
use Rattle.metadata.specs.declared.attributes.Tsetattr.{Tsetattr}
use Rattle.metadata.specs.declared.attributes.Txattrwalk.{Txattrwalk}
use Rattle.metadata.specs.declared.attributes.Rxattrwalk.{Rxattrwalk}
use Rattle.metadata.specs.declared.attributes.Txattrcreate.{Txattrcreate}
use Rattle.metadata.specs.declared.locks.Tlock.{Tlock}
use Rattle.metadata.specs.declared.locks.Rlock.{Rlock}
use Rattle.metadata.specs.declared.locks.Tgetlock.{Tgetlock}
use Rattle.metadata.specs.declared.locks.Rgetlock.{Rgetlock}

-- ---- attributes

abbrev pub tstatfs : Tstatfs → List Value
tstatfs m = val m.fid.0 ∷ []

abbrev pub rstatfs : Rstatfs → List Value
rstatfs m = val m.ty ∷ val m.bsize ∷ val m.blocks ∷ val m.bfree ∷ val m.bavail ∷ val m.files ∷ val m.ffree ∷ val m.fsid ∷ val m.namelen ∷ []

abbrev pub tgetattr : Tgetattr → List Value
tgetattr m = val m.fid.0 ∷ val m.request_mask ∷ []

abbrev pub rgetattr : Rgetattr → List Value
rgetattr m = val m.valid ∷ val m.qid.ty ∷ val m.qid.version ∷ val m.qid.path ∷ val m.mode ∷ val m.uid ∷ val m.gid.0 ∷ val m.nlink ∷ val m.rdev ∷ val m.size ∷ val m.blksize ∷ val m.blocks ∷ val m.atime_sec ∷ val m.atime_nsec ∷ val m.mtime_sec ∷ val m.mtime_nsec ∷ val m.ctime_sec ∷ val m.ctime_nsec ∷ val m.btime_sec ∷ val m.btime_nsec ∷ val m.gen_ ∷ val m.data_version ∷ []

abbrev pub tsetattr : Tsetattr → List Value
tsetattr m = val m.fid.0 ∷ val m.valid ∷ val m.mode ∷ val m.uid ∷ val m.gid.0 ∷ val m.size ∷ val m.atime_sec ∷ val m.atime_nsec ∷ val m.mtime_sec ∷ val m.mtime_nsec ∷ []

abbrev pub txattrwalk : Txattrwalk → List Value
txattrwalk m = val m.fid.0 ∷ val m.newfid.0 ∷ span_of m.name ∷ []

abbrev pub rxattrwalk : Rxattrwalk → List Value
rxattrwalk m = val m.size ∷ []

abbrev pub txattrcreate : Txattrcreate → List Value
txattrcreate m = val m.fid.0 ∷ span_of m.name ∷ val m.attr_size ∷ val m.flags ∷ []

-- ---- locks

abbrev pub tlock : Tlock → List Value
tlock m = val m.fid.0 ∷ val m.type_ ∷ val m.flags ∷ val m.start ∷ val m.length ∷ val m.proc_id ∷ span_of m.client_id ∷ []

abbrev pub rlock : Rlock → List Value
rlock m = val m.status ∷ []

abbrev pub tgetlock : Tgetlock → List Value
tgetlock m = val m.fid.0 ∷ val m.type_ ∷ val m.start ∷ val m.length ∷ val m.proc_id ∷ span_of m.client_id ∷ []

abbrev pub rgetlock : Rgetlock → List Value
rgetlock m = val m.type_ ∷ val m.start ∷ val m.length ∷ val m.proc_id ∷ span_of m.client_id ∷ []
