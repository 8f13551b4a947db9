-- Written by tools/messages from its table of messages.
-- A definition states for each record its values, in the order of its fields.
use Rattle.std.specs.Prelude.{List, [], ◌∷◌}
use Rattle.fields.specs.Values.{Value, val}
use Rattle.layouts.specs.Records.{span_of}
use Rattle.messages.specs.declared.sessions.Tauth.{Tauth}
use Rattle.messages.specs.declared.sessions.Tattach.{Tattach}
use Rattle.messages.specs.declared.sessions.Rlerror.{Rlerror}
use Rattle.messages.specs.declared.files.Tlopen.{Tlopen}
use Rattle.messages.specs.declared.files.Rlopen.{Rlopen}
use Rattle.messages.specs.declared.files.Tlcreate.{Tlcreate}
use Rattle.messages.specs.declared.files.Rlcreate.{Rlcreate}
use Rattle.messages.specs.declared.files.Tfsync.{Tfsync}
use Rattle.messages.specs.declared.directories.Tsymlink.{Tsymlink}
use Rattle.messages.specs.declared.directories.Rsymlink.{Rsymlink}
use Rattle.messages.specs.declared.directories.Tmknod.{Tmknod}
use Rattle.messages.specs.declared.directories.Rmknod.{Rmknod}
use Rattle.messages.specs.declared.directories.Trename.{Trename}
use Rattle.messages.specs.declared.directories.Treadlink.{Treadlink}
use Rattle.messages.specs.declared.directories.Rreadlink.{Rreadlink}
use Rattle.messages.specs.declared.directories.Treaddir.{Treaddir}
use Rattle.messages.specs.declared.directories.Rreaddir.{Rreaddir}
use Rattle.messages.specs.declared.directories.Tlink.{Tlink}
use Rattle.messages.specs.declared.directories.Tmkdir.{Tmkdir}
use Rattle.messages.specs.declared.directories.Rmkdir.{Rmkdir}
use Rattle.messages.specs.declared.directories.Trenameat.{Trenameat}
use Rattle.messages.specs.declared.directories.Tunlinkat.{Tunlinkat}

-- ---- sessions

abbrev pub tauth : Tauth → List Value
tauth m = val m.afid.0 ∷ span_of m.uname ∷ span_of m.aname ∷ val m.n_uname ∷ []

abbrev pub tattach : Tattach → List Value
tattach m = val m.fid.0 ∷ val m.afid.0 ∷ span_of m.uname ∷ span_of m.aname ∷ val m.n_uname ∷ []

abbrev pub rlerror : Rlerror → List Value
rlerror m = val m.ecode ∷ []

-- ---- files

abbrev pub tlopen : Tlopen → List Value
tlopen m = val m.fid.0 ∷ val m.flags ∷ []

abbrev pub rlopen : Rlopen → List Value
rlopen m = val m.qid.ty ∷ val m.qid.version ∷ val m.qid.path ∷ val m.iounit ∷ []

abbrev pub tlcreate : Tlcreate → List Value
tlcreate m = val m.fid.0 ∷ span_of m.name ∷ val m.flags ∷ val m.mode ∷ val m.gid.0 ∷ []

abbrev pub rlcreate : Rlcreate → List Value
rlcreate m = val m.qid.ty ∷ val m.qid.version ∷ val m.qid.path ∷ val m.iounit ∷ []

abbrev pub tfsync : Tfsync → List Value
tfsync m = val m.fid.0 ∷ val m.datasync ∷ []

-- ---- directories

abbrev pub tsymlink : Tsymlink → List Value
tsymlink m = val m.fid.0 ∷ span_of m.name ∷ span_of m.symtgt ∷ val m.gid.0 ∷ []

abbrev pub rsymlink : Rsymlink → List Value
rsymlink m = val m.qid.ty ∷ val m.qid.version ∷ val m.qid.path ∷ []

abbrev pub tmknod : Tmknod → List Value
tmknod m = val m.dfid.0 ∷ span_of m.name ∷ val m.mode ∷ val m.major ∷ val m.minor ∷ val m.gid.0 ∷ []

abbrev pub rmknod : Rmknod → List Value
rmknod m = val m.qid.ty ∷ val m.qid.version ∷ val m.qid.path ∷ []

abbrev pub trename : Trename → List Value
trename m = val m.fid.0 ∷ val m.dfid.0 ∷ span_of m.name ∷ []

abbrev pub treadlink : Treadlink → List Value
treadlink m = val m.fid.0 ∷ []

abbrev pub rreadlink : Rreadlink → List Value
rreadlink m = span_of m.target ∷ []

abbrev pub treaddir : Treaddir → List Value
treaddir m = val m.fid.0 ∷ val m.offset ∷ val m.count ∷ []

abbrev pub rreaddir : Rreaddir → List Value
rreaddir m = span_of m.«data» ∷ []

abbrev pub tlink : Tlink → List Value
tlink m = val m.dfid.0 ∷ val m.fid.0 ∷ span_of m.name ∷ []

abbrev pub tmkdir : Tmkdir → List Value
tmkdir m = val m.dfid.0 ∷ span_of m.name ∷ val m.mode ∷ val m.gid.0 ∷ []

abbrev pub rmkdir : Rmkdir → List Value
rmkdir m = val m.qid.ty ∷ val m.qid.version ∷ val m.qid.path ∷ []

abbrev pub trenameat : Trenameat → List Value
trenameat m = val m.olddirfid.0 ∷ span_of m.oldname ∷ val m.newdirfid.0 ∷ span_of m.newname ∷ []

abbrev pub tunlinkat : Tunlinkat → List Value
tunlinkat m = val m.dirfd.0 ∷ span_of m.name ∷ val m.flags ∷ []
