-- Written by tools/messages from its table of messages.
-- A record is determined by its values: it can be made of them again.
use Rattle.std.specs.Prelude.{ℕ, ◌≡◌, List, get_or}
use Rattle.std.proofs.Common.{ap}
use Rattle.fields.specs.Values.{Value, val, num_of, start_of, len_of, count_of}
use Rattle.common.specs.Records.{tversion, tflush, twalk, tread, twrite, tclunk, tremove}
use Rattle.messages.specs.Records.{tattach, tauth, tlopen, tlcreate, tsymlink, tmknod, trename, treadlink, treaddir, tfsync, tlink, tmkdir, trenameat, tunlinkat}
use Rattle.metadata.specs.Records.{tstatfs, tgetattr, tsetattr, txattrwalk, txattrcreate, tlock, tgetlock}
use Rattle.common.specs.declared.sessions.Tversion.{Tversion}
use Rattle.common.specs.declared.sessions.Tflush.{Tflush}
use Rattle.common.specs.declared.walking.Twalk.{Twalk}
use Rattle.common.specs.declared.files.Tread.{Tread}
use Rattle.common.specs.declared.files.Twrite.{Twrite}
use Rattle.common.specs.declared.sessions.Tclunk.{Tclunk}
use Rattle.common.specs.declared.files.Tremove.{Tremove}
use Rattle.messages.specs.declared.sessions.Tattach.{Tattach}
use Rattle.messages.specs.declared.sessions.Tauth.{Tauth}
use Rattle.metadata.specs.declared.attributes.Tstatfs.{Tstatfs}
use Rattle.messages.specs.declared.files.Tlopen.{Tlopen}
use Rattle.messages.specs.declared.files.Tlcreate.{Tlcreate}
use Rattle.messages.specs.declared.directories.Tsymlink.{Tsymlink}
use Rattle.messages.specs.declared.directories.Tmknod.{Tmknod}
use Rattle.messages.specs.declared.directories.Trename.{Trename}
use Rattle.messages.specs.declared.directories.Treadlink.{Treadlink}
use Rattle.metadata.specs.declared.attributes.Tgetattr.{Tgetattr}
use Rattle.metadata.specs.declared.attributes.Tsetattr.{Tsetattr}
use Rattle.metadata.specs.declared.attributes.Txattrwalk.{Txattrwalk}
use Rattle.metadata.specs.declared.attributes.Txattrcreate.{Txattrcreate}
use Rattle.messages.specs.declared.directories.Treaddir.{Treaddir}
use Rattle.messages.specs.declared.files.Tfsync.{Tfsync}
use Rattle.metadata.specs.declared.locks.Tlock.{Tlock}
use Rattle.metadata.specs.declared.locks.Tgetlock.{Tgetlock}
use Rattle.messages.specs.declared.directories.Tlink.{Tlink}
use Rattle.messages.specs.declared.directories.Tmkdir.{Tmkdir}
use Rattle.messages.specs.declared.directories.Trenameat.{Trenameat}
use Rattle.messages.specs.declared.directories.Tunlinkat.{Tunlinkat}

abbrev nth : ℕ → List Value → Value
nth i vs = get_or vs i (val 0)

abbrev pub made_tversion : List Value → Tversion
made_tversion vs = record { msize = num_of (nth 0 vs); version = record { start = start_of (nth 1 vs); len = len_of (nth 1 vs) } }

pub one_tversion : (m m' : Tversion) → tversion m ≡ tversion m' → m ≡ m'
one_tversion m m' e = ap made_tversion e

abbrev pub made_tflush : List Value → Tflush
made_tflush vs = record { oldtag = record { 0 = num_of (nth 0 vs) } }

pub one_tflush : (m m' : Tflush) → tflush m ≡ tflush m' → m ≡ m'
one_tflush m m' e = ap made_tflush e

abbrev pub made_twalk : List Value → Twalk
made_twalk vs = record { fid = record { 0 = num_of (nth 0 vs) }; newfid = record { 0 = num_of (nth 1 vs) }; wnames = record { count = count_of (nth 2 vs); elements = record { start = start_of (nth 2 vs); len = len_of (nth 2 vs) } } }

pub one_twalk : (m m' : Twalk) → twalk m ≡ twalk m' → m ≡ m'
one_twalk m m' e = ap made_twalk e

abbrev pub made_tread : List Value → Tread
made_tread vs = record { fid = record { 0 = num_of (nth 0 vs) }; offset = num_of (nth 1 vs); count = num_of (nth 2 vs) }

pub one_tread : (m m' : Tread) → tread m ≡ tread m' → m ≡ m'
one_tread m m' e = ap made_tread e

abbrev pub made_twrite : List Value → Twrite
made_twrite vs = record { fid = record { 0 = num_of (nth 0 vs) }; offset = num_of (nth 1 vs); «data» = record { start = start_of (nth 2 vs); len = len_of (nth 2 vs) } }

pub one_twrite : (m m' : Twrite) → twrite m ≡ twrite m' → m ≡ m'
one_twrite m m' e = ap made_twrite e

abbrev pub made_tclunk : List Value → Tclunk
made_tclunk vs = record { fid = record { 0 = num_of (nth 0 vs) } }

pub one_tclunk : (m m' : Tclunk) → tclunk m ≡ tclunk m' → m ≡ m'
one_tclunk m m' e = ap made_tclunk e

abbrev pub made_tremove : List Value → Tremove
made_tremove vs = record { fid = record { 0 = num_of (nth 0 vs) } }

pub one_tremove : (m m' : Tremove) → tremove m ≡ tremove m' → m ≡ m'
one_tremove m m' e = ap made_tremove e

abbrev pub made_tattach : List Value → Tattach
made_tattach vs = record { fid = record { 0 = num_of (nth 0 vs) }; afid = record { 0 = num_of (nth 1 vs) }; uname = record { start = start_of (nth 2 vs); len = len_of (nth 2 vs) }; aname = record { start = start_of (nth 3 vs); len = len_of (nth 3 vs) }; n_uname = num_of (nth 4 vs) }

pub one_tattach : (m m' : Tattach) → tattach m ≡ tattach m' → m ≡ m'
one_tattach m m' e = ap made_tattach e

abbrev pub made_tauth : List Value → Tauth
made_tauth vs = record { afid = record { 0 = num_of (nth 0 vs) }; uname = record { start = start_of (nth 1 vs); len = len_of (nth 1 vs) }; aname = record { start = start_of (nth 2 vs); len = len_of (nth 2 vs) }; n_uname = num_of (nth 3 vs) }

pub one_tauth : (m m' : Tauth) → tauth m ≡ tauth m' → m ≡ m'
one_tauth m m' e = ap made_tauth e

abbrev pub made_tstatfs : List Value → Tstatfs
made_tstatfs vs = record { fid = record { 0 = num_of (nth 0 vs) } }

pub one_tstatfs : (m m' : Tstatfs) → tstatfs m ≡ tstatfs m' → m ≡ m'
one_tstatfs m m' e = ap made_tstatfs e

abbrev pub made_tlopen : List Value → Tlopen
made_tlopen vs = record { fid = record { 0 = num_of (nth 0 vs) }; flags = num_of (nth 1 vs) }

pub one_tlopen : (m m' : Tlopen) → tlopen m ≡ tlopen m' → m ≡ m'
one_tlopen m m' e = ap made_tlopen e

abbrev pub made_tlcreate : List Value → Tlcreate
made_tlcreate vs = record { fid = record { 0 = num_of (nth 0 vs) }; name = record { start = start_of (nth 1 vs); len = len_of (nth 1 vs) }; flags = num_of (nth 2 vs); mode = num_of (nth 3 vs); gid = record { 0 = num_of (nth 4 vs) } }

pub one_tlcreate : (m m' : Tlcreate) → tlcreate m ≡ tlcreate m' → m ≡ m'
one_tlcreate m m' e = ap made_tlcreate e

abbrev pub made_tsymlink : List Value → Tsymlink
made_tsymlink vs = record { fid = record { 0 = num_of (nth 0 vs) }; name = record { start = start_of (nth 1 vs); len = len_of (nth 1 vs) }; symtgt = record { start = start_of (nth 2 vs); len = len_of (nth 2 vs) }; gid = record { 0 = num_of (nth 3 vs) } }

pub one_tsymlink : (m m' : Tsymlink) → tsymlink m ≡ tsymlink m' → m ≡ m'
one_tsymlink m m' e = ap made_tsymlink e

abbrev pub made_tmknod : List Value → Tmknod
made_tmknod vs = record { dfid = record { 0 = num_of (nth 0 vs) }; name = record { start = start_of (nth 1 vs); len = len_of (nth 1 vs) }; mode = num_of (nth 2 vs); major = num_of (nth 3 vs); minor = num_of (nth 4 vs); gid = record { 0 = num_of (nth 5 vs) } }

pub one_tmknod : (m m' : Tmknod) → tmknod m ≡ tmknod m' → m ≡ m'
one_tmknod m m' e = ap made_tmknod e

abbrev pub made_trename : List Value → Trename
made_trename vs = record { fid = record { 0 = num_of (nth 0 vs) }; dfid = record { 0 = num_of (nth 1 vs) }; name = record { start = start_of (nth 2 vs); len = len_of (nth 2 vs) } }

pub one_trename : (m m' : Trename) → trename m ≡ trename m' → m ≡ m'
one_trename m m' e = ap made_trename e

abbrev pub made_treadlink : List Value → Treadlink
made_treadlink vs = record { fid = record { 0 = num_of (nth 0 vs) } }

pub one_treadlink : (m m' : Treadlink) → treadlink m ≡ treadlink m' → m ≡ m'
one_treadlink m m' e = ap made_treadlink e

abbrev pub made_tgetattr : List Value → Tgetattr
made_tgetattr vs = record { fid = record { 0 = num_of (nth 0 vs) }; request_mask = num_of (nth 1 vs) }

pub one_tgetattr : (m m' : Tgetattr) → tgetattr m ≡ tgetattr m' → m ≡ m'
one_tgetattr m m' e = ap made_tgetattr e

abbrev pub made_tsetattr : List Value → Tsetattr
made_tsetattr vs = record { fid = record { 0 = num_of (nth 0 vs) }; valid = num_of (nth 1 vs); mode = num_of (nth 2 vs); uid = num_of (nth 3 vs); gid = record { 0 = num_of (nth 4 vs) }; size = num_of (nth 5 vs); atime_sec = num_of (nth 6 vs); atime_nsec = num_of (nth 7 vs); mtime_sec = num_of (nth 8 vs); mtime_nsec = num_of (nth 9 vs) }

pub one_tsetattr : (m m' : Tsetattr) → tsetattr m ≡ tsetattr m' → m ≡ m'
one_tsetattr m m' e = ap made_tsetattr e

abbrev pub made_txattrwalk : List Value → Txattrwalk
made_txattrwalk vs = record { fid = record { 0 = num_of (nth 0 vs) }; newfid = record { 0 = num_of (nth 1 vs) }; name = record { start = start_of (nth 2 vs); len = len_of (nth 2 vs) } }

pub one_txattrwalk : (m m' : Txattrwalk) → txattrwalk m ≡ txattrwalk m' → m ≡ m'
one_txattrwalk m m' e = ap made_txattrwalk e

abbrev pub made_txattrcreate : List Value → Txattrcreate
made_txattrcreate vs = record { fid = record { 0 = num_of (nth 0 vs) }; name = record { start = start_of (nth 1 vs); len = len_of (nth 1 vs) }; attr_size = num_of (nth 2 vs); flags = num_of (nth 3 vs) }

pub one_txattrcreate : (m m' : Txattrcreate) → txattrcreate m ≡ txattrcreate m' → m ≡ m'
one_txattrcreate m m' e = ap made_txattrcreate e

abbrev pub made_treaddir : List Value → Treaddir
made_treaddir vs = record { fid = record { 0 = num_of (nth 0 vs) }; offset = num_of (nth 1 vs); count = num_of (nth 2 vs) }

pub one_treaddir : (m m' : Treaddir) → treaddir m ≡ treaddir m' → m ≡ m'
one_treaddir m m' e = ap made_treaddir e

abbrev pub made_tfsync : List Value → Tfsync
made_tfsync vs = record { fid = record { 0 = num_of (nth 0 vs) }; datasync = num_of (nth 1 vs) }

pub one_tfsync : (m m' : Tfsync) → tfsync m ≡ tfsync m' → m ≡ m'
one_tfsync m m' e = ap made_tfsync e

abbrev pub made_tlock : List Value → Tlock
made_tlock vs = record { fid = record { 0 = num_of (nth 0 vs) }; type_ = num_of (nth 1 vs); flags = num_of (nth 2 vs); start = num_of (nth 3 vs); length = num_of (nth 4 vs); proc_id = num_of (nth 5 vs); client_id = record { start = start_of (nth 6 vs); len = len_of (nth 6 vs) } }

pub one_tlock : (m m' : Tlock) → tlock m ≡ tlock m' → m ≡ m'
one_tlock m m' e = ap made_tlock e

abbrev pub made_tgetlock : List Value → Tgetlock
made_tgetlock vs = record { fid = record { 0 = num_of (nth 0 vs) }; type_ = num_of (nth 1 vs); start = num_of (nth 2 vs); length = num_of (nth 3 vs); proc_id = num_of (nth 4 vs); client_id = record { start = start_of (nth 5 vs); len = len_of (nth 5 vs) } }

pub one_tgetlock : (m m' : Tgetlock) → tgetlock m ≡ tgetlock m' → m ≡ m'
one_tgetlock m m' e = ap made_tgetlock e

abbrev pub made_tlink : List Value → Tlink
made_tlink vs = record { dfid = record { 0 = num_of (nth 0 vs) }; fid = record { 0 = num_of (nth 1 vs) }; name = record { start = start_of (nth 2 vs); len = len_of (nth 2 vs) } }

pub one_tlink : (m m' : Tlink) → tlink m ≡ tlink m' → m ≡ m'
one_tlink m m' e = ap made_tlink e

abbrev pub made_tmkdir : List Value → Tmkdir
made_tmkdir vs = record { dfid = record { 0 = num_of (nth 0 vs) }; name = record { start = start_of (nth 1 vs); len = len_of (nth 1 vs) }; mode = num_of (nth 2 vs); gid = record { 0 = num_of (nth 3 vs) } }

pub one_tmkdir : (m m' : Tmkdir) → tmkdir m ≡ tmkdir m' → m ≡ m'
one_tmkdir m m' e = ap made_tmkdir e

abbrev pub made_trenameat : List Value → Trenameat
made_trenameat vs = record { olddirfid = record { 0 = num_of (nth 0 vs) }; oldname = record { start = start_of (nth 1 vs); len = len_of (nth 1 vs) }; newdirfid = record { 0 = num_of (nth 2 vs) }; newname = record { start = start_of (nth 3 vs); len = len_of (nth 3 vs) } }

pub one_trenameat : (m m' : Trenameat) → trenameat m ≡ trenameat m' → m ≡ m'
one_trenameat m m' e = ap made_trenameat e

abbrev pub made_tunlinkat : List Value → Tunlinkat
made_tunlinkat vs = record { dirfd = record { 0 = num_of (nth 0 vs) }; name = record { start = start_of (nth 1 vs); len = len_of (nth 1 vs) }; flags = num_of (nth 2 vs) }

pub one_tunlinkat : (m m' : Tunlinkat) → tunlinkat m ≡ tunlinkat m' → m ≡ m'
one_tunlinkat m m' e = ap made_tunlinkat e
