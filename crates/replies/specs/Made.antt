-- Written by tools/messages from its table of messages.
-- A record is determined by its values: it can be made of them again.
use Rattle.std.specs.Prelude.{ℕ, ◌≡◌, List, get_or}
use Rattle.std.proofs.Common.{ap}
use Rattle.fields.specs.Values.{Value, val, num_of, start_of, len_of, count_of}
use Rattle.common.specs.Records.{rversion, rwalk, rread, rwrite, rattach, rauth}
use Rattle.messages.specs.Records.{rlopen, rlcreate, rsymlink, rmknod, rreadlink, rreaddir, rmkdir, rlerror}
use Rattle.metadata.specs.Records.{rstatfs, rgetattr, rxattrwalk, rlock, rgetlock}
use Rattle.common.specs.declared.sessions.Rversion.{Rversion}
use Rattle.common.specs.declared.walking.Rwalk.{Rwalk}
use Rattle.common.specs.declared.files.Rread.{Rread}
use Rattle.common.specs.declared.files.Rwrite.{Rwrite}
use Rattle.common.specs.declared.sessions.Rattach.{Rattach}
use Rattle.common.specs.declared.sessions.Rauth.{Rauth}
use Rattle.metadata.specs.declared.attributes.Rstatfs.{Rstatfs}
use Rattle.messages.specs.declared.files.Rlopen.{Rlopen}
use Rattle.messages.specs.declared.files.Rlcreate.{Rlcreate}
use Rattle.messages.specs.declared.directories.Rsymlink.{Rsymlink}
use Rattle.messages.specs.declared.directories.Rmknod.{Rmknod}
use Rattle.messages.specs.declared.directories.Rreadlink.{Rreadlink}
use Rattle.metadata.specs.declared.attributes.Rgetattr.{Rgetattr}
use Rattle.metadata.specs.declared.attributes.Rxattrwalk.{Rxattrwalk}
use Rattle.messages.specs.declared.directories.Rreaddir.{Rreaddir}
use Rattle.metadata.specs.declared.locks.Rlock.{Rlock}
use Rattle.metadata.specs.declared.locks.Rgetlock.{Rgetlock}
use Rattle.messages.specs.declared.directories.Rmkdir.{Rmkdir}
use Rattle.messages.specs.declared.sessions.Rlerror.{Rlerror}

abbrev nth : ℕ → List Value → Value
nth i vs = get_or vs i (val 0)

abbrev pub made_rversion : List Value → Rversion
made_rversion vs = record { msize = num_of (nth 0 vs); version = record { start = start_of (nth 1 vs); len = len_of (nth 1 vs) } }

pub one_rversion : (m m' : Rversion) → rversion m ≡ rversion m' → m ≡ m'
one_rversion m m' e = ap made_rversion e

abbrev pub made_rwalk : List Value → Rwalk
made_rwalk vs = record { wqids = record { count = count_of (nth 0 vs); elements = record { start = start_of (nth 0 vs); len = len_of (nth 0 vs) } } }

pub one_rwalk : (m m' : Rwalk) → rwalk m ≡ rwalk m' → m ≡ m'
one_rwalk m m' e = ap made_rwalk e

abbrev pub made_rread : List Value → Rread
made_rread vs = record { «data» = record { start = start_of (nth 0 vs); len = len_of (nth 0 vs) } }

pub one_rread : (m m' : Rread) → rread m ≡ rread m' → m ≡ m'
one_rread m m' e = ap made_rread e

abbrev pub made_rwrite : List Value → Rwrite
made_rwrite vs = record { count = num_of (nth 0 vs) }

pub one_rwrite : (m m' : Rwrite) → rwrite m ≡ rwrite m' → m ≡ m'
one_rwrite m m' e = ap made_rwrite e

abbrev pub made_rattach : List Value → Rattach
made_rattach vs = record { qid = record { ty = num_of (nth 0 vs); version = num_of (nth 1 vs); path = num_of (nth 2 vs) } }

pub one_rattach : (m m' : Rattach) → rattach m ≡ rattach m' → m ≡ m'
one_rattach m m' e = ap made_rattach e

abbrev pub made_rauth : List Value → Rauth
made_rauth vs = record { aqid = record { ty = num_of (nth 0 vs); version = num_of (nth 1 vs); path = num_of (nth 2 vs) } }

pub one_rauth : (m m' : Rauth) → rauth m ≡ rauth m' → m ≡ m'
one_rauth m m' e = ap made_rauth e

abbrev pub made_rstatfs : List Value → Rstatfs
made_rstatfs vs = record { ty = num_of (nth 0 vs); bsize = num_of (nth 1 vs); blocks = num_of (nth 2 vs); bfree = num_of (nth 3 vs); bavail = num_of (nth 4 vs); files = num_of (nth 5 vs); ffree = num_of (nth 6 vs); fsid = num_of (nth 7 vs); namelen = num_of (nth 8 vs) }

pub one_rstatfs : (m m' : Rstatfs) → rstatfs m ≡ rstatfs m' → m ≡ m'
one_rstatfs m m' e = ap made_rstatfs e

abbrev pub made_rlopen : List Value → Rlopen
made_rlopen vs = record { qid = record { ty = num_of (nth 0 vs); version = num_of (nth 1 vs); path = num_of (nth 2 vs) }; iounit = num_of (nth 3 vs) }

pub one_rlopen : (m m' : Rlopen) → rlopen m ≡ rlopen m' → m ≡ m'
one_rlopen m m' e = ap made_rlopen e

abbrev pub made_rlcreate : List Value → Rlcreate
made_rlcreate vs = record { qid = record { ty = num_of (nth 0 vs); version = num_of (nth 1 vs); path = num_of (nth 2 vs) }; iounit = num_of (nth 3 vs) }

pub one_rlcreate : (m m' : Rlcreate) → rlcreate m ≡ rlcreate m' → m ≡ m'
one_rlcreate m m' e = ap made_rlcreate e

abbrev pub made_rsymlink : List Value → Rsymlink
made_rsymlink vs = record { qid = record { ty = num_of (nth 0 vs); version = num_of (nth 1 vs); path = num_of (nth 2 vs) } }

pub one_rsymlink : (m m' : Rsymlink) → rsymlink m ≡ rsymlink m' → m ≡ m'
one_rsymlink m m' e = ap made_rsymlink e

abbrev pub made_rmknod : List Value → Rmknod
made_rmknod vs = record { qid = record { ty = num_of (nth 0 vs); version = num_of (nth 1 vs); path = num_of (nth 2 vs) } }

pub one_rmknod : (m m' : Rmknod) → rmknod m ≡ rmknod m' → m ≡ m'
one_rmknod m m' e = ap made_rmknod e

abbrev pub made_rreadlink : List Value → Rreadlink
made_rreadlink vs = record { target = record { start = start_of (nth 0 vs); len = len_of (nth 0 vs) } }

pub one_rreadlink : (m m' : Rreadlink) → rreadlink m ≡ rreadlink m' → m ≡ m'
one_rreadlink m m' e = ap made_rreadlink e

abbrev pub made_rgetattr : List Value → Rgetattr
made_rgetattr vs = record { valid = num_of (nth 0 vs); qid = record { ty = num_of (nth 1 vs); version = num_of (nth 2 vs); path = num_of (nth 3 vs) }; mode = num_of (nth 4 vs); uid = num_of (nth 5 vs); gid = record { 0 = num_of (nth 6 vs) }; nlink = num_of (nth 7 vs); rdev = num_of (nth 8 vs); size = num_of (nth 9 vs); blksize = num_of (nth 10 vs); blocks = num_of (nth 11 vs); atime_sec = num_of (nth 12 vs); atime_nsec = num_of (nth 13 vs); mtime_sec = num_of (nth 14 vs); mtime_nsec = num_of (nth 15 vs); ctime_sec = num_of (nth 16 vs); ctime_nsec = num_of (nth 17 vs); btime_sec = num_of (nth 18 vs); btime_nsec = num_of (nth 19 vs); gen_ = num_of (nth 20 vs); data_version = num_of (nth 21 vs) }

pub one_rgetattr : (m m' : Rgetattr) → rgetattr m ≡ rgetattr m' → m ≡ m'
one_rgetattr m m' e = ap made_rgetattr e

abbrev pub made_rxattrwalk : List Value → Rxattrwalk
made_rxattrwalk vs = record { size = num_of (nth 0 vs) }

pub one_rxattrwalk : (m m' : Rxattrwalk) → rxattrwalk m ≡ rxattrwalk m' → m ≡ m'
one_rxattrwalk m m' e = ap made_rxattrwalk e

abbrev pub made_rreaddir : List Value → Rreaddir
made_rreaddir vs = record { «data» = record { start = start_of (nth 0 vs); len = len_of (nth 0 vs) } }

pub one_rreaddir : (m m' : Rreaddir) → rreaddir m ≡ rreaddir m' → m ≡ m'
one_rreaddir m m' e = ap made_rreaddir e

abbrev pub made_rlock : List Value → Rlock
made_rlock vs = record { status = num_of (nth 0 vs) }

pub one_rlock : (m m' : Rlock) → rlock m ≡ rlock m' → m ≡ m'
one_rlock m m' e = ap made_rlock e

abbrev pub made_rgetlock : List Value → Rgetlock
made_rgetlock vs = record { type_ = num_of (nth 0 vs); start = num_of (nth 1 vs); length = num_of (nth 2 vs); proc_id = num_of (nth 3 vs); client_id = record { start = start_of (nth 4 vs); len = len_of (nth 4 vs) } }

pub one_rgetlock : (m m' : Rgetlock) → rgetlock m ≡ rgetlock m' → m ≡ m'
one_rgetlock m m' e = ap made_rgetlock e

abbrev pub made_rmkdir : List Value → Rmkdir
made_rmkdir vs = record { qid = record { ty = num_of (nth 0 vs); version = num_of (nth 1 vs); path = num_of (nth 2 vs) } }

pub one_rmkdir : (m m' : Rmkdir) → rmkdir m ≡ rmkdir m' → m ≡ m'
one_rmkdir m m' e = ap made_rmkdir e

abbrev pub made_rlerror : List Value → Rlerror
made_rlerror vs = record { ecode = num_of (nth 0 vs) }

pub one_rlerror : (m m' : Rlerror) → rlerror m ≡ rlerror m' → m ≡ m'
one_rlerror m m' e = ap made_rlerror e
