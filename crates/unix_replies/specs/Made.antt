-- Written by tools/messages from its table of messages.
-- A record is determined by its values: it can be made of them again.
use Rattle.std.specs.Prelude.{ℕ, ◌≡◌, List, get_or}
use Rattle.std.proofs.Common.{ap}
use Rattle.fields.specs.Values.{Value, val, num_of, start_of, len_of, count_of}
use Rattle.common.specs.Records.{rversion, rauth, rattach, rwalk, rread, rwrite}
use Rattle.plain.specs.Records.{ropen, rcreate}
use Rattle.unix.specs.Records.{rerror, rstat}
use Rattle.fields.specs.Values.{slots_of}
use Rattle.stats.specs.Stats.{made_unix}
use Rattle.common.specs.declared.sessions.Rversion.{Rversion}
use Rattle.common.specs.declared.sessions.Rauth.{Rauth}
use Rattle.common.specs.declared.sessions.Rattach.{Rattach}
use Rattle.unix.specs.declared.sessions.Rerror.{Rerror}
use Rattle.common.specs.declared.walking.Rwalk.{Rwalk}
use Rattle.plain.specs.declared.files.Ropen.{Ropen}
use Rattle.plain.specs.declared.files.Rcreate.{Rcreate}
use Rattle.common.specs.declared.files.Rread.{Rread}
use Rattle.common.specs.declared.files.Rwrite.{Rwrite}
use Rattle.unix.specs.declared.attributes.Rstat.{Rstat}

abbrev nth : ℕ → List Value → Value
nth i vs = get_or vs i (val 0)

abbrev pub made_rversion : List Value → Rversion
made_rversion vs = record { msize = num_of (nth 0 vs); version = record { start = start_of (nth 1 vs); len = len_of (nth 1 vs) } }

pub one_rversion : (m m' : Rversion) → rversion m ≡ rversion m' → m ≡ m'
one_rversion m m' e = ap made_rversion e

abbrev pub made_rauth : List Value → Rauth
made_rauth vs = record { aqid = record { ty = num_of (nth 0 vs); version = num_of (nth 1 vs); path = num_of (nth 2 vs) } }

pub one_rauth : (m m' : Rauth) → rauth m ≡ rauth m' → m ≡ m'
one_rauth m m' e = ap made_rauth e

abbrev pub made_rattach : List Value → Rattach
made_rattach vs = record { qid = record { ty = num_of (nth 0 vs); version = num_of (nth 1 vs); path = num_of (nth 2 vs) } }

pub one_rattach : (m m' : Rattach) → rattach m ≡ rattach m' → m ≡ m'
one_rattach m m' e = ap made_rattach e

abbrev pub made_rerror : List Value → Rerror
made_rerror vs = record { ename = record { start = start_of (nth 0 vs); len = len_of (nth 0 vs) }; errno = num_of (nth 1 vs) }

pub one_rerror : (m m' : Rerror) → rerror m ≡ rerror m' → m ≡ m'
one_rerror m m' e = ap made_rerror e

abbrev pub made_rwalk : List Value → Rwalk
made_rwalk vs = record { wqids = record { count = count_of (nth 0 vs); elements = record { start = start_of (nth 0 vs); len = len_of (nth 0 vs) } } }

pub one_rwalk : (m m' : Rwalk) → rwalk m ≡ rwalk m' → m ≡ m'
one_rwalk m m' e = ap made_rwalk e

abbrev pub made_ropen : List Value → Ropen
made_ropen vs = record { qid = record { ty = num_of (nth 0 vs); version = num_of (nth 1 vs); path = num_of (nth 2 vs) }; iounit = num_of (nth 3 vs) }

pub one_ropen : (m m' : Ropen) → ropen m ≡ ropen m' → m ≡ m'
one_ropen m m' e = ap made_ropen e

abbrev pub made_rcreate : List Value → Rcreate
made_rcreate vs = record { qid = record { ty = num_of (nth 0 vs); version = num_of (nth 1 vs); path = num_of (nth 2 vs) }; iounit = num_of (nth 3 vs) }

pub one_rcreate : (m m' : Rcreate) → rcreate m ≡ rcreate m' → m ≡ m'
one_rcreate m m' e = ap made_rcreate e

abbrev pub made_rread : List Value → Rread
made_rread vs = record { «data» = record { start = start_of (nth 0 vs); len = len_of (nth 0 vs) } }

pub one_rread : (m m' : Rread) → rread m ≡ rread m' → m ≡ m'
one_rread m m' e = ap made_rread e

abbrev pub made_rwrite : List Value → Rwrite
made_rwrite vs = record { count = num_of (nth 0 vs) }

pub one_rwrite : (m m' : Rwrite) → rwrite m ≡ rwrite m' → m ≡ m'
one_rwrite m m' e = ap made_rwrite e

abbrev pub made_rstat : List Value → Rstat
made_rstat vs = record { stat = made_unix (slots_of (nth 0 vs)) }

pub one_rstat : (m m' : Rstat) → rstat m ≡ rstat m' → m ≡ m'
one_rstat m m' e = ap made_rstat e
