-- Written by tools/messages from its table of messages.
-- A record is determined by its values: it can be made of them again.
use Rattle.std.specs.Prelude.{ℕ, ◌≡◌, List, get_or}
use Rattle.std.proofs.Common.{ap}
use Rattle.fields.specs.Values.{Value, val, num_of, start_of, len_of, count_of}
use Rattle.common.specs.Records.{tversion, tflush, twalk, tread, twrite, tclunk, tremove}
use Rattle.plain.specs.Records.{tauth, tattach, topen, tcreate, tstat, twstat}
use Rattle.fields.specs.Values.{slots_of}
use Rattle.stats.specs.Stats.{made_stat}
use Rattle.common.specs.declared.sessions.Tversion.{Tversion}
use Rattle.plain.specs.declared.sessions.Tauth.{Tauth}
use Rattle.plain.specs.declared.sessions.Tattach.{Tattach}
use Rattle.common.specs.declared.sessions.Tflush.{Tflush}
use Rattle.common.specs.declared.walking.Twalk.{Twalk}
use Rattle.plain.specs.declared.files.Topen.{Topen}
use Rattle.plain.specs.declared.files.Tcreate.{Tcreate}
use Rattle.common.specs.declared.files.Tread.{Tread}
use Rattle.common.specs.declared.files.Twrite.{Twrite}
use Rattle.common.specs.declared.sessions.Tclunk.{Tclunk}
use Rattle.common.specs.declared.files.Tremove.{Tremove}
use Rattle.plain.specs.declared.attributes.Tstat.{Tstat}
use Rattle.plain.specs.declared.attributes.Twstat.{Twstat}

abbrev nth : ℕ → List Value → Value
nth i vs = get_or vs i (val 0)

abbrev pub made_tversion : List Value → Tversion
made_tversion vs = record { msize = num_of (nth 0 vs); version = record { start = start_of (nth 1 vs); len = len_of (nth 1 vs) } }

pub one_tversion : (m m' : Tversion) → tversion m ≡ tversion m' → m ≡ m'
one_tversion m m' e = ap made_tversion e

abbrev pub made_tauth : List Value → Tauth
made_tauth vs = record { afid = record { 0 = num_of (nth 0 vs) }; uname = record { start = start_of (nth 1 vs); len = len_of (nth 1 vs) }; aname = record { start = start_of (nth 2 vs); len = len_of (nth 2 vs) } }

pub one_tauth : (m m' : Tauth) → tauth m ≡ tauth m' → m ≡ m'
one_tauth m m' e = ap made_tauth e

abbrev pub made_tattach : List Value → Tattach
made_tattach vs = record { fid = record { 0 = num_of (nth 0 vs) }; afid = record { 0 = num_of (nth 1 vs) }; uname = record { start = start_of (nth 2 vs); len = len_of (nth 2 vs) }; aname = record { start = start_of (nth 3 vs); len = len_of (nth 3 vs) } }

pub one_tattach : (m m' : Tattach) → tattach m ≡ tattach m' → m ≡ m'
one_tattach m m' e = ap made_tattach e

abbrev pub made_tflush : List Value → Tflush
made_tflush vs = record { oldtag = record { 0 = num_of (nth 0 vs) } }

pub one_tflush : (m m' : Tflush) → tflush m ≡ tflush m' → m ≡ m'
one_tflush m m' e = ap made_tflush e

abbrev pub made_twalk : List Value → Twalk
made_twalk vs = record { fid = record { 0 = num_of (nth 0 vs) }; newfid = record { 0 = num_of (nth 1 vs) }; wnames = record { count = count_of (nth 2 vs); elements = record { start = start_of (nth 2 vs); len = len_of (nth 2 vs) } } }

pub one_twalk : (m m' : Twalk) → twalk m ≡ twalk m' → m ≡ m'
one_twalk m m' e = ap made_twalk e

abbrev pub made_topen : List Value → Topen
made_topen vs = record { fid = record { 0 = num_of (nth 0 vs) }; mode = num_of (nth 1 vs) }

pub one_topen : (m m' : Topen) → topen m ≡ topen m' → m ≡ m'
one_topen m m' e = ap made_topen e

abbrev pub made_tcreate : List Value → Tcreate
made_tcreate vs = record { fid = record { 0 = num_of (nth 0 vs) }; name = record { start = start_of (nth 1 vs); len = len_of (nth 1 vs) }; perm = num_of (nth 2 vs); mode = num_of (nth 3 vs) }

pub one_tcreate : (m m' : Tcreate) → tcreate m ≡ tcreate m' → m ≡ m'
one_tcreate m m' e = ap made_tcreate e

abbrev pub made_tread : List Value → Tread
made_tread vs = record { fid = record { 0 = num_of (nth 0 vs) }; offset = num_of (nth 1 vs); count = num_of (nth 2 vs) }

pub one_tread : (m m' : Tread) → tread m ≡ tread m' → m ≡ m'
one_tread m m' e = ap made_tread e

abbrev pub made_twrite : List Value → Twrite
made_twrite vs = record { fid = record { 0 = num_of (nth 0 vs) }; offset = num_of (nth 1 vs); «data» = record { start = start_of (nth 2 vs); len = len_of (nth 2 vs) } }

pub one_twrite : (m m' : Twrite) → twrite m ≡ twrite m' → m ≡ m'
one_twrite m m' e = ap made_twrite e

abbrev pub made_tclunk : List Value → Tclunk
made_tclunk vs = record { fid = record { 0 = num_of (nth 0 vs) } }

pub one_tclunk : (m m' : Tclunk) → tclunk m ≡ tclunk m' → m ≡ m'
one_tclunk m m' e = ap made_tclunk e

abbrev pub made_tremove : List Value → Tremove
made_tremove vs = record { fid = record { 0 = num_of (nth 0 vs) } }

pub one_tremove : (m m' : Tremove) → tremove m ≡ tremove m' → m ≡ m'
one_tremove m m' e = ap made_tremove e

abbrev pub made_tstat : List Value → Tstat
made_tstat vs = record { fid = record { 0 = num_of (nth 0 vs) } }

pub one_tstat : (m m' : Tstat) → tstat m ≡ tstat m' → m ≡ m'
one_tstat m m' e = ap made_tstat e

abbrev pub made_twstat : List Value → Twstat
made_twstat vs = record { fid = record { 0 = num_of (nth 0 vs) }; stat = made_stat (slots_of (nth 1 vs)) }

pub one_twstat : (m m' : Twstat) → twstat m ≡ twstat m' → m ≡ m'
one_twstat m m' e = ap made_twstat e
