-- Written by tools/messages from its table of messages.
-- Each arm is the row of its number; the rest is a number that has no row.
use mathlib.Core.Path.{◌∙◌}
use Rattle.layouts.specs.Tables.{table_t}
use Rattle.layouts.proofs.BodyLaws.{known_body, unknown_body}
use Rattle.requests.specs.Views.{values_t, view_t}
use Rattle.requests.proofs.read_tmessage.Goals as goal

pub returns-in-8 : goal.returns-in-8
unfolding values_t
returns-in-8 c = rw c.in-8.is (c.finish.ensures ∙ known_body 8 c.read_tstatfs-r.ensures)

pub returns-in-12 : goal.returns-in-12
unfolding values_t
returns-in-12 c = rw c.in-12.is (c.finish-in-12.ensures ∙ known_body 12 c.read_tlopen-r.ensures)

pub returns-in-14 : goal.returns-in-14
unfolding values_t
returns-in-14 c = rw c.in-14.is (c.finish-in-14.ensures ∙ known_body 14 c.read_tlcreate-r.ensures)

pub returns-in-16 : goal.returns-in-16
unfolding values_t
returns-in-16 c = rw c.in-16.is (c.finish-in-16.ensures ∙ known_body 16 c.read_tsymlink-r.ensures)

pub returns-in-18 : goal.returns-in-18
unfolding values_t
returns-in-18 c = rw c.in-18.is (c.finish-in-18.ensures ∙ known_body 18 c.read_tmknod-r.ensures)

pub returns-in-20 : goal.returns-in-20
unfolding values_t
returns-in-20 c = rw c.in-20.is (c.finish-in-20.ensures ∙ known_body 20 c.read_trename-r.ensures)

pub returns-in-22 : goal.returns-in-22
unfolding values_t
returns-in-22 c = rw c.in-22.is (c.finish-in-22.ensures ∙ known_body 22 c.read_treadlink-r.ensures)

pub returns-in-24 : goal.returns-in-24
unfolding values_t
returns-in-24 c = rw c.in-24.is (c.finish-in-24.ensures ∙ known_body 24 c.read_tgetattr-r.ensures)

pub returns-in-26 : goal.returns-in-26
unfolding values_t
returns-in-26 c = rw c.in-26.is (c.finish-in-26.ensures ∙ known_body 26 c.read_tsetattr-r.ensures)

pub returns-in-30 : goal.returns-in-30
unfolding values_t
returns-in-30 c = rw c.in-30.is (c.finish-in-30.ensures ∙ known_body 30 c.read_txattrwalk-r.ensures)

pub returns-in-32 : goal.returns-in-32
unfolding values_t
returns-in-32 c = rw c.in-32.is (c.finish-in-32.ensures ∙ known_body 32 c.read_txattrcreate-r.ensures)

pub returns-in-40 : goal.returns-in-40
unfolding values_t
returns-in-40 c = rw c.in-40.is (c.finish-in-40.ensures ∙ known_body 40 c.read_treaddir-r.ensures)

pub returns-in-50 : goal.returns-in-50
unfolding values_t
returns-in-50 c = rw c.in-50.is (c.finish-in-50.ensures ∙ known_body 50 c.read_tfsync-r.ensures)

pub returns-in-52 : goal.returns-in-52
unfolding values_t
returns-in-52 c = rw c.in-52.is (c.finish-in-52.ensures ∙ known_body 52 c.read_tlock-r.ensures)

pub returns-in-54 : goal.returns-in-54
unfolding values_t
returns-in-54 c = rw c.in-54.is (c.finish-in-54.ensures ∙ known_body 54 c.read_tgetlock-r.ensures)

pub returns-in-70 : goal.returns-in-70
unfolding values_t
returns-in-70 c = rw c.in-70.is (c.finish-in-70.ensures ∙ known_body 70 c.read_tlink-r.ensures)

pub returns-in-72 : goal.returns-in-72
unfolding values_t
returns-in-72 c = rw c.in-72.is (c.finish-in-72.ensures ∙ known_body 72 c.read_tmkdir-r.ensures)

pub returns-in-74 : goal.returns-in-74
unfolding values_t
returns-in-74 c = rw c.in-74.is (c.finish-in-74.ensures ∙ known_body 74 c.read_trenameat-r.ensures)

pub returns-in-76 : goal.returns-in-76
unfolding values_t
returns-in-76 c = rw c.in-76.is (c.finish-in-76.ensures ∙ known_body 76 c.read_tunlinkat-r.ensures)

pub returns-in-100 : goal.returns-in-100
unfolding values_t
returns-in-100 c = rw c.in-100.is (c.finish-in-100.ensures ∙ known_body 100 c.read_tversion-r.ensures)

pub returns-in-102 : goal.returns-in-102
unfolding values_t
returns-in-102 c = rw c.in-102.is (c.finish-in-102.ensures ∙ known_body 102 c.read_tauth-r.ensures)

pub returns-in-104 : goal.returns-in-104
unfolding values_t
returns-in-104 c = rw c.in-104.is (c.finish-in-104.ensures ∙ known_body 104 c.read_tattach-r.ensures)

pub returns-in-108 : goal.returns-in-108
unfolding values_t
returns-in-108 c = rw c.in-108.is (c.finish-in-108.ensures ∙ known_body 108 c.read_tflush-r.ensures)

pub returns-in-110 : goal.returns-in-110
unfolding values_t
returns-in-110 c = rw c.in-110.is (c.finish-in-110.ensures ∙ known_body 110 c.read_twalk-r.ensures)

pub returns-in-116 : goal.returns-in-116
unfolding values_t
returns-in-116 c = rw c.in-116.is (c.finish-in-116.ensures ∙ known_body 116 c.read_tread-r.ensures)

pub returns-in-118 : goal.returns-in-118
unfolding values_t
returns-in-118 c = rw c.in-118.is (c.finish-in-118.ensures ∙ known_body 118 c.read_twrite-r.ensures)

pub returns-in-120 : goal.returns-in-120
unfolding values_t
returns-in-120 c = rw c.in-120.is (c.finish-in-120.ensures ∙ known_body 120 c.read_tclunk-r.ensures)

pub returns-in-122 : goal.returns-in-122
unfolding values_t
returns-in-122 c = rw c.in-122.is (c.finish-in-122.ensures ∙ known_body 122 c.read_tremove-r.ensures)

pub returns-in_default : goal.returns-in_default
unfolding view_t
returns-in_default c = unknown_body table_t _ _ _ c.in_default.in_default-own.rest
