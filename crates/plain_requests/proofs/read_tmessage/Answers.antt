-- Written by tools/messages from its table of messages.
-- Each arm is the row of its number; the rest is a number that has no row.
use mathlib.Core.Path.{◌∙◌}
use Rattle.layouts.specs.Plain.{table_t}
use Rattle.layouts.proofs.BodyLaws.{known_body, unknown_body}
use Rattle.plain_requests.specs.Views.{values_t, view_t}
use Rattle.plain_requests.proofs.read_tmessage.Goals as goal

pub returns-in-100 : goal.returns-in-100
unfolding values_t
returns-in-100 c = rw c.in-100.is (c.finish.ensures ∙ known_body 100 c.read_tversion-r.ensures)

pub returns-in-102 : goal.returns-in-102
unfolding values_t
returns-in-102 c = rw c.in-102.is (c.finish-in-102.ensures ∙ known_body 102 c.read_tauth-r.ensures)

pub returns-in-104 : goal.returns-in-104
unfolding values_t
returns-in-104 c = rw c.in-104.is (c.finish-in-104.ensures ∙ known_body 104 c.read_tattach-r.ensures)

pub returns-in-108 : goal.returns-in-108
unfolding values_t
returns-in-108 c = rw c.in-108.is (c.finish-in-108.ensures ∙ known_body 108 c.read_tflush-r.ensures)

pub returns-in-110 : goal.returns-in-110
unfolding values_t
returns-in-110 c = rw c.in-110.is (c.finish-in-110.ensures ∙ known_body 110 c.read_twalk-r.ensures)

pub returns-in-112 : goal.returns-in-112
unfolding values_t
returns-in-112 c = rw c.in-112.is (c.finish-in-112.ensures ∙ known_body 112 c.read_topen-r.ensures)

pub returns-in-114 : goal.returns-in-114
unfolding values_t
returns-in-114 c = rw c.in-114.is (c.finish-in-114.ensures ∙ known_body 114 c.read_tcreate-r.ensures)

pub returns-in-116 : goal.returns-in-116
unfolding values_t
returns-in-116 c = rw c.in-116.is (c.finish-in-116.ensures ∙ known_body 116 c.read_tread-r.ensures)

pub returns-in-118 : goal.returns-in-118
unfolding values_t
returns-in-118 c = rw c.in-118.is (c.finish-in-118.ensures ∙ known_body 118 c.read_twrite-r.ensures)

pub returns-in-120 : goal.returns-in-120
unfolding values_t
returns-in-120 c = rw c.in-120.is (c.finish-in-120.ensures ∙ known_body 120 c.read_tclunk-r.ensures)

pub returns-in-122 : goal.returns-in-122
unfolding values_t
returns-in-122 c = rw c.in-122.is (c.finish-in-122.ensures ∙ known_body 122 c.read_tremove-r.ensures)

pub returns-in-124 : goal.returns-in-124
unfolding values_t
returns-in-124 c = rw c.in-124.is (c.finish-in-124.ensures ∙ known_body 124 c.read_tstat-r.ensures)

pub returns-in-126 : goal.returns-in-126
unfolding values_t
returns-in-126 c = rw c.in-126.is (c.finish-in-126.ensures ∙ known_body 126 c.read_twstat-r.ensures)

pub returns-in_default : goal.returns-in_default
unfolding view_t
returns-in_default c = unknown_body table_t _ _ _ c.in_default.in_default-own.rest
