-- Written by tools/messages from its table of messages.
-- Each arm is the row of its number; the rest is a number that has no row.
use mathlib.Core.Path.{◌∙◌}
use Rattle.fields.proofs.FieldLaws.{done}
use Rattle.layouts.specs.Plain.{table_r}
use Rattle.layouts.proofs.BodyLaws.{known_body, unknown_body}
use Rattle.plain_replies.specs.Views.{values_r, view_r}
use Rattle.plain_replies.proofs.read_rmessage.Goals as goal

pub returns-in-101 : goal.returns-in-101
unfolding values_r
returns-in-101 c = rw c.in-101.is (c.finish.ensures ∙ known_body 101 c.read_rversion-r.ensures)

pub returns-in-103 : goal.returns-in-103
unfolding values_r
returns-in-103 c = rw c.in-103.is (c.finish-in-103.ensures ∙ known_body 103 c.read_rauth-r.ensures)

pub returns-in-105 : goal.returns-in-105
unfolding values_r
returns-in-105 c = rw c.in-105.is (c.finish-in-105.ensures ∙ known_body 105 c.read_rattach-r.ensures)

pub returns-in-107 : goal.returns-in-107
unfolding values_r
returns-in-107 c = rw c.in-107.is (c.finish-in-107.ensures ∙ known_body 107 c.read_rerror-r.ensures)

pub returns-in-109 : goal.returns-in-109
unfolding values_r
returns-in-109 c = rw c.in-109.is (c.finish-in-109.ensures ∙ known_body 109 done)

pub returns-in-111 : goal.returns-in-111
unfolding values_r
returns-in-111 c = rw c.in-111.is (c.finish-in-111.ensures ∙ known_body 111 c.read_rwalk-r.ensures)

pub returns-in-113 : goal.returns-in-113
unfolding values_r
returns-in-113 c = rw c.in-113.is (c.finish-in-113.ensures ∙ known_body 113 c.read_ropen-r.ensures)

pub returns-in-115 : goal.returns-in-115
unfolding values_r
returns-in-115 c = rw c.in-115.is (c.finish-in-115.ensures ∙ known_body 115 c.read_rcreate-r.ensures)

pub returns-in-117 : goal.returns-in-117
unfolding values_r
returns-in-117 c = rw c.in-117.is (c.finish-in-117.ensures ∙ known_body 117 c.read_rread-r.ensures)

pub returns-in-119 : goal.returns-in-119
unfolding values_r
returns-in-119 c = rw c.in-119.is (c.finish-in-119.ensures ∙ known_body 119 c.read_rwrite-r.ensures)

pub returns-in-121 : goal.returns-in-121
unfolding values_r
returns-in-121 c = rw c.in-121.is (c.finish-in-121.ensures ∙ known_body 121 done)

pub returns-in-123 : goal.returns-in-123
unfolding values_r
returns-in-123 c = rw c.in-123.is (c.finish-in-123.ensures ∙ known_body 123 done)

pub returns-in-125 : goal.returns-in-125
unfolding values_r
returns-in-125 c = rw c.in-125.is (c.finish-in-125.ensures ∙ known_body 125 c.read_rstat-r.ensures)

pub returns-in-127 : goal.returns-in-127
unfolding values_r
returns-in-127 c = rw c.in-127.is (c.finish-in-127.ensures ∙ known_body 127 done)

pub returns-in_default : goal.returns-in_default
unfolding view_r
returns-in_default c = unknown_body table_r _ _ _ c.in_default.in_default-own.rest
