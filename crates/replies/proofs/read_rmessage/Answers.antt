-- Written by tools/messages from its table of messages.
-- Each arm is the row of its number; the rest is a number that has no row.
use mathlib.Core.Path.{◌∙◌}
use Rattle.fields.proofs.FieldLaws.{done}
use Rattle.layouts.specs.Tables.{table_r}
use Rattle.layouts.proofs.BodyLaws.{known_body, unknown_body}
use Rattle.replies.specs.Views.{values_r, view_r}
use Rattle.replies.proofs.read_rmessage.Goals as goal

pub returns-in-7 : goal.returns-in-7
unfolding values_r
returns-in-7 c = rw c.in-7.is (c.finish.ensures ∙ known_body 7 c.read_rlerror-r.ensures)

pub returns-in-9 : goal.returns-in-9
unfolding values_r
returns-in-9 c = rw c.in-9.is (c.finish-in-9.ensures ∙ known_body 9 c.read_rstatfs-r.ensures)

pub returns-in-13 : goal.returns-in-13
unfolding values_r
returns-in-13 c = rw c.in-13.is (c.finish-in-13.ensures ∙ known_body 13 c.read_rlopen-r.ensures)

pub returns-in-15 : goal.returns-in-15
unfolding values_r
returns-in-15 c = rw c.in-15.is (c.finish-in-15.ensures ∙ known_body 15 c.read_rlcreate-r.ensures)

pub returns-in-17 : goal.returns-in-17
unfolding values_r
returns-in-17 c = rw c.in-17.is (c.finish-in-17.ensures ∙ known_body 17 c.read_rsymlink-r.ensures)

pub returns-in-19 : goal.returns-in-19
unfolding values_r
returns-in-19 c = rw c.in-19.is (c.finish-in-19.ensures ∙ known_body 19 c.read_rmknod-r.ensures)

pub returns-in-21 : goal.returns-in-21
unfolding values_r
returns-in-21 c = rw c.in-21.is (c.finish-in-21.ensures ∙ known_body 21 done)

pub returns-in-23 : goal.returns-in-23
unfolding values_r
returns-in-23 c = rw c.in-23.is (c.finish-in-23.ensures ∙ known_body 23 c.read_rreadlink-r.ensures)

pub returns-in-25 : goal.returns-in-25
unfolding values_r
returns-in-25 c = rw c.in-25.is (c.finish-in-25.ensures ∙ known_body 25 c.read_rgetattr-r.ensures)

pub returns-in-27 : goal.returns-in-27
unfolding values_r
returns-in-27 c = rw c.in-27.is (c.finish-in-27.ensures ∙ known_body 27 done)

pub returns-in-31 : goal.returns-in-31
unfolding values_r
returns-in-31 c = rw c.in-31.is (c.finish-in-31.ensures ∙ known_body 31 c.read_rxattrwalk-r.ensures)

pub returns-in-33 : goal.returns-in-33
unfolding values_r
returns-in-33 c = rw c.in-33.is (c.finish-in-33.ensures ∙ known_body 33 done)

pub returns-in-41 : goal.returns-in-41
unfolding values_r
returns-in-41 c = rw c.in-41.is (c.finish-in-41.ensures ∙ known_body 41 c.read_rreaddir-r.ensures)

pub returns-in-51 : goal.returns-in-51
unfolding values_r
returns-in-51 c = rw c.in-51.is (c.finish-in-51.ensures ∙ known_body 51 done)

pub returns-in-53 : goal.returns-in-53
unfolding values_r
returns-in-53 c = rw c.in-53.is (c.finish-in-53.ensures ∙ known_body 53 c.read_rlock-r.ensures)

pub returns-in-55 : goal.returns-in-55
unfolding values_r
returns-in-55 c = rw c.in-55.is (c.finish-in-55.ensures ∙ known_body 55 c.read_rgetlock-r.ensures)

pub returns-in-71 : goal.returns-in-71
unfolding values_r
returns-in-71 c = rw c.in-71.is (c.finish-in-71.ensures ∙ known_body 71 done)

pub returns-in-73 : goal.returns-in-73
unfolding values_r
returns-in-73 c = rw c.in-73.is (c.finish-in-73.ensures ∙ known_body 73 c.read_rmkdir-r.ensures)

pub returns-in-75 : goal.returns-in-75
unfolding values_r
returns-in-75 c = rw c.in-75.is (c.finish-in-75.ensures ∙ known_body 75 done)

pub returns-in-77 : goal.returns-in-77
unfolding values_r
returns-in-77 c = rw c.in-77.is (c.finish-in-77.ensures ∙ known_body 77 done)

pub returns-in-101 : goal.returns-in-101
unfolding values_r
returns-in-101 c = rw c.in-101.is (c.finish-in-101.ensures ∙ known_body 101 c.read_rversion-r.ensures)

pub returns-in-103 : goal.returns-in-103
unfolding values_r
returns-in-103 c = rw c.in-103.is (c.finish-in-103.ensures ∙ known_body 103 c.read_rauth-r.ensures)

pub returns-in-105 : goal.returns-in-105
unfolding values_r
returns-in-105 c = rw c.in-105.is (c.finish-in-105.ensures ∙ known_body 105 c.read_rattach-r.ensures)

pub returns-in-109 : goal.returns-in-109
unfolding values_r
returns-in-109 c = rw c.in-109.is (c.finish-in-109.ensures ∙ known_body 109 done)

pub returns-in-111 : goal.returns-in-111
unfolding values_r
returns-in-111 c = rw c.in-111.is (c.finish-in-111.ensures ∙ known_body 111 c.read_rwalk-r.ensures)

pub returns-in-117 : goal.returns-in-117
unfolding values_r
returns-in-117 c = rw c.in-117.is (c.finish-in-117.ensures ∙ known_body 117 c.read_rread-r.ensures)

pub returns-in-119 : goal.returns-in-119
unfolding values_r
returns-in-119 c = rw c.in-119.is (c.finish-in-119.ensures ∙ known_body 119 c.read_rwrite-r.ensures)

pub returns-in-121 : goal.returns-in-121
unfolding values_r
returns-in-121 c = rw c.in-121.is (c.finish-in-121.ensures ∙ known_body 121 done)

pub returns-in-123 : goal.returns-in-123
unfolding values_r
returns-in-123 c = rw c.in-123.is (c.finish-in-123.ensures ∙ known_body 123 done)

pub returns-in_default : goal.returns-in_default
unfolding view_r
returns-in_default c = unknown_body table_r _ _ _ c.in_default.in_default-own.rest
