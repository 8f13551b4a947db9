-- Written by tools/messages from its table of messages.
-- Each arm is the record that its case holds.
use Rattle.laying.proofs.WritingLaws.{written_nothing}
use Rattle.plain_replies.specs.Views.{layout_r, values_r}
use Rattle.plain_replies.proofs.write_rmessage.Goals as goal

pub returns-in-Version : goal.returns-in-Version
unfolding layout_r values_r
returns-in-Version c = rw c.in-Version.is c.write_rversion.ensures

pub returns-in-Auth : goal.returns-in-Auth
unfolding layout_r values_r
returns-in-Auth c = rw c.in-Auth.is c.write_rauth.ensures

pub returns-in-Attach : goal.returns-in-Attach
unfolding layout_r values_r
returns-in-Attach c = rw c.in-Attach.is c.write_rattach.ensures

pub returns-in-Error : goal.returns-in-Error
unfolding layout_r values_r
returns-in-Error c = rw c.in-Error.is c.write_rerror.ensures

pub returns-in-Flush : goal.returns-in-Flush
unfolding layout_r values_r
returns-in-Flush c = rw c.in-Flush.is (written_nothing c.begun.ensures)

pub returns-in-Walk : goal.returns-in-Walk
unfolding layout_r values_r
returns-in-Walk c = rw c.in-Walk.is c.write_rwalk.ensures

pub returns-in-Open : goal.returns-in-Open
unfolding layout_r values_r
returns-in-Open c = rw c.in-Open.is c.write_ropen.ensures

pub returns-in-Create : goal.returns-in-Create
unfolding layout_r values_r
returns-in-Create c = rw c.in-Create.is c.write_rcreate.ensures

pub returns-in-Read : goal.returns-in-Read
unfolding layout_r values_r
returns-in-Read c = rw c.in-Read.is c.write_rread.ensures

pub returns-in-Write : goal.returns-in-Write
unfolding layout_r values_r
returns-in-Write c = rw c.in-Write.is c.write_rwrite.ensures

pub returns-in-Clunk : goal.returns-in-Clunk
unfolding layout_r values_r
returns-in-Clunk c = rw c.in-Clunk.is (written_nothing c.begun-in-Clunk.ensures)

pub returns-in-Remove : goal.returns-in-Remove
unfolding layout_r values_r
returns-in-Remove c = rw c.in-Remove.is (written_nothing c.begun-in-Remove.ensures)

pub returns-in-Stat : goal.returns-in-Stat
unfolding layout_r values_r
returns-in-Stat c = rw c.in-Stat.is c.write_rstat.ensures

pub returns-in-Wstat : goal.returns-in-Wstat
unfolding layout_r values_r
returns-in-Wstat c = rw c.in-Wstat.is (written_nothing c.begun-in-Wstat.ensures)
