-- Written by tools/messages from its table of messages.
-- Each arm is the record that its case holds.
use Rattle.unix_requests.specs.Views.{layout_t, values_t}
use Rattle.unix_requests.proofs.write_tmessage.Goals as goal

pub returns-in-Version : goal.returns-in-Version
unfolding layout_t values_t
returns-in-Version c = rw c.in-Version.is c.write_tversion.ensures

pub returns-in-Auth : goal.returns-in-Auth
unfolding layout_t values_t
returns-in-Auth c = rw c.in-Auth.is c.write_tauth.ensures

pub returns-in-Attach : goal.returns-in-Attach
unfolding layout_t values_t
returns-in-Attach c = rw c.in-Attach.is c.write_tattach.ensures

pub returns-in-Flush : goal.returns-in-Flush
unfolding layout_t values_t
returns-in-Flush c = rw c.in-Flush.is c.write_tflush.ensures

pub returns-in-Walk : goal.returns-in-Walk
unfolding layout_t values_t
returns-in-Walk c = rw c.in-Walk.is c.write_twalk.ensures

pub returns-in-Open : goal.returns-in-Open
unfolding layout_t values_t
returns-in-Open c = rw c.in-Open.is c.write_topen.ensures

pub returns-in-Create : goal.returns-in-Create
unfolding layout_t values_t
returns-in-Create c = rw c.in-Create.is c.write_tcreate.ensures

pub returns-in-Read : goal.returns-in-Read
unfolding layout_t values_t
returns-in-Read c = rw c.in-Read.is c.write_tread.ensures

pub returns-in-Write : goal.returns-in-Write
unfolding layout_t values_t
returns-in-Write c = rw c.in-Write.is c.write_twrite.ensures

pub returns-in-Clunk : goal.returns-in-Clunk
unfolding layout_t values_t
returns-in-Clunk c = rw c.in-Clunk.is c.write_tclunk.ensures

pub returns-in-Remove : goal.returns-in-Remove
unfolding layout_t values_t
returns-in-Remove c = rw c.in-Remove.is c.write_tremove.ensures

pub returns-in-Stat : goal.returns-in-Stat
unfolding layout_t values_t
returns-in-Stat c = rw c.in-Stat.is c.write_tstat.ensures

pub returns-in-Wstat : goal.returns-in-Wstat
unfolding layout_t values_t
returns-in-Wstat c = rw c.in-Wstat.is c.write_twstat.ensures
