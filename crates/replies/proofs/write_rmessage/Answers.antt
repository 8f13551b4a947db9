-- Written by tools/messages from its table of messages.
-- Each arm is the record that its case holds.
use Rattle.laying.proofs.WritingLaws.{written_nothing}
use Rattle.replies.specs.Views.{layout_r, values_r}
use Rattle.replies.proofs.write_rmessage.Goals as goal

pub returns-in-Version : goal.returns-in-Version
unfolding layout_r values_r
returns-in-Version c = rw c.in-Version.is c.write_rversion.ensures

pub returns-in-Flush : goal.returns-in-Flush
unfolding layout_r values_r
returns-in-Flush c = rw c.in-Flush.is (written_nothing c.begun.ensures)

pub returns-in-Walk : goal.returns-in-Walk
unfolding layout_r values_r
returns-in-Walk c = rw c.in-Walk.is c.write_rwalk.ensures

pub returns-in-Read : goal.returns-in-Read
unfolding layout_r values_r
returns-in-Read c = rw c.in-Read.is c.write_rread.ensures

pub returns-in-Write : goal.returns-in-Write
unfolding layout_r values_r
returns-in-Write c = rw c.in-Write.is c.write_rwrite.ensures

pub returns-in-Clunk : goal.returns-in-Clunk
unfolding layout_r values_r
returns-in-Clunk c = rw c.in-Clunk.is (written_nothing c.begun-in-Clunk.ensures)

pub returns-in-Remove : goal.returns-in-Remove
unfolding layout_r values_r
returns-in-Remove c = rw c.in-Remove.is (written_nothing c.begun-in-Remove.ensures)

pub returns-in-Attach : goal.returns-in-Attach
unfolding layout_r values_r
returns-in-Attach c = rw c.in-Attach.is c.write_rattach.ensures

pub returns-in-Auth : goal.returns-in-Auth
unfolding layout_r values_r
returns-in-Auth c = rw c.in-Auth.is c.write_rauth.ensures

pub returns-in-Statfs : goal.returns-in-Statfs
unfolding layout_r values_r
returns-in-Statfs c = rw c.in-Statfs.is c.write_rstatfs.ensures

pub returns-in-Lopen : goal.returns-in-Lopen
unfolding layout_r values_r
returns-in-Lopen c = rw c.in-Lopen.is c.write_rlopen.ensures

pub returns-in-Lcreate : goal.returns-in-Lcreate
unfolding layout_r values_r
returns-in-Lcreate c = rw c.in-Lcreate.is c.write_rlcreate.ensures

pub returns-in-Symlink : goal.returns-in-Symlink
unfolding layout_r values_r
returns-in-Symlink c = rw c.in-Symlink.is c.write_rsymlink.ensures

pub returns-in-Mknod : goal.returns-in-Mknod
unfolding layout_r values_r
returns-in-Mknod c = rw c.in-Mknod.is c.write_rmknod.ensures

pub returns-in-Rename : goal.returns-in-Rename
unfolding layout_r values_r
returns-in-Rename c = rw c.in-Rename.is (written_nothing c.begun-in-Rename.ensures)

pub returns-in-Readlink : goal.returns-in-Readlink
unfolding layout_r values_r
returns-in-Readlink c = rw c.in-Readlink.is c.write_rreadlink.ensures

pub returns-in-GetAttr : goal.returns-in-GetAttr
unfolding layout_r values_r
returns-in-GetAttr c = rw c.in-GetAttr.is c.write_rgetattr.ensures

pub returns-in-SetAttr : goal.returns-in-SetAttr
unfolding layout_r values_r
returns-in-SetAttr c = rw c.in-SetAttr.is (written_nothing c.begun-in-SetAttr.ensures)

pub returns-in-XattrWalk : goal.returns-in-XattrWalk
unfolding layout_r values_r
returns-in-XattrWalk c = rw c.in-XattrWalk.is c.write_rxattrwalk.ensures

pub returns-in-XattrCreate : goal.returns-in-XattrCreate
unfolding layout_r values_r
returns-in-XattrCreate c = rw c.in-XattrCreate.is (written_nothing c.begun-in-XattrCreate.ensures)

pub returns-in-Readdir : goal.returns-in-Readdir
unfolding layout_r values_r
returns-in-Readdir c = rw c.in-Readdir.is c.write_rreaddir.ensures

pub returns-in-Fsync : goal.returns-in-Fsync
unfolding layout_r values_r
returns-in-Fsync c = rw c.in-Fsync.is (written_nothing c.begun-in-Fsync.ensures)

pub returns-in-Lock : goal.returns-in-Lock
unfolding layout_r values_r
returns-in-Lock c = rw c.in-Lock.is c.write_rlock.ensures

pub returns-in-GetLock : goal.returns-in-GetLock
unfolding layout_r values_r
returns-in-GetLock c = rw c.in-GetLock.is c.write_rgetlock.ensures

pub returns-in-Link : goal.returns-in-Link
unfolding layout_r values_r
returns-in-Link c = rw c.in-Link.is (written_nothing c.begun-in-Link.ensures)

pub returns-in-Mkdir : goal.returns-in-Mkdir
unfolding layout_r values_r
returns-in-Mkdir c = rw c.in-Mkdir.is c.write_rmkdir.ensures

pub returns-in-RenameAt : goal.returns-in-RenameAt
unfolding layout_r values_r
returns-in-RenameAt c = rw c.in-RenameAt.is (written_nothing c.begun-in-RenameAt.ensures)

pub returns-in-UnlinkAt : goal.returns-in-UnlinkAt
unfolding layout_r values_r
returns-in-UnlinkAt c = rw c.in-UnlinkAt.is (written_nothing c.begun-in-UnlinkAt.ensures)

pub returns-in-Lerror : goal.returns-in-Lerror
unfolding layout_r values_r
returns-in-Lerror c = rw c.in-Lerror.is c.write_rlerror.ensures
