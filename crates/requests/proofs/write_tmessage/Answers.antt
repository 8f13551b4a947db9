-- Written by tools/messages from its table of messages.
-- Each arm is the record that its case holds.
use Rattle.requests.specs.Views.{layout_t, values_t}
use Rattle.requests.proofs.write_tmessage.Goals as goal

pub returns-in-Version : goal.returns-in-Version
unfolding layout_t values_t
returns-in-Version c = rw c.in-Version.is c.write_tversion.ensures

pub returns-in-Flush : goal.returns-in-Flush
unfolding layout_t values_t
returns-in-Flush c = rw c.in-Flush.is c.write_tflush.ensures

pub returns-in-Walk : goal.returns-in-Walk
unfolding layout_t values_t
returns-in-Walk c = rw c.in-Walk.is c.write_twalk.ensures

pub returns-in-Read : goal.returns-in-Read
unfolding layout_t values_t
returns-in-Read c = rw c.in-Read.is c.write_tread.ensures

pub returns-in-Write : goal.returns-in-Write
unfolding layout_t values_t
returns-in-Write c = rw c.in-Write.is c.write_twrite.ensures

pub returns-in-Clunk : goal.returns-in-Clunk
unfolding layout_t values_t
returns-in-Clunk c = rw c.in-Clunk.is c.write_tclunk.ensures

pub returns-in-Remove : goal.returns-in-Remove
unfolding layout_t values_t
returns-in-Remove c = rw c.in-Remove.is c.write_tremove.ensures

pub returns-in-Attach : goal.returns-in-Attach
unfolding layout_t values_t
returns-in-Attach c = rw c.in-Attach.is c.write_tattach.ensures

pub returns-in-Auth : goal.returns-in-Auth
unfolding layout_t values_t
returns-in-Auth c = rw c.in-Auth.is c.write_tauth.ensures

pub returns-in-Statfs : goal.returns-in-Statfs
unfolding layout_t values_t
returns-in-Statfs c = rw c.in-Statfs.is c.write_tstatfs.ensures

pub returns-in-Lopen : goal.returns-in-Lopen
unfolding layout_t values_t
returns-in-Lopen c = rw c.in-Lopen.is c.write_tlopen.ensures

pub returns-in-Lcreate : goal.returns-in-Lcreate
unfolding layout_t values_t
returns-in-Lcreate c = rw c.in-Lcreate.is c.write_tlcreate.ensures

pub returns-in-Symlink : goal.returns-in-Symlink
unfolding layout_t values_t
returns-in-Symlink c = rw c.in-Symlink.is c.write_tsymlink.ensures

pub returns-in-Mknod : goal.returns-in-Mknod
unfolding layout_t values_t
returns-in-Mknod c = rw c.in-Mknod.is c.write_tmknod.ensures

pub returns-in-Rename : goal.returns-in-Rename
unfolding layout_t values_t
returns-in-Rename c = rw c.in-Rename.is c.write_trename.ensures

pub returns-in-Readlink : goal.returns-in-Readlink
unfolding layout_t values_t
returns-in-Readlink c = rw c.in-Readlink.is c.write_treadlink.ensures

pub returns-in-GetAttr : goal.returns-in-GetAttr
unfolding layout_t values_t
returns-in-GetAttr c = rw c.in-GetAttr.is c.write_tgetattr.ensures

pub returns-in-SetAttr : goal.returns-in-SetAttr
unfolding layout_t values_t
returns-in-SetAttr c = rw c.in-SetAttr.is c.write_tsetattr.ensures

pub returns-in-XattrWalk : goal.returns-in-XattrWalk
unfolding layout_t values_t
returns-in-XattrWalk c = rw c.in-XattrWalk.is c.write_txattrwalk.ensures

pub returns-in-XattrCreate : goal.returns-in-XattrCreate
unfolding layout_t values_t
returns-in-XattrCreate c = rw c.in-XattrCreate.is c.write_txattrcreate.ensures

pub returns-in-Readdir : goal.returns-in-Readdir
unfolding layout_t values_t
returns-in-Readdir c = rw c.in-Readdir.is c.write_treaddir.ensures

pub returns-in-Fsync : goal.returns-in-Fsync
unfolding layout_t values_t
returns-in-Fsync c = rw c.in-Fsync.is c.write_tfsync.ensures

pub returns-in-Lock : goal.returns-in-Lock
unfolding layout_t values_t
returns-in-Lock c = rw c.in-Lock.is c.write_tlock.ensures

pub returns-in-GetLock : goal.returns-in-GetLock
unfolding layout_t values_t
returns-in-GetLock c = rw c.in-GetLock.is c.write_tgetlock.ensures

pub returns-in-Link : goal.returns-in-Link
unfolding layout_t values_t
returns-in-Link c = rw c.in-Link.is c.write_tlink.ensures

pub returns-in-Mkdir : goal.returns-in-Mkdir
unfolding layout_t values_t
returns-in-Mkdir c = rw c.in-Mkdir.is c.write_tmkdir.ensures

pub returns-in-RenameAt : goal.returns-in-RenameAt
unfolding layout_t values_t
returns-in-RenameAt c = rw c.in-RenameAt.is c.write_trenameat.ensures

pub returns-in-UnlinkAt : goal.returns-in-UnlinkAt
unfolding layout_t values_t
returns-in-UnlinkAt c = rw c.in-UnlinkAt.is c.write_tunlinkat.ensures
