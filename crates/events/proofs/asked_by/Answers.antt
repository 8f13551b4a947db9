-- Message by message.
use Rattle.requests.specs.Views.{values_t}
use Rattle.events.specs.Events.{asked_by}
use Rattle.events.proofs.Ways.{arm}
use Rattle.events.proofs.asked_by.Goals as goal

pub returns-in-Version : goal.returns-in-Version
unfolding asked_by values_t
returns-in-Version c = arm c.in-Version.is c.request.ensures

pub returns-in-Flush : goal.returns-in-Flush
unfolding asked_by values_t
returns-in-Flush c = arm c.in-Flush.is c.flush.ensures

pub returns-in-Walk : goal.returns-in-Walk
unfolding asked_by values_t
returns-in-Walk c = arm c.in-Walk.is c.walk.ensures

pub returns-in-Read : goal.returns-in-Read
unfolding asked_by values_t
returns-in-Read c = arm c.in-Read.is c.on.ensures

pub returns-in-Write : goal.returns-in-Write
unfolding asked_by values_t
returns-in-Write c = arm c.in-Write.is c.on-in-Write.ensures

pub returns-in-Clunk : goal.returns-in-Clunk
unfolding asked_by values_t
returns-in-Clunk c = arm c.in-Clunk.is c.drops.ensures

pub returns-in-Remove : goal.returns-in-Remove
unfolding asked_by values_t
returns-in-Remove c = arm c.in-Remove.is c.drops-in-Remove.ensures

pub returns-in-Attach : goal.returns-in-Attach
unfolding asked_by values_t
returns-in-Attach c = arm c.in-Attach.is c.attach.ensures

pub returns-in-Auth : goal.returns-in-Auth
unfolding asked_by values_t
returns-in-Auth c = arm c.in-Auth.is c.auth.ensures

pub returns-in-Statfs : goal.returns-in-Statfs
unfolding asked_by values_t
returns-in-Statfs c = arm c.in-Statfs.is c.on-in-Statfs.ensures

pub returns-in-Lopen : goal.returns-in-Lopen
unfolding asked_by values_t
returns-in-Lopen c = arm c.in-Lopen.is c.on-in-Lopen.ensures

pub returns-in-Lcreate : goal.returns-in-Lcreate
unfolding asked_by values_t
returns-in-Lcreate c = arm c.in-Lcreate.is c.create.ensures

pub returns-in-Symlink : goal.returns-in-Symlink
unfolding asked_by values_t
returns-in-Symlink c = arm c.in-Symlink.is c.on-in-Symlink.ensures

pub returns-in-Mknod : goal.returns-in-Mknod
unfolding asked_by values_t
returns-in-Mknod c = arm c.in-Mknod.is c.on-in-Mknod.ensures

pub returns-in-Rename : goal.returns-in-Rename
unfolding asked_by values_t
returns-in-Rename c = arm c.in-Rename.is c.on-in-Rename.ensures

pub returns-in-Readlink : goal.returns-in-Readlink
unfolding asked_by values_t
returns-in-Readlink c = arm c.in-Readlink.is c.on-in-Readlink.ensures

pub returns-in-GetAttr : goal.returns-in-GetAttr
unfolding asked_by values_t
returns-in-GetAttr c = arm c.in-GetAttr.is c.on-in-GetAttr.ensures

pub returns-in-SetAttr : goal.returns-in-SetAttr
unfolding asked_by values_t
returns-in-SetAttr c = arm c.in-SetAttr.is c.on-in-SetAttr.ensures

pub returns-in-XattrWalk : goal.returns-in-XattrWalk
unfolding asked_by values_t
returns-in-XattrWalk c = arm c.in-XattrWalk.is c.xattr_walk.ensures

pub returns-in-XattrCreate : goal.returns-in-XattrCreate
unfolding asked_by values_t
returns-in-XattrCreate c = arm c.in-XattrCreate.is c.on-in-XattrCreate.ensures

pub returns-in-Readdir : goal.returns-in-Readdir
unfolding asked_by values_t
returns-in-Readdir c = arm c.in-Readdir.is c.on-in-Readdir.ensures

pub returns-in-Fsync : goal.returns-in-Fsync
unfolding asked_by values_t
returns-in-Fsync c = arm c.in-Fsync.is c.on-in-Fsync.ensures

pub returns-in-Lock : goal.returns-in-Lock
unfolding asked_by values_t
returns-in-Lock c = arm c.in-Lock.is c.on-in-Lock.ensures

pub returns-in-GetLock : goal.returns-in-GetLock
unfolding asked_by values_t
returns-in-GetLock c = arm c.in-GetLock.is c.on-in-GetLock.ensures

pub returns-in-Link : goal.returns-in-Link
unfolding asked_by values_t
returns-in-Link c = arm c.in-Link.is c.on-in-Link.ensures

pub returns-in-Mkdir : goal.returns-in-Mkdir
unfolding asked_by values_t
returns-in-Mkdir c = arm c.in-Mkdir.is c.on-in-Mkdir.ensures

pub returns-in-RenameAt : goal.returns-in-RenameAt
unfolding asked_by values_t
returns-in-RenameAt c = arm c.in-RenameAt.is c.on-in-RenameAt.ensures

pub returns-in-UnlinkAt : goal.returns-in-UnlinkAt
unfolding asked_by values_t
returns-in-UnlinkAt c = arm c.in-UnlinkAt.is c.on-in-UnlinkAt.ensures
