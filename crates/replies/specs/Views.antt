-- Written by tools/messages from its table of messages.
-- For each case of `Rmessage` its number (F3.2), its layout and its values.
use Rattle.std.specs.Prelude.{ℕ, List, [], Result, Ok, Err}
use Rattle.fields.specs.Layouts.{Layout}
use Rattle.fields.specs.Values.{Value}
use Rattle.layouts.specs.Tables.{layout_rversion, layout_rflush, layout_rwalk, layout_rread, layout_rwrite, layout_rclunk, layout_rremove, layout_rattach, layout_rauth, layout_rstatfs, layout_rlopen, layout_rlcreate, layout_rsymlink, layout_rmknod, layout_rrename, layout_rreadlink, layout_rgetattr, layout_rsetattr, layout_rxattrwalk, layout_rxattrcreate, layout_rreaddir, layout_rfsync, layout_rlock, layout_rgetlock, layout_rlink, layout_rmkdir, layout_rrenameat, layout_runlinkat, layout_rlerror}
use Rattle.common.specs.Records.{rversion, rwalk, rread, rwrite, rattach, rauth}
use Rattle.messages.specs.Records.{rlopen, rlcreate, rsymlink, rmknod, rreadlink, rreaddir, rmkdir, rlerror}
use Rattle.metadata.specs.Records.{rstatfs, rgetattr, rxattrwalk, rlock, rgetlock}
use Rattle.layouts.specs.Bodies.{Answer, accepted, refused}
use Rattle.numbers.specs.declared.Fault.{Fault}
use Rattle.replies.specs.declared.Rmessage.{Rmessage}
use Rattle.replies.specs.declared.Rmessage.TheVariants as M

abbrev pub type_r : Rmessage → ℕ
type_r (M.Version m) = 101
type_r M.Flush = 109
type_r (M.Walk m) = 111
type_r (M.Read m) = 117
type_r (M.Write m) = 119
type_r M.Clunk = 121
type_r M.Remove = 123
type_r (M.Attach m) = 105
type_r (M.Auth m) = 103
type_r (M.Statfs m) = 9
type_r (M.Lopen m) = 13
type_r (M.Lcreate m) = 15
type_r (M.Symlink m) = 17
type_r (M.Mknod m) = 19
type_r M.Rename = 21
type_r (M.Readlink m) = 23
type_r (M.GetAttr m) = 25
type_r M.SetAttr = 27
type_r (M.XattrWalk m) = 31
type_r M.XattrCreate = 33
type_r (M.Readdir m) = 41
type_r M.Fsync = 51
type_r (M.Lock m) = 53
type_r (M.GetLock m) = 55
type_r M.Link = 71
type_r (M.Mkdir m) = 73
type_r M.RenameAt = 75
type_r M.UnlinkAt = 77
type_r (M.Lerror m) = 7

unfoldable pub layout_r : Rmessage → Layout
layout_r (M.Version m) = layout_rversion
layout_r M.Flush = layout_rflush
layout_r (M.Walk m) = layout_rwalk
layout_r (M.Read m) = layout_rread
layout_r (M.Write m) = layout_rwrite
layout_r M.Clunk = layout_rclunk
layout_r M.Remove = layout_rremove
layout_r (M.Attach m) = layout_rattach
layout_r (M.Auth m) = layout_rauth
layout_r (M.Statfs m) = layout_rstatfs
layout_r (M.Lopen m) = layout_rlopen
layout_r (M.Lcreate m) = layout_rlcreate
layout_r (M.Symlink m) = layout_rsymlink
layout_r (M.Mknod m) = layout_rmknod
layout_r M.Rename = layout_rrename
layout_r (M.Readlink m) = layout_rreadlink
layout_r (M.GetAttr m) = layout_rgetattr
layout_r M.SetAttr = layout_rsetattr
layout_r (M.XattrWalk m) = layout_rxattrwalk
layout_r M.XattrCreate = layout_rxattrcreate
layout_r (M.Readdir m) = layout_rreaddir
layout_r M.Fsync = layout_rfsync
layout_r (M.Lock m) = layout_rlock
layout_r (M.GetLock m) = layout_rgetlock
layout_r M.Link = layout_rlink
layout_r (M.Mkdir m) = layout_rmkdir
layout_r M.RenameAt = layout_rrenameat
layout_r M.UnlinkAt = layout_runlinkat
layout_r (M.Lerror m) = layout_rlerror

unfoldable pub values_r : Rmessage → List Value
values_r (M.Version m) = rversion m
values_r M.Flush = []
values_r (M.Walk m) = rwalk m
values_r (M.Read m) = rread m
values_r (M.Write m) = rwrite m
values_r M.Clunk = []
values_r M.Remove = []
values_r (M.Attach m) = rattach m
values_r (M.Auth m) = rauth m
values_r (M.Statfs m) = rstatfs m
values_r (M.Lopen m) = rlopen m
values_r (M.Lcreate m) = rlcreate m
values_r (M.Symlink m) = rsymlink m
values_r (M.Mknod m) = rmknod m
values_r M.Rename = []
values_r (M.Readlink m) = rreadlink m
values_r (M.GetAttr m) = rgetattr m
values_r M.SetAttr = []
values_r (M.XattrWalk m) = rxattrwalk m
values_r M.XattrCreate = []
values_r (M.Readdir m) = rreaddir m
values_r M.Fsync = []
values_r (M.Lock m) = rlock m
values_r (M.GetLock m) = rgetlock m
values_r M.Link = []
values_r (M.Mkdir m) = rmkdir m
values_r M.RenameAt = []
values_r M.UnlinkAt = []
values_r (M.Lerror m) = rlerror m

-- a body that was read, and where it ends; or its refusal
abbrev pub Rbody : Type 0
Rbody = Result (Rmessage × ℕ) Fault

-- a body seen as its number, its values and where it ends; or its refusal
unfoldable pub view_r : Rbody → Answer
view_r (Ok (m, n)) = accepted (type_r m) (values_r m) n
view_r (Err f) = refused f.0 f.1
