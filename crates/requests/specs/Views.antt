-- Written by tools/messages from its table of messages.
-- For each case of `Tmessage` its number (F3.2), its layout and its values.
use Rattle.std.specs.Prelude.{ℕ, List, Result, Ok, Err}
use Rattle.fields.specs.Layouts.{Layout}
use Rattle.fields.specs.Values.{Value}
use Rattle.layouts.specs.Tables.{layout_tversion, layout_tflush, layout_twalk, layout_tread, layout_twrite, layout_tclunk, layout_tremove, layout_tattach, layout_tauth, layout_tstatfs, layout_tlopen, layout_tlcreate, layout_tsymlink, layout_tmknod, layout_trename, layout_treadlink, layout_tgetattr, layout_tsetattr, layout_txattrwalk, layout_txattrcreate, layout_treaddir, layout_tfsync, layout_tlock, layout_tgetlock, layout_tlink, layout_tmkdir, layout_trenameat, layout_tunlinkat}
use Rattle.common.specs.Records.{tversion, tflush, twalk, tread, twrite, tclunk, tremove}
use Rattle.messages.specs.Records.{tattach, tauth, tlopen, tlcreate, tsymlink, tmknod, trename, treadlink, treaddir, tfsync, tlink, tmkdir, trenameat, tunlinkat}
use Rattle.metadata.specs.Records.{tstatfs, tgetattr, tsetattr, txattrwalk, txattrcreate, tlock, tgetlock}
use Rattle.layouts.specs.Bodies.{Answer, accepted, refused}
use Rattle.numbers.specs.declared.Fault.{Fault}
use Rattle.requests.specs.declared.Tmessage.{Tmessage}
use Rattle.requests.specs.declared.Tmessage.TheVariants as M

abbrev pub type_t : Tmessage → ℕ
type_t (M.Version m) = 100
type_t (M.Flush m) = 108
type_t (M.Walk m) = 110
type_t (M.Read m) = 116
type_t (M.Write m) = 118
type_t (M.Clunk m) = 120
type_t (M.Remove m) = 122
type_t (M.Attach m) = 104
type_t (M.Auth m) = 102
type_t (M.Statfs m) = 8
type_t (M.Lopen m) = 12
type_t (M.Lcreate m) = 14
type_t (M.Symlink m) = 16
type_t (M.Mknod m) = 18
type_t (M.Rename m) = 20
type_t (M.Readlink m) = 22
type_t (M.GetAttr m) = 24
type_t (M.SetAttr m) = 26
type_t (M.XattrWalk m) = 30
type_t (M.XattrCreate m) = 32
type_t (M.Readdir m) = 40
type_t (M.Fsync m) = 50
type_t (M.Lock m) = 52
type_t (M.GetLock m) = 54
type_t (M.Link m) = 70
type_t (M.Mkdir m) = 72
type_t (M.RenameAt m) = 74
type_t (M.UnlinkAt m) = 76

unfoldable pub layout_t : Tmessage → Layout
layout_t (M.Version m) = layout_tversion
layout_t (M.Flush m) = layout_tflush
layout_t (M.Walk m) = layout_twalk
layout_t (M.Read m) = layout_tread
layout_t (M.Write m) = layout_twrite
layout_t (M.Clunk m) = layout_tclunk
layout_t (M.Remove m) = layout_tremove
layout_t (M.Attach m) = layout_tattach
layout_t (M.Auth m) = layout_tauth
layout_t (M.Statfs m) = layout_tstatfs
layout_t (M.Lopen m) = layout_tlopen
layout_t (M.Lcreate m) = layout_tlcreate
layout_t (M.Symlink m) = layout_tsymlink
layout_t (M.Mknod m) = layout_tmknod
layout_t (M.Rename m) = layout_trename
layout_t (M.Readlink m) = layout_treadlink
layout_t (M.GetAttr m) = layout_tgetattr
layout_t (M.SetAttr m) = layout_tsetattr
layout_t (M.XattrWalk m) = layout_txattrwalk
layout_t (M.XattrCreate m) = layout_txattrcreate
layout_t (M.Readdir m) = layout_treaddir
layout_t (M.Fsync m) = layout_tfsync
layout_t (M.Lock m) = layout_tlock
layout_t (M.GetLock m) = layout_tgetlock
layout_t (M.Link m) = layout_tlink
layout_t (M.Mkdir m) = layout_tmkdir
layout_t (M.RenameAt m) = layout_trenameat
layout_t (M.UnlinkAt m) = layout_tunlinkat

unfoldable pub values_t : Tmessage → List Value
values_t (M.Version m) = tversion m
values_t (M.Flush m) = tflush m
values_t (M.Walk m) = twalk m
values_t (M.Read m) = tread m
values_t (M.Write m) = twrite m
values_t (M.Clunk m) = tclunk m
values_t (M.Remove m) = tremove m
values_t (M.Attach m) = tattach m
values_t (M.Auth m) = tauth m
values_t (M.Statfs m) = tstatfs m
values_t (M.Lopen m) = tlopen m
values_t (M.Lcreate m) = tlcreate m
values_t (M.Symlink m) = tsymlink m
values_t (M.Mknod m) = tmknod m
values_t (M.Rename m) = trename m
values_t (M.Readlink m) = treadlink m
values_t (M.GetAttr m) = tgetattr m
values_t (M.SetAttr m) = tsetattr m
values_t (M.XattrWalk m) = txattrwalk m
values_t (M.XattrCreate m) = txattrcreate m
values_t (M.Readdir m) = treaddir m
values_t (M.Fsync m) = tfsync m
values_t (M.Lock m) = tlock m
values_t (M.GetLock m) = tgetlock m
values_t (M.Link m) = tlink m
values_t (M.Mkdir m) = tmkdir m
values_t (M.RenameAt m) = trenameat m
values_t (M.UnlinkAt m) = tunlinkat m

-- a body that was read, and where it ends; or its refusal
abbrev pub Tbody : Type 0
Tbody = Result (Tmessage × ℕ) Fault

-- a body seen as its number, its values and where it ends; or its refusal
unfoldable pub view_t : Tbody → Answer
view_t (Ok (m, n)) = accepted (type_t m) (values_t m) n
view_t (Err f) = refused f.0 f.1
