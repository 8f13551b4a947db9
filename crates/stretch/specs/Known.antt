-- Written by tools/messages from its table of messages.
-- The type of each case of the two enums is in its table, and has one byte.
use Rattle.std.specs.Prelude.{◌^◌, ◌<◌, ◌≡◌, refl}
use Rattle.std.proofs.Math.Option.{some}
use Rattle.layouts.specs.Tables.{lookup}
use Rattle.layouts.specs.Tables.{table_t, table_r}
use Rattle.layouts.proofs.TableLaws.{small_row}
use Rattle.requests.specs.Views.{type_t, layout_t}
use Rattle.requests.specs.declared.Tmessage.{Tmessage}
use Rattle.requests.specs.declared.Tmessage.TheVariants as M
use Rattle.replies.specs.Views.{type_r, layout_r}
use Rattle.replies.specs.declared.Rmessage.{Rmessage}
use Rattle.replies.specs.declared.Rmessage.TheVariants as Q

pub row_of_request : (m : Tmessage) → lookup table_t (type_t m) ≡ some (layout_t m)
unfolding layout_t
row_of_request (M.Version m) = refl
row_of_request (M.Flush m) = refl
row_of_request (M.Walk m) = refl
row_of_request (M.Read m) = refl
row_of_request (M.Write m) = refl
row_of_request (M.Clunk m) = refl
row_of_request (M.Remove m) = refl
row_of_request (M.Attach m) = refl
row_of_request (M.Auth m) = refl
row_of_request (M.Statfs m) = refl
row_of_request (M.Lopen m) = refl
row_of_request (M.Lcreate m) = refl
row_of_request (M.Symlink m) = refl
row_of_request (M.Mknod m) = refl
row_of_request (M.Rename m) = refl
row_of_request (M.Readlink m) = refl
row_of_request (M.GetAttr m) = refl
row_of_request (M.SetAttr m) = refl
row_of_request (M.XattrWalk m) = refl
row_of_request (M.XattrCreate m) = refl
row_of_request (M.Readdir m) = refl
row_of_request (M.Fsync m) = refl
row_of_request (M.Lock m) = refl
row_of_request (M.GetLock m) = refl
row_of_request (M.Link m) = refl
row_of_request (M.Mkdir m) = refl
row_of_request (M.RenameAt m) = refl
row_of_request (M.UnlinkAt m) = refl

pub type_of_request : (m : Tmessage) → type_t m < 256 ^ 1
type_of_request m = small_row table_t (type_t m) refl (row_of_request m)

pub row_of_reply : (m : Rmessage) → lookup table_r (type_r m) ≡ some (layout_r m)
unfolding layout_r
row_of_reply (Q.Version m) = refl
row_of_reply Q.Flush = refl
row_of_reply (Q.Walk m) = refl
row_of_reply (Q.Read m) = refl
row_of_reply (Q.Write m) = refl
row_of_reply Q.Clunk = refl
row_of_reply Q.Remove = refl
row_of_reply (Q.Attach m) = refl
row_of_reply (Q.Auth m) = refl
row_of_reply (Q.Statfs m) = refl
row_of_reply (Q.Lopen m) = refl
row_of_reply (Q.Lcreate m) = refl
row_of_reply (Q.Symlink m) = refl
row_of_reply (Q.Mknod m) = refl
row_of_reply Q.Rename = refl
row_of_reply (Q.Readlink m) = refl
row_of_reply (Q.GetAttr m) = refl
row_of_reply Q.SetAttr = refl
row_of_reply (Q.XattrWalk m) = refl
row_of_reply Q.XattrCreate = refl
row_of_reply (Q.Readdir m) = refl
row_of_reply Q.Fsync = refl
row_of_reply (Q.Lock m) = refl
row_of_reply (Q.GetLock m) = refl
row_of_reply Q.Link = refl
row_of_reply (Q.Mkdir m) = refl
row_of_reply Q.RenameAt = refl
row_of_reply Q.UnlinkAt = refl
row_of_reply (Q.Lerror m) = refl

pub type_of_reply : (m : Rmessage) → type_r m < 256 ^ 1
type_of_reply m = small_row table_r (type_r m) refl (row_of_reply m)
