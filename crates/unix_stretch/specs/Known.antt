-- Written by tools/messages from its table of messages.
-- The type of each case of the two enums is in its table, and has one byte.
use Rattle.std.specs.Prelude.{◌^◌, ◌<◌, ◌≡◌, refl}
use Rattle.std.proofs.Math.Option.{some}
use Rattle.layouts.specs.Tables.{lookup}
use Rattle.stats.specs.Unix.{table_t, table_r}
use Rattle.layouts.proofs.TableLaws.{small_row}
use Rattle.unix_requests.specs.Views.{type_t, layout_t}
use Rattle.unix_requests.specs.declared.Tmessage.{Tmessage}
use Rattle.unix_requests.specs.declared.Tmessage.TheVariants as M
use Rattle.unix_replies.specs.Views.{type_r, layout_r}
use Rattle.unix_replies.specs.declared.Rmessage.{Rmessage}
use Rattle.unix_replies.specs.declared.Rmessage.TheVariants as Q

pub row_of_request : (m : Tmessage) → lookup table_t (type_t m) ≡ some (layout_t m)
unfolding layout_t
row_of_request (M.Version m) = refl
row_of_request (M.Auth m) = refl
row_of_request (M.Attach m) = refl
row_of_request (M.Flush m) = refl
row_of_request (M.Walk m) = refl
row_of_request (M.Open m) = refl
row_of_request (M.Create m) = refl
row_of_request (M.Read m) = refl
row_of_request (M.Write m) = refl
row_of_request (M.Clunk m) = refl
row_of_request (M.Remove m) = refl
row_of_request (M.Stat m) = refl
row_of_request (M.Wstat m) = refl

pub type_of_request : (m : Tmessage) → type_t m < 256 ^ 1
type_of_request m = small_row table_t (type_t m) refl (row_of_request m)

pub row_of_reply : (m : Rmessage) → lookup table_r (type_r m) ≡ some (layout_r m)
unfolding layout_r
row_of_reply (Q.Version m) = refl
row_of_reply (Q.Auth m) = refl
row_of_reply (Q.Attach m) = refl
row_of_reply (Q.Error m) = refl
row_of_reply Q.Flush = refl
row_of_reply (Q.Walk m) = refl
row_of_reply (Q.Open m) = refl
row_of_reply (Q.Create m) = refl
row_of_reply (Q.Read m) = refl
row_of_reply (Q.Write m) = refl
row_of_reply Q.Clunk = refl
row_of_reply Q.Remove = refl
row_of_reply (Q.Stat m) = refl
row_of_reply Q.Wstat = refl

pub type_of_reply : (m : Rmessage) → type_r m < 256 ^ 1
type_of_reply m = small_row table_r (type_r m) refl (row_of_reply m)
