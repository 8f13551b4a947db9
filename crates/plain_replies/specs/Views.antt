-- Written by tools/messages from its table of messages.
-- For each case of `Rmessage` its number (F3.2), its layout and its values.
use Rattle.std.specs.Prelude.{ℕ, List, [], Result, Ok, Err}
use Rattle.fields.specs.Layouts.{Layout}
use Rattle.fields.specs.Values.{Value}
use Rattle.layouts.specs.Tables.{layout_rversion, layout_rauth, layout_rattach, layout_rflush, layout_rwalk, layout_rread, layout_rwrite, layout_rclunk, layout_rremove}
use Rattle.layouts.specs.Plain.{layout_rerror, layout_ropen, layout_rcreate, layout_rstat, layout_rwstat}
use Rattle.common.specs.Records.{rversion, rauth, rattach, rwalk, rread, rwrite}
use Rattle.plain.specs.Records.{rerror, ropen, rcreate, rstat}
use Rattle.layouts.specs.Bodies.{Answer, accepted, refused}
use Rattle.numbers.specs.declared.Fault.{Fault}
use Rattle.plain_replies.specs.declared.Rmessage.{Rmessage}
use Rattle.plain_replies.specs.declared.Rmessage.TheVariants as M

abbrev pub type_r : Rmessage → ℕ
type_r (M.Version m) = 101
type_r (M.Auth m) = 103
type_r (M.Attach m) = 105
type_r (M.Error m) = 107
type_r M.Flush = 109
type_r (M.Walk m) = 111
type_r (M.Open m) = 113
type_r (M.Create m) = 115
type_r (M.Read m) = 117
type_r (M.Write m) = 119
type_r M.Clunk = 121
type_r M.Remove = 123
type_r (M.Stat m) = 125
type_r M.Wstat = 127

unfoldable pub layout_r : Rmessage → Layout
layout_r (M.Version m) = layout_rversion
layout_r (M.Auth m) = layout_rauth
layout_r (M.Attach m) = layout_rattach
layout_r (M.Error m) = layout_rerror
layout_r M.Flush = layout_rflush
layout_r (M.Walk m) = layout_rwalk
layout_r (M.Open m) = layout_ropen
layout_r (M.Create m) = layout_rcreate
layout_r (M.Read m) = layout_rread
layout_r (M.Write m) = layout_rwrite
layout_r M.Clunk = layout_rclunk
layout_r M.Remove = layout_rremove
layout_r (M.Stat m) = layout_rstat
layout_r M.Wstat = layout_rwstat

unfoldable pub values_r : Rmessage → List Value
values_r (M.Version m) = rversion m
values_r (M.Auth m) = rauth m
values_r (M.Attach m) = rattach m
values_r (M.Error m) = rerror m
values_r M.Flush = []
values_r (M.Walk m) = rwalk m
values_r (M.Open m) = ropen m
values_r (M.Create m) = rcreate m
values_r (M.Read m) = rread m
values_r (M.Write m) = rwrite m
values_r M.Clunk = []
values_r M.Remove = []
values_r (M.Stat m) = rstat m
values_r M.Wstat = []

-- a body that was read, and where it ends; or its refusal
abbrev pub Rbody : Type 0
Rbody = Result (Rmessage × ℕ) Fault

-- a body seen as its number, its values and where it ends; or its refusal
unfoldable pub view_r : Rbody → Answer
view_r (Ok (m, n)) = accepted (type_r m) (values_r m) n
view_r (Err f) = refused f.0 f.1
