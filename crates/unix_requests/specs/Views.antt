-- Written by tools/messages from its table of messages.
-- For each case of `Tmessage` its number (F3.2), its layout and its values.
use Rattle.std.specs.Prelude.{ℕ, List, Result, Ok, Err}
use Rattle.fields.specs.Layouts.{Layout}
use Rattle.fields.specs.Values.{Value}
use Rattle.layouts.specs.Tables.{layout_tversion, layout_tauth, layout_tattach, layout_tflush, layout_twalk, layout_tread, layout_twrite, layout_tclunk, layout_tremove}
use Rattle.layouts.specs.Plain.{layout_topen, layout_tstat}
use Rattle.stats.specs.Unix.{layout_tcreate, layout_twstat}
use Rattle.common.specs.Records.{tversion, tflush, twalk, tread, twrite, tclunk, tremove}
use Rattle.messages.specs.Records.{tauth, tattach}
use Rattle.plain.specs.Records.{topen, tstat}
use Rattle.unix.specs.Records.{tcreate, twstat}
use Rattle.layouts.specs.Bodies.{Answer, accepted, refused}
use Rattle.numbers.specs.declared.Fault.{Fault}
use Rattle.unix_requests.specs.declared.Tmessage.{Tmessage}
use Rattle.unix_requests.specs.declared.Tmessage.TheVariants as M

abbrev pub type_t : Tmessage → ℕ
type_t (M.Version m) = 100
type_t (M.Auth m) = 102
type_t (M.Attach m) = 104
type_t (M.Flush m) = 108
type_t (M.Walk m) = 110
type_t (M.Open m) = 112
type_t (M.Create m) = 114
type_t (M.Read m) = 116
type_t (M.Write m) = 118
type_t (M.Clunk m) = 120
type_t (M.Remove m) = 122
type_t (M.Stat m) = 124
type_t (M.Wstat m) = 126

unfoldable pub layout_t : Tmessage → Layout
layout_t (M.Version m) = layout_tversion
layout_t (M.Auth m) = layout_tauth
layout_t (M.Attach m) = layout_tattach
layout_t (M.Flush m) = layout_tflush
layout_t (M.Walk m) = layout_twalk
layout_t (M.Open m) = layout_topen
layout_t (M.Create m) = layout_tcreate
layout_t (M.Read m) = layout_tread
layout_t (M.Write m) = layout_twrite
layout_t (M.Clunk m) = layout_tclunk
layout_t (M.Remove m) = layout_tremove
layout_t (M.Stat m) = layout_tstat
layout_t (M.Wstat m) = layout_twstat

unfoldable pub values_t : Tmessage → List Value
values_t (M.Version m) = tversion m
values_t (M.Auth m) = tauth m
values_t (M.Attach m) = tattach m
values_t (M.Flush m) = tflush m
values_t (M.Walk m) = twalk m
values_t (M.Open m) = topen m
values_t (M.Create m) = tcreate m
values_t (M.Read m) = tread m
values_t (M.Write m) = twrite m
values_t (M.Clunk m) = tclunk m
values_t (M.Remove m) = tremove m
values_t (M.Stat m) = tstat m
values_t (M.Wstat m) = twstat m

-- a body that was read, and where it ends; or its refusal
abbrev pub Tbody : Type 0
Tbody = Result (Tmessage × ℕ) Fault

-- a body seen as its number, its values and where it ends; or its refusal
unfoldable pub view_t : Tbody → Answer
view_t (Ok (m, n)) = accepted (type_t m) (values_t m) n
view_t (Err f) = refused f.0 f.1
