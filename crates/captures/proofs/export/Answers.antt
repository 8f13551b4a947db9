-- 12 or 13; 25; 24; 11; or the file.
use native.Mathlib.Omega.{arith}
use Rattle.std.proofs.lemmas.Result.{err_from_is_err_and}
use Rattle.captures.proofs.WayLaws.{room_yes, room_no, export_cut, export_rows, export_room, export_ready, export_held}
use borrow.Author.Rules.{rules}
use Rattle.captures.proofs.export.Goals as goal

pub returns-in_err-frames : goal.returns-in_err-frames
returns-in_err-frames c =
    let a = c.args in
    let e = err_from_is_err_and c.from_residual.result c.from_residual.ensures.1 in
    rw (e.1, e.2) (export_cut a.stretch.now a.times.now a.out.now c.count.ensures c.in_err-frames.was)

pub returns-then-times-frames : goal.returns-then-times-frames
returns-then-times-frames c =
    let a = c.args in
    export_rows a.stretch.now a.times.now a.out.now c.count.ensures c.in_ok-frames.was c.if-times-frames.true

pub returns-then-not-room_for : goal.returns-then-not-room_for
returns-then-not-room_for c =
    let a = c.args in
    export_room a.stretch.now a.times.now a.out.now c.count.ensures c.in_ok-frames.was c.if-times-frames.false (room_no c.room_for.ensures (c.if-not-room_for.true))

pub put_records-requires : goal.put_records-requires
put_records-requires c =
    let a = c.args in
    export_ready a.stretch.now a.times.now a.out.now c.count.ensures c.in_ok-frames.was c.if-times-frames.false (room_yes c.room_for.ensures (c.if-not-room_for.false)) c.put_head.ensures (search rules)

pub returns : goal.returns
returns c =
    let a = c.args in
    export_held a.stretch.now a.times.now a.out.now c.count.ensures c.in_ok-frames.was c.if-times-frames.false (room_yes c.room_for.ensures (c.if-not-room_for.false)) c.put_head.ensures c.put_records.ensures (omega arith)
