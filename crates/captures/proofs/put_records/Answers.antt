use native.Mathlib.Omega.{arith}
use Rattle.captures.proofs.StretchLaws.{next, stopped, at_end_lem, frames_stop, frames_end}
use Rattle.captures.proofs.Loops.{put_begins, row_there, room_there, put_turn, put_ends}
use Rattle.captures.proofs.put_records.Goals as goal

pub loop-at-init : goal.loop-at-init
loop-at-init c =
    let a = c.args in
    put_begins a.stretch.now a.times.now a.out.now c.requires

pub returns-in_default : goal.returns-in_default
returns-in_default c =
    let a = c.args in
    let l = c.loop-at in
    let x = stopped a.stretch.now l.at c.loop-at-test.true c.frame_end.ensures c.in_default.is in
    put_ends a.stretch.now a.times.now a.out.now l.out l.at l.to l.i l.invariant (frames_stop a.stretch.now l.at x)

pub overflow_sub-len : goal.overflow_sub-len
overflow_sub-len c =
    let a = c.args in
    let l = c.loop-at in
    let x = next a.stretch.now l.at l.invariant.within c.frame_end.ensures c.in-Ok.is in
    omega (arith, x.held, x.on, x.seven)

pub bounds-times-i : goal.bounds-times-i
bounds-times-i c =
    let a = c.args in
    let l = c.loop-at in
    let x = next a.stretch.now l.at l.invariant.within c.frame_end.ensures c.in-Ok.is in
    omega (arith, row_there a.stretch.now a.times.now a.out.now l.out l.at l.to l.i l.invariant x)

pub put_record-requires : goal.put_record-requires
put_record-requires c =
    let a = c.args in
    let l = c.loop-at in
    let x = next a.stretch.now l.at l.invariant.within c.frame_end.ensures c.in-Ok.is in
    (omega (arith, x.held, x.on), room_there a.stretch.now a.times.now a.out.now l.out l.at l.to l.i l.invariant x)

pub overflow_add-to : goal.overflow_add-to
overflow_add-to c =
    let a = c.args in
    let l = c.loop-at in
    let x = next a.stretch.now l.at l.invariant.within c.frame_end.ensures c.in-Ok.is in
    omega (arith, room_there a.stretch.now a.times.now a.out.now l.out l.at l.to l.i l.invariant x)

pub overflow_add-to-in-loop-at : goal.overflow_add-to-in-loop-at
overflow_add-to-in-loop-at c =
    let a = c.args in
    let l = c.loop-at in
    let x = next a.stretch.now l.at l.invariant.within c.frame_end.ensures c.in-Ok.is in
    omega (arith, room_there a.stretch.now a.times.now a.out.now l.out l.at l.to l.i l.invariant x)

pub loop-at-smaller : goal.loop-at-smaller
loop-at-smaller c =
    let a = c.args in
    let l = c.loop-at in
    let x = next a.stretch.now l.at l.invariant.within c.frame_end.ensures c.in-Ok.is in
    omega (arith, x.held, x.on, x.seven)

pub loop-at-preserved : goal.loop-at-preserved
loop-at-preserved c =
    let a = c.args in
    let l = c.loop-at in
    let x = next a.stretch.now l.at l.invariant.within c.frame_end.ensures c.in-Ok.is in
    put_turn a.stretch.now a.times.now a.out.now l.out l.at l.to l.i l.invariant x c.put_record.ensures

pub returns : goal.returns
returns c =
    let a = c.args in
    let l = c.loop-at in
    put_ends a.stretch.now a.times.now a.out.now l.out l.at l.to l.i l.invariant (frames_end a.stretch.now l.at (at_end_lem a.stretch.now l.at (omega arith)))
