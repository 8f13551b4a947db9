use native.Mathlib.Omega.{arith}
use Rattle.captures.specs.Steps.{is_big}
use Rattle.captures.proofs.FileLaws.{stands, none_stands, none_left, nothing_broken, nothing_left}
use Rattle.captures.proofs.Loops.{row_left, room_left, take_turn, take_ends}
use Rattle.captures.proofs.take_packets.Goals as goal

pub returns-in_default : goal.returns-in_default
returns-in_default c =
    let a = c.args in
    let l = c.loop-at in
    let x = none_stands (is_big a.order) a.file.now l.at c.loop-at-test.true c.frame_size.ensures c.in_default.is in
    take_ends (is_big a.order) a.file.now a.out.now a.times.now l.out l.times l.at l.to l.i l.invariant (nothing_broken (is_big a.order) a.file.now l.at x.1) c.requires

pub number-seconds-requires : goal.number-seconds-requires
number-seconds-requires c =
    let a = c.args in
    let l = c.loop-at in
    let x = stands (is_big a.order) a.file.now l.at c.frame_size.ensures c.in-Ok.is in
    omega (arith, x.held, x.seven, l.invariant.within)

pub number-micros-requires : goal.number-micros-requires
number-micros-requires c =
    let a = c.args in
    let l = c.loop-at in
    let x = stands (is_big a.order) a.file.now l.at c.frame_size.ensures c.in-Ok.is in
    omega (arith, x.held, x.seven, l.invariant.within)

pub bounds-times-i : goal.bounds-times-i
bounds-times-i c =
    let a = c.args in
    let l = c.loop-at in
    let x = stands (is_big a.order) a.file.now l.at c.frame_size.ensures c.in-Ok.is in
    row_left (is_big a.order) a.file.now a.out.now a.times.now l.out l.times l.at l.to l.i l.invariant x

pub overflow_add-to : goal.overflow_add-to
overflow_add-to c =
    let a = c.args in
    let l = c.loop-at in
    let x = stands (is_big a.order) a.file.now l.at c.frame_size.ensures c.in-Ok.is in
    omega (arith, room_left (is_big a.order) a.file.now a.out.now a.times.now l.out l.times l.at l.to l.i l.invariant x)

pub overflow_add-at-in-loop-at : goal.overflow_add-at-in-loop-at
overflow_add-at-in-loop-at c =
    let a = c.args in
    let l = c.loop-at in
    let x = stands (is_big a.order) a.file.now l.at c.frame_size.ensures c.in-Ok.is in
    omega (arith, x.held, x.seven, l.invariant.within)

pub loop-at-preserved : goal.loop-at-preserved
loop-at-preserved c =
    let a = c.args in
    let l = c.loop-at in
    let x = stands (is_big a.order) a.file.now l.at c.frame_size.ensures c.in-Ok.is in
    take_turn (is_big a.order) a.file.now a.out.now a.times.now l.out l.times l.at l.to l.i l.invariant x c.number-seconds.ensures c.number-micros.ensures c.put_bytes.ensures

pub returns : goal.returns
returns c =
    let a = c.args in
    let l = c.loop-at in
    take_ends (is_big a.order) a.file.now a.out.now a.times.now l.out l.times l.at l.to l.i l.invariant (nothing_left (is_big a.order) a.file.now l.at (none_left (is_big a.order) a.file.now l.at (omega arith))) c.requires
