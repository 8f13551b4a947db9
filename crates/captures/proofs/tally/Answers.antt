use native.Mathlib.Omega.{arith}
use mathlib.Core.Path.{◌≡◌, ◌∙◌}
use Prim.Native.Nat.{◌+◌}
use Rattle.std.proofs.lemmas.Result.{err_from_is_err_and}
use Rattle.captures.specs.Steps.{is_big}
use Rattle.captures.proofs.FileLaws.{stands, none_stands, none_left, tally_turn, tally_stop, tally_end}
use Rattle.captures.proofs.tally.Goals as goal

pub returns-in_err-size : goal.returns-in_err-size
returns-in_err-size c =
    let a = c.args in
    let l = c.loop-at in
    let x = none_stands (is_big a.order) a.file.now l.at c.loop-at-test.true c.frame_size.ensures c.in_err-size.was in
    let e = err_from_is_err_and c.from_residual.result c.from_residual.ensures.1 in
    rw (e.1, e.2, x.0) (tally_stop (is_big a.order) a.file.now l.at x.1 l.bytes l.frames ∙ l.invariant.3)

pub overflow_add-bytes : goal.overflow_add-bytes
overflow_add-bytes c =
    let a = c.args in
    let l = c.loop-at in
    let x = stands (is_big a.order) a.file.now l.at c.frame_size.ensures c.in_ok-size.was in
    omega (arith, x.held, l.invariant.0, l.invariant.1, l.invariant.2)

pub overflow_add-at : goal.overflow_add-at
overflow_add-at c =
    let a = c.args in
    let l = c.loop-at in
    let x = stands (is_big a.order) a.file.now l.at c.frame_size.ensures c.in_ok-size.was in
    omega (arith, x.held)

pub overflow_add-at-in-loop-at : goal.overflow_add-at-in-loop-at
overflow_add-at-in-loop-at c =
    let a = c.args in
    let l = c.loop-at in
    let x = stands (is_big a.order) a.file.now l.at c.frame_size.ensures c.in_ok-size.was in
    omega (arith, x.held, l.invariant.0, l.invariant.1, l.invariant.2)

pub loop-at-preserved : goal.loop-at-preserved
loop-at-preserved c =
    let a = c.args in
    let l = c.loop-at in
    let x = stands (is_big a.order) a.file.now l.at c.frame_size.ensures c.in_ok-size.was in
    let h = x.held in
    let k = l.invariant.1 in
    let m = l.invariant.2 in
    let n : l.at + (16 + c.in_ok-size.size) ≡ l.at + 16 + c.in_ok-size.size = omega arith in
    (omega arith, omega arith, omega arith, rw n (tally_turn (is_big a.order) a.file.now l.at x l.bytes l.frames ∙ l.invariant.3))

pub returns : goal.returns
returns c =
    let a = c.args in
    let l = c.loop-at in
    tally_end (is_big a.order) a.file.now l.at (none_left (is_big a.order) a.file.now l.at (omega arith)) l.bytes l.frames ∙ l.invariant.3
