-- What is counted is this entry's index, so the laws of the entry at that index serve.
use Rattle.std.specs.Prelude.{[], get_or}
use native.Mathlib.Omega.{arith}
use Rattle.std.proofs.lemmas.Result.{err_from_is_err_and}
use Rattle.blocks.proofs.PackLaws.{fit_next, fit_full, fit_bad, fit_all, entry_passes, entry_fails}
use Rattle.blocks.proofs.fitting.Goals as goal

pub returns-in_err-check_name : goal.returns-in_err-check_name
returns-in_err-check_name c =
    let r = err_from_is_err_and c.from_residual.result c.from_residual.ensures.1 in
    let i = c.loop-row.invariant in
    rw (r.1, r.2) (fit_bad (rw (← i.0) at c.loop-row-test.true) i.1 (entry_fails c.args.names.now (get_or c.args.entries.now c.loop-row.fit.entries []) (rw (← i.0) at c.check_name.ensures) c.in_err-check_name.was))

pub overflow_add-size : goal.overflow_add-size
overflow_add-size c = omega (arith, (entry_passes c.args.names.now (get_or c.args.entries.now c.loop-row.row-index []) c.check_name.ensures c.in_ok-check_name.was).small)

pub returns-then-room-fit : goal.returns-then-room-fit
returns-then-room-fit c =
    let i = c.loop-row.invariant in
    fit_full (rw (← i.0) at c.loop-row-test.true) i.1 (entry_passes c.args.names.now (get_or c.args.entries.now c.loop-row.fit.entries []) (rw (← i.0) at c.check_name.ensures) c.in_ok-check_name.was) (rw (← i.0) at c.if-room-fit.true)

pub loop-row-preserved : goal.loop-row-preserved
loop-row-preserved c =
    let i = c.loop-row.invariant in
    (omega (arith, i.0), rw (← i.0) (fit_next (rw (← i.0) at c.loop-row-test.true) i.1 (entry_passes c.args.names.now (get_or c.args.entries.now c.loop-row.fit.entries []) (rw (← i.0) at c.check_name.ensures) c.in_ok-check_name.was) (rw (← i.0) at c.if-room-fit.false)))

pub returns : goal.returns
returns c = let i = c.loop-row.invariant in let x = i.0 in let l = i.1.count in fit_all (omega arith) i.1
