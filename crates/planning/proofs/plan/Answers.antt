-- Refused before the table is looked at; too few rows; or the pieces put.
use Rattle.std.proofs.Common.{arith, ap, length-take-le}
use Rattle.std.specs.Result.{is_err}
use Rattle.std.proofs.lemmas.Result.{err_from_is_err_and}
use Rattle.planning.proofs.PlanLaws.{good, planned_refused, planned_full, planned_fits}
use Rattle.planning.proofs.plan.Goals as goal

pub returns-in_err-agree : goal.returns-in_err-agree
returns-in_err-agree c =
    let a = c.args in
    let e = err_from_is_err_and c.from_residual.result c.from_residual.ensures.1 in
    rw (e.1, e.2) (planned_refused a.first a.len a.msize a.table.now c.agree.ensures c.in_err-agree.was)

pub returns-then-table-n : goal.returns-then-table-n
returns-then-table-n c =
    let a = c.args in
    let g = good a.first a.len a.msize c.agree.ensures (ap is_err c.in_ok-agree.was) in
    planned_full a.first a.len a.msize a.table.now g c.most_data-most.ensures c.fewest-n.ensures (omega arith)

pub returns : goal.returns
returns c =
    let a = c.args in
    let g = good a.first a.len a.msize c.agree.ensures (ap is_err c.in_ok-agree.was) in
    planned_fits a.first a.len a.msize a.table.now g c.most_data-most.ensures c.fewest-n.ensures (omega arith) (rw (c.put_pieces.ensures, length-take-le _ _ c.if-table-n.false))
