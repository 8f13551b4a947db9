-- Refused, or the head is put and then the qids.
use Rattle.std.proofs.lemmas.Result.{err_from_is_err_and}
use Rattle.tables.specs.QidLaws.{rwalk_not, rwalk_put}
use Rattle.tables.proofs.write_rwalk.Goals as goal

pub returns-in_err-end : goal.returns-in_err-end
returns-in_err-end c =
    let a = c.args in
    let e = err_from_is_err_and c.from_residual.result c.from_residual.ensures.1 in rw (e.1, e.2) (rwalk_not a.tag.0 a.qids.now a.out.now c.rwalk_past.ensures c.in_err-end.was)

pub returns : goal.returns
returns c =
    let a = c.args in
    rwalk_put a.tag.0 a.qids.now a.out.now c.rwalk_past.ensures c.in_ok-end.was c.put_header.ensures c.put_u16.ensures c.put_qids.ensures
