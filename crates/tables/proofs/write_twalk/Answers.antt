-- Too many names; or measured, settled, put, and the header put before them.
use Rattle.std.proofs.lemmas.Result.{err_from_is_err_and}
use Rattle.std.specs.Prelude.{refl}
use Rattle.numbers.proofs.Numbers.{bytes_all}
use Rattle.tables.specs.TableLaws.{twalk_long, twalk_put}
use Rattle.tables.proofs.write_twalk.Goals as goal

pub returns-in_err-at : goal.returns-in_err-at
returns-in_err-at c = let e = err_from_is_err_and c.from_residual.result c.from_residual.ensures.1 in rw (e.1, e.2) (twalk_long c.check_count.ensures c.in_err-at.was)

pub returns : goal.returns
returns c =
    let b = bytes_all c.args.lent.now (λ i. (c.type_inv.lent i).fits) in
    twalk_put b c.check_count.ensures c.in_ok-at.was refl c.advanced-first.ensures c.measure_names-end.ensures c.begun-start.ensures c.put_twalk-past.ensures c.put_header.ensures
