-- In neither order; broken; too few rows; too little room; or all of it taken.
use Rattle.std.proofs.lemmas.Result.{err_from_is_err_and}
use Rattle.captures.proofs.WayLaws.{some_order, no_order, order_long, import_none, import_refused, import_rows, import_room, import_ready, import_held}
use Rattle.captures.proofs.import.Goals as goal

pub returns-in_default : goal.returns-in_default
returns-in_default c = import_none _ _ _ (no_order _ c.order_of.ensures c.in_default.is)

pub tally-requires : goal.tally-requires
tally-requires c = order_long _ (some_order _ c.order_of.ensures c.in-Some.is)

pub returns-in_err-told : goal.returns-in_err-told
returns-in_err-told c =
    let e = err_from_is_err_and c.from_residual.result c.from_residual.ensures.1 in
    rw (e.1, e.2) (import_refused _ _ _ (some_order _ c.order_of.ensures c.in-Some.is) c.tally.ensures c.in_err-told.was)

pub returns-then-times-told : goal.returns-then-times-told
returns-then-times-told c =
    import_rows _ _ _ (some_order _ c.order_of.ensures c.in-Some.is) c.tally.ensures c.in_ok-told.was c.if-times-told.true

pub returns-then-out-told : goal.returns-then-out-told
returns-then-out-told c =
    import_room _ _ _ (some_order _ c.order_of.ensures c.in-Some.is) c.tally.ensures c.in_ok-told.was c.if-times-told.false c.if-out-told.true

pub take_packets-requires : goal.take_packets-requires
take_packets-requires c =
    import_ready _ _ _ (some_order _ c.order_of.ensures c.in-Some.is) c.tally.ensures c.in_ok-told.was c.if-times-told.false c.if-out-told.false

pub returns : goal.returns
returns c =
    import_held _ _ _ (some_order _ c.order_of.ensures c.in-Some.is) c.tally.ensures c.in_ok-told.was c.if-times-told.false c.if-out-told.false c.take_packets.ensures
