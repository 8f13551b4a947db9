-- Written by tools/messages from its table of messages.
-- Refused, the lent values are as they were; accepted, the record's stand at their front.
use Rattle.std.specs.Prelude.{refl}
use Rattle.std.proofs.lemmas.Result.{err_from_is_err_and}
use Rattle.flat.specs.FlatLaws.{flat_known, flat_refused, fields_skipped}
use Rattle.plain_flat_replies.proofs.files.read_ropen.Goals as goal

pub returns-in_err-end : goal.returns-in_err-end
returns-in_err-end c =
    let e = err_from_is_err_and c.from_residual.result c.from_residual.ensures.1 in
    rw (e.1, e.2) (flat_refused (fields_skipped refl refl c.skip.ensures refl) c.in_err-end.was)

pub returns : goal.returns
returns c =
    flat_known (fields_skipped refl refl c.skip.ensures c.read_ropen-r.ensures.values) c.in_ok-end.was c.flat_ropen.ensures
