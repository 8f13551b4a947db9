-- Written by tools/messages from crates/request_exports/proofs/sheafsledge_read_tframe/Answers.antt.
-- The header can't be read, or the body is read flat, and told beside its tag.
use mathlib.Core.Path.{refl, sym}
use lib.Seq.{length-take-le}
use Rattle.numbers.proofs.Numbers.{bytes_all}
use Rattle.framing.proofs.HeaderLaws.{head_yes}
use Rattle.stats.specs.Unix.{table_t}
use Rattle.exports.specs.FrameReading.{flat_requests, headless_read, request_read}
use Rattle.unix_exports.proofs.sheafsledge_unix_read_tframe.Goals as goal

pub slice_bounds-own-end : goal.slice_bounds-own-end
slice_bounds-own-end c = sym (length-take-le _ _ (head_yes _ c.read_header.ensures c.in-Ok.is).held)

pub returns-in-Ok : goal.returns-in-Ok
returns-in-Ok c =
    let b = bytes_all c.args.bytes.now (λ i. (c.type_inv.bytes i).fits) in
    request_read table_t _ c.read_header.ensures b c.in-Ok.is c.read_flat-next.ensures c.outcome_of.ensures

pub returns-in-Err : goal.returns-in-Err
returns-in-Err c =
    headless_read (flat_requests table_t) _ c.read_header.ensures c.in-Err.is c.ended.ensures refl
