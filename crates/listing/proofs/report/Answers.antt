-- The room is long enough for the text of any input.
use native.Mathlib.Omega.{arith}
use Rattle.numbers.proofs.Numbers.{bytes_all}
use Rattle.listing.specs.RoomLaws.{reported}
use Rattle.listing.proofs.report.Goals as goal

pub returns : goal.returns
returns c =
    let b = bytes_all c.args.input.now (λ i. (c.type_inv.input i).fits) in
    reported b (omega arith) c.put_report.ensures c.position.ensures
