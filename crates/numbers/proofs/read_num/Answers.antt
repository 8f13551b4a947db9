-- Refused already, short, or held; and the number fits its width, since the slice holds bytes.
use Rattle.numbers.proofs.Numbers.{bytes_all}
use Rattle.numbers.proofs.PlaceLaws.{num_stays, num_held, num_short, num_fits}
use Rattle.numbers.proofs.read_num.Goals as goal

pub returns-in_default : goal.returns-in_default
returns-in_default c =
    let r = num_stays c.in_default.is in
    (r, num_fits (bytes_all c.args.s.now (λ i. (c.type_inv.s i).fits)) r)

pub returns-then-not-within : goal.returns-then-not-within
returns-then-not-within c =
    let r = num_short c.requires.0 c.in-Ok.is c.within.ensures c.if-not-within.true in
    (r, num_fits (bytes_all c.args.s.now (λ i. (c.type_inv.s i).fits)) r)

pub returns : goal.returns
returns c =
    let r = num_held c.in-Ok.is c.within.ensures c.if-not-within.false c.le_at.ensures in
    (r, num_fits (bytes_all c.args.s.now (λ i. (c.type_inv.s i).fits)) r)
