use Rattle.std.proofs.Common.{arith}
use Rattle.std.proofs.lemmas.Grind.{common_steps}
use Rattle.utf8.proofs.Texts.{least_is, greatest_is}
use Rattle.utf8.proofs.extremes_of.Goals as goal

pub returns : goal.returns
returns c =
    let s = c.args.s.now in
    (grind (arith, common_steps, least_is s), grind (arith, common_steps, greatest_is s))
