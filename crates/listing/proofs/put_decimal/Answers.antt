-- The figures that were made, put as text.
use native.Mathlib.Omega.{arith}
use Rattle.listing.specs.TextLaws.{decimal_put}
use Rattle.listing.proofs.put_decimal.Goals as goal

pub returns : goal.returns
returns c =
    decimal_put _ _ _ c.decimal-len.ensures.len (omega arith) c.decimal-len.ensures.digits c.put_text.ensures
