-- The frame's bytes end before both, or hold them.
use Rattle.std.proofs.lemmas.Result.{err_from_is_err_and}
use Rattle.framing.specs.Headers.{TypeTag}
use Rattle.framing.proofs.HeaderLaws.{tagged, untagged}
use Rattle.framing.proofs.type_and_tag.Goals as goal

pub returns-in_err-tag : goal.returns-in_err-tag
unfolding TypeTag
returns-in_err-tag c = let e = err_from_is_err_and c.from_residual.result c.from_residual.ensures.1 in rw (e.1, e.2) (untagged c.read_u8-ty.ensures c.read_u16-tag.ensures c.in_err-tag.was)

pub returns : goal.returns
unfolding TypeTag
returns c = tagged c.read_u8-ty.ensures c.read_u16-tag.ensures c.in_ok-tag.was
