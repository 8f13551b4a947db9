-- The size is cut off, it is below four, or what follows it says.
use Rattle.std.proofs.lemmas.Result.{err_from_is_err_and}
use Rattle.framing.specs.Headers.{HeadIs}
use Rattle.framing.proofs.HeaderLaws.{size_below, size_cut, head_on}
use Rattle.framing.proofs.read_header.Goals as goal

pub returns-in_err-size : goal.returns-in_err-size
unfolding HeadIs
returns-in_err-size c = let e = err_from_is_err_and c.from_residual.result c.from_residual.ensures.1 in rw (e.1, e.2) (size_cut c.read_u32-size.ensures c.in_err-size.was)

pub returns-then-size-lt-LEAST_SIZE : goal.returns-then-size-lt-LEAST_SIZE
unfolding HeadIs
returns-then-size-lt-LEAST_SIZE c =
    size_below c.read_u32-size.ensures c.in_ok-size.was c.if-size-lt-LEAST_SIZE.true

pub returns : goal.returns
returns c =
    head_on c.read_u32-size.ensures c.in_ok-size.was c.if-size-lt-LEAST_SIZE.false c.min-own.ensures _ c.type_and_tag.ensures
