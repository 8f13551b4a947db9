-- Why there is no extent, or its numbers.
use Rattle.std.proofs.lemmas.Result.{err_from_is_err_and}
use Rattle.sealing.specs.TrailerLaws.{put_none}
use Rattle.sealing.proofs.write_trailer.Goals as goal

pub returns-in_err-extent : goal.returns-in_err-extent
returns-in_err-extent c = let e = err_from_is_err_and c.from_residual.result c.from_residual.ensures.1 in rw (e.1, e.2) (put_none _ c.measure.ensures c.in_err-extent.was)
