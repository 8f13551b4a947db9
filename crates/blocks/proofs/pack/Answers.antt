-- How many fit, and then these are put.
use native.Mathlib.Omega.{arith}
use Rattle.blocks.proofs.PackLaws.{ready_within, pack_put}
use Rattle.blocks.proofs.pack.Goals as goal

pub put_entries-requires : goal.put_entries-requires
put_entries-requires c = ready_within _ (omega arith) c.fitting.ensures c.in_ok-fit.was

pub returns : goal.returns
returns c = pack_put _ _ c.min-room.ensures c.fitting.ensures c.in_ok-fit.was c.put_entries.ensures
