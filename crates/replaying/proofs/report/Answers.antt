-- The room is long enough for the text of any file.
use native.Mathlib.Omega.{arith}
use Rattle.numbers.proofs.Numbers.{bytes_all}
use Rattle.replaying.proofs.ReplayLaws.{replay_reported}
use Rattle.replaying.proofs.report.Goals as goal

pub returns : goal.returns
returns c = let b = bytes_all c.args.file.now (λ i. (c.type_inv.file i).fits) in replay_reported b (omega arith) c.put_replay.ensures c.position.ensures
