-- The Rwalk, and the others.
use Rattle.events.proofs.Ways.{walk_qids, no_qids}
use Rattle.events.proofs.qids_in.Goals as goal

pub returns-in-Walk : goal.returns-in-Walk
returns-in-Walk c = walk_qids c.in-Walk.is

pub returns-in_default : goal.returns-in_default
returns-in_default c = no_qids c.args.m c.in_default.not-Walk
