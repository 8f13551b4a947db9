-- The invariant: the extremes so far are those of the bytes so far.
use Rattle.std.proofs.Common.{◌≡◌, min, max, fold, take}
use Rattle.utf8.proofs.extremes_of.Given as goal

abbrev pub invariant-loop-b : goal.invariant-loop-b
invariant-loop-b l = (l.low ≡ fold min 255 (take l.b-index l.s)) × (l.high ≡ fold max 0 (take l.b-index l.s))
