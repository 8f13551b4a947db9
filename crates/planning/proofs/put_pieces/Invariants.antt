-- The invariant: what is left ends where the write does, and with the pieces that are still to come the rows are what they shall be.
use Rattle.std.proofs.Common.{◌≡◌, ◌+◌, ◌-◌, length}
use lib.Seq.{sets}
use Rattle.planning.specs.Plans.{cut}
use Rattle.planning.proofs.put_pieces.Given as goal

abbrev pub invariant-loop-row : goal.invariant-loop-row
invariant-loop-row l =
    (l.at + l.left ≡ l.first + l.len) × (sets l.row-items l.row-index (cut l.most (length l.fn.rows - l.row-index) l.at l.left) ≡ cut l.most (length l.fn.rows) l.first l.len)
