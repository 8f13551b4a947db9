-- The invariant: the entries before the i-th are put, one after the other.
use Rattle.std.specs.Prelude.{◌≡◌, length}
use Rattle.blocks.specs.PackLaws.{PutTo}
use Rattle.blocks.proofs.put_entries.Given as goal

abbrev pub invariant-loop-row : goal.invariant-loop-row
invariant-loop-row l = (length l.out ≡ length l.initial.out) × PutTo l.names l.entries l.row-index l.at l.initial.out l.out
