-- No more is held than there is room for.
use Rattle.std.proofs.Common.{◌≤◌, length}
use Rattle.questions.proofs.next_line.Given as goal

abbrev pub invariant-loop : goal.invariant-loop
invariant-loop l = l.n ≤ length l.line
