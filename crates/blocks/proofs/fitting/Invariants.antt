-- The invariant: the entries before this one fit, and are as many.
use Rattle.std.specs.Prelude.{◌≡◌}
use Rattle.blocks.specs.PackLaws.{FitTo}
use Rattle.blocks.proofs.fitting.Given as goal

abbrev pub invariant-loop-row : goal.invariant-loop-row
invariant-loop-row l = (l.fit.entries ≡ l.row-index) × FitTo l.names l.room l.entries l.fit.entries l.fit.bytes
