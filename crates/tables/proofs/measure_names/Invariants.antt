-- The invariant: the names before this one are measured, whoever measures the others.
use Rattle.tables.specs.TableLaws.{MeasuredTo}
use Rattle.tables.proofs.measure_names.Given as goal

abbrev pub invariant-loop-start : goal.invariant-loop-start
invariant-loop-start l = MeasuredTo l.names l.lent l.initial.at l.start-index l.at
