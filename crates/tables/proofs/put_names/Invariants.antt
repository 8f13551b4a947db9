-- The invariant: the names before this one are put, whoever puts the others.
use Rattle.tables.specs.TableLaws.{PutTo}
use Rattle.tables.proofs.put_names.Given as goal

abbrev pub invariant-loop-start : goal.invariant-loop-start
invariant-loop-start l = PutTo l.names l.lent l.initial.out l.initial.at l.start-index l.out l.at
