-- The outer invariant: scanning what is left answers what was asked. The inner one: what is left of the text is what all of it is.
use Rattle.std.specs.Prelude.{◌≤◌, ◌-◌, ◌≡◌, length, drop}
use Rattle.numbers.specs.Places.{rest_at}
use Rattle.fields.specs.Layouts.{read_many}
use Rattle.fields.proofs.Names.{Left, Same}
use Rattle.fields.proofs.scan_names.Given as goal

abbrev pub invariant-loop-i : goal.invariant-loop-i
invariant-loop-i l = (l.i ≤ l.len) × (length l.name ≡ l.len) × Same l.name l.i

abbrev pub decreases-loop-i : goal.decreases-loop-i
decreases-loop-i l = l.len - l.i

abbrev pub invariant-names : goal.invariant-names
invariant-names l = (l.at ≤ length l.s) × Left l.s l.at l.n (rest_at (length l.s) (read_many l.count l.from (drop l.from l.s)))

abbrev pub decreases-names : goal.decreases-names
decreases-names l = l.n
