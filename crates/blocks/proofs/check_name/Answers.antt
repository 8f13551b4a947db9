-- A short plain name passes; any other is checked as strings are.
use Rattle.blocks.proofs.PackLaws.{short_name}
use Rattle.blocks.proofs.check_name.Goals as goal

pub returns-then-short_plain : goal.returns-then-short_plain
returns-then-short_plain c =
    short_name c.within.ensures c.if-within.true c.short_plain.ensures c.if-short_plain.true
