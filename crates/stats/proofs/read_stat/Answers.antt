-- Opened, then its fields; refused, a blank stat.
use Rattle.numbers.proofs.Numbers.{bytes_all}
use Rattle.fields.proofs.BoxLaws.{box_read, box_refused}
use Rattle.stats.specs.StatLaws.{blank_read}
use Rattle.stats.proofs.read_stat.Goals as goal

pub returns-in_default : goal.returns-in_default
returns-in_default c =
    let b = bytes_all c.args.s.now (λ i. (c.type_inv.s i).fits) in
    blank_read c.no_stat.ensures (box_refused c.open_stat-open.ensures b c.read_fields-r.ensures c.in_default.is)

pub returns : goal.returns
returns c =
    let b = bytes_all c.args.s.now (λ i. (c.type_inv.s i).fits) in
    box_read c.open_stat-open.ensures b c.read_fields-r.ensures c.in-Ok.is
