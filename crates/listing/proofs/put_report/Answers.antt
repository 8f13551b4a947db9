-- The input is too long, or its listing is put.
use Rattle.listing.specs.ListLaws.{too_long_lem, all_listed}
use Rattle.listing.proofs.put_report.Goals as goal

pub returns-then-input-gt65536 : goal.returns-then-input-gt65536
returns-then-input-gt65536 c = too_long_lem c.if-input-gt65536.true c.put_too_long.ensures

pub returns : goal.returns
returns c = all_listed c.if-input-gt65536.false c.put_header-p.ensures c.put_lines.ensures
