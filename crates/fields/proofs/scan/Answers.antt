-- Past the end there are as many strings as at the end.
use Rattle.fields.proofs.Ways.{many_from}
use Rattle.fields.proofs.scan.Goals as goal

pub returns : goal.returns
returns c = many_from c.min.ensures c.scan_names.ensures
