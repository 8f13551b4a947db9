use Rattle.session.proofs.Ways.{path_unknown}
use Rattle.session.proofs.write_path.Goals as goal

pub returns : goal.returns
returns c = let a = c.args in path_unknown a.stretch.now a.s a.fid a.out.now (rw c.in_default.is at c.find.ensures)
