-- It fits and is put, or does not fit.
use Rattle.places.proofs.PathLaws.{path_put, path_no_room}
use Rattle.places.proofs.write_path.Goals as goal

pub returns-then-fits : goal.returns-then-fits
returns-then-fits c = path_put c.fits.ensures c.if-fits.true c.put_path-n.ensures.0 c.put_path-n.ensures.1

pub returns : goal.returns
returns c = path_no_room c.fits.ensures c.if-fits.false
