-- The path of the older place is put, and then the name. The measure is the place.
use Rattle.places.proofs.Places.+put_path.Given as goal

abbrev pub decreases-put_path : goal.decreases-put_path
decreases-put_path l = l.place
