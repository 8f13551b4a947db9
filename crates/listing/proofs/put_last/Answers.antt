-- A word, then two figures with what separates them.
use Rattle.listing.specs.TextLaws.{last_put}
use Rattle.listing.proofs.put_last.Goals as goal

pub returns : goal.returns
returns c =
    last_put c.put_text-a.ensures c.put_field-b.ensures c.put_field.ensures
