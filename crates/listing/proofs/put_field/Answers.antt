-- The figures, then what stands after them.
use Rattle.listing.specs.TextLaws.{field_put}
use Rattle.listing.proofs.put_field.Goals as goal

pub returns : goal.returns
returns c =
    field_put c.put_decimal-q.ensures c.put_text.ensures
