-- A text is the bytes of a span that shows all of it.
use Rattle.listing.specs.TextLaws.{text_put}
use Rattle.listing.proofs.put_text.Goals as goal

pub returns : goal.returns
returns c = text_put c.put_bytes.ensures
