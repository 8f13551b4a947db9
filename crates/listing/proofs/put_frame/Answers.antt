-- Six fields, each put where the one before it ends.
use Rattle.listing.specs.TextLaws.{frame_put}
use Rattle.listing.proofs.put_frame.Goals as goal

pub returns : goal.returns
returns c =
    let l = c.args.l in
    frame_put l c.put_field-a.ensures c.put_field-b.ensures c.put_field-c.ensures c.put_field-d.ensures c.put_field-e.ensures c.put_tail.ensures
