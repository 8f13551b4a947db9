-- An output that is too short, and the three numbers one after another.
use Rattle.framing.proofs.WritingLaws.{head_full, head_put}
use Rattle.framing.proofs.put_header.Goals as goal

pub returns-then-out-lt-HEADER : goal.returns-then-out-lt-HEADER
returns-then-out-lt-HEADER c = head_full c.in_ok-n.was c.if-out-lt-HEADER.true

pub returns : goal.returns
returns c =
    head_put c.in_ok-n.was c.if-out-lt-HEADER.false c.put_num-after_size.ensures c.put_u8-after_type.ensures c.put_u16.ensures
