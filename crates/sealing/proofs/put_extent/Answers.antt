-- Too many bytes to tell, no room, or three numbers one after another.
use Rattle.sealing.specs.TrailerLaws.{put_long, put_crowded, put_three}
use Rattle.sealing.proofs.put_extent.Goals as goal

pub returns-then-e-gt-MOST_BYTES : goal.returns-then-e-gt-MOST_BYTES
returns-then-e-gt-MOST_BYTES c = put_long _ c.if-e-gt-MOST_BYTES.true

pub returns-then-out-lt-ROOM : goal.returns-then-out-lt-ROOM
returns-then-out-lt-ROOM c = put_crowded _ c.if-e-gt-MOST_BYTES.false c.if-out-lt-ROOM.true

pub returns : goal.returns
returns c = put_three _ c.if-e-gt-MOST_BYTES.false c.if-out-lt-ROOM.false c.put_num-a.ensures c.put_num-b.ensures c.put_num.ensures
