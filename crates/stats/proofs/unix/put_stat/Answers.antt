-- Its count, its size, the fields of 9P2000's stat, those after them.
use mathlib.Core.Path.{refl}
use Rattle.laying.proofs.BoxLaws.{cells_done, put_amount}
use Rattle.stats.specs.Appending.{put_then}
use Rattle.stats.specs.StatLaws.{stat_put}
use Rattle.stats.proofs.unix.put_stat.Goals as goal

pub returns : goal.returns
returns c =
    stat_put c.size_of-size.ensures c.put_num-count.ensures c.put_num-start.ensures
    (put_then refl c.put_fields-plain.ensures (put_then refl c.put_text-extension.ensures (put_amount c.put_u32-n_uid.ensures (put_amount c.put_u32-n_gid.ensures (put_amount c.put_u32.ensures cells_done)))))
