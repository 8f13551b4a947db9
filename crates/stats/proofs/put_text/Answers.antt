use Rattle.laying.proofs.BoxLaws.{cells_done, put_words}
use Rattle.stats.proofs.put_text.Goals as goal

pub returns : goal.returns
returns c = put_words c.put_num-q.ensures c.put_bytes.ensures cells_done
