-- The count is cut off, it is above the limit, its bytes are cut off, or all are held.
use Rattle.fields.proofs.Ways.{data_cut, data_limit, data_short, data_good}
use Rattle.fields.proofs.read_data.Goals as goal

pub returns-in_default : goal.returns-in_default
returns-in_default c = data_cut c.read_u32-count.ensures c.in_default.is

pub returns-then-len-gt-MOST_DATA : goal.returns-then-len-gt-MOST_DATA
returns-then-len-gt-MOST_DATA c =
    data_limit c.read_u32-count.ensures c.in-Ok.is c.if-len-gt-MOST_DATA.true

pub returns-then-not-within : goal.returns-then-not-within
returns-then-not-within c =
    data_short c.read_u32-count.ensures c.in-Ok.is c.if-len-gt-MOST_DATA.false c.within.ensures c.if-not-within.true

pub returns : goal.returns
returns c =
    data_good c.read_u32-count.ensures c.in-Ok.is c.if-len-gt-MOST_DATA.false c.within.ensures c.if-not-within.false
