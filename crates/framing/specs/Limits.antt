-- The one thing that reading asks of a record and its types don't say: its data is within the reading limit (F1.9).
use Rattle.std.specs.Prelude.{suc, ◌<◌, List, [], ◌∷◌}
use Rattle.fields.specs.Layouts.{Field, num, str, dat, strs, quids, boxed, Layout, most}
use Rattle.fields.specs.Values.{Value, len_of, first_of, others_of}

abbrev pub LimitedField : Field → Value → Type 0
LimitedField (num w) v = Unit {0}
LimitedField str v = Unit {0}
LimitedField dat v = len_of v < suc most
LimitedField strs v = Unit {0}
LimitedField quids v = Unit {0}
LimitedField (boxed b) v = Unit {0}

abbrev pub Limited : Layout → List Value → Type 0
Limited [] vs = Unit {0}
Limited (f ∷ fs) vs = LimitedField f (first_of vs) × Limited fs (others_of vs)
