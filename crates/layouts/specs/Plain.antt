-- 9P2000's own layouts, and its tables (F14.1). The signs and the layouts that it shares with 9P2000.L are of Tables.antt.
use Rattle.std.specs.Prelude.{List, [], ◌∷◌, ◌++◌}
use Rattle.fields.specs.Layouts.{Shape, fixed, worded, boxed, Layout, q}
use Rattle.layouts.specs.Tables.{n1, n4, s, Row, row, layout_tversion, layout_rversion, layout_rauth, layout_rattach, layout_tflush, layout_rflush, layout_twalk, layout_rwalk, layout_tread, layout_rread, layout_twrite, layout_rwrite, layout_tclunk, layout_rclunk, layout_tremove, layout_rremove}

-- type[2] dev[4] qid mode[4] atime[4] mtime[4] length[8] name uid gid muid
abbrev pub stat_shape : List Shape
stat_shape = fixed 2 ∷ fixed 4 ∷ fixed 1 ∷ fixed 4 ∷ fixed 8 ∷ fixed 4 ∷ fixed 4 ∷ fixed 4 ∷ fixed 8 ∷ worded ∷ worded ∷ worded ∷ worded ∷ []

abbrev pub layout_tauth : Layout
layout_tauth = n4 ∷ s ∷ s ∷ []

abbrev pub layout_tattach : Layout
layout_tattach = n4 ∷ n4 ∷ s ∷ s ∷ []

abbrev pub layout_rerror : Layout
layout_rerror = s ∷ []

abbrev pub layout_topen : Layout
layout_topen = n4 ∷ n1 ∷ []

abbrev pub layout_ropen : Layout
layout_ropen = q ++ (n4 ∷ [])

abbrev pub layout_tcreate : Layout
layout_tcreate = n4 ∷ s ∷ n4 ∷ n1 ∷ []

abbrev pub layout_rcreate : Layout
layout_rcreate = q ++ (n4 ∷ [])

abbrev pub layout_tstat : Layout
layout_tstat = n4 ∷ []

abbrev pub layout_rstat : Layout
layout_rstat = boxed stat_shape ∷ []

abbrev pub layout_twstat : Layout
layout_twstat = n4 ∷ boxed stat_shape ∷ []

abbrev pub layout_rwstat : Layout
layout_rwstat = []

-- ---- a row for each type that a direction knows

abbrev pub table_t : List Row
table_t =
    row 100 layout_tversion ∷ row 102 layout_tauth ∷ row 104 layout_tattach ∷ row 108 layout_tflush ∷ row 110 layout_twalk ∷ row 112 layout_topen ∷ row 114 layout_tcreate
    ∷ row 116 layout_tread ∷ row 118 layout_twrite ∷ row 120 layout_tclunk ∷ row 122 layout_tremove ∷ row 124 layout_tstat ∷ row 126 layout_twstat ∷ []

abbrev pub table_r : List Row
table_r =
    row 101 layout_rversion ∷ row 103 layout_rauth ∷ row 105 layout_rattach ∷ row 107 layout_rerror ∷ row 109 layout_rflush ∷ row 111 layout_rwalk ∷ row 113 layout_ropen
    ∷ row 115 layout_rcreate ∷ row 117 layout_rread ∷ row 119 layout_rwrite ∷ row 121 layout_rclunk ∷ row 123 layout_rremove ∷ row 125 layout_rstat ∷ row 127 layout_rwstat ∷ []
