-- 9P2000.u's own layouts, and its tables (F16.1). The others are 9P2000's and every dialect's, and Tauth and Tattach are 9P2000.L's.
use Rattle.std.specs.Prelude.{List, [], ◌∷◌, ◌++◌}
use Rattle.fields.specs.Layouts.{Shape, fixed, worded, boxed, Layout}
use Rattle.layouts.specs.Tables.{n1, n4, s, Row, row, layout_tversion, layout_rversion, layout_tauth, layout_rauth, layout_tattach, layout_rattach, layout_tflush, layout_rflush, layout_twalk, layout_rwalk, layout_tread, layout_rread, layout_twrite, layout_rwrite, layout_tclunk, layout_rclunk, layout_tremove, layout_rremove}
use Rattle.layouts.specs.Plain as P
use Rattle.layouts.specs.Plain.{layout_topen, layout_ropen, layout_rcreate, layout_tstat, layout_rwstat}

-- after the fields of 9P2000's stat: extension n_uid[4] n_gid[4] n_muid[4] (F16.2)
abbrev pub more_shape : List Shape
more_shape = worded ∷ fixed 4 ∷ fixed 4 ∷ fixed 4 ∷ []

abbrev pub stat_shape : List Shape
stat_shape = P.stat_shape ++ more_shape

abbrev pub layout_rerror : Layout
layout_rerror = s ∷ n4 ∷ []

abbrev pub layout_tcreate : Layout
layout_tcreate = n4 ∷ s ∷ n4 ∷ n1 ∷ s ∷ []

abbrev pub layout_rstat : Layout
layout_rstat = boxed stat_shape ∷ []

abbrev pub layout_twstat : Layout
layout_twstat = n4 ∷ boxed stat_shape ∷ []

-- ---- a row for each type that a direction knows

abbrev pub table_t : List Row
table_t =
    row 100 layout_tversion ∷ row 102 layout_tauth ∷ row 104 layout_tattach ∷ row 108 layout_tflush ∷ row 110 layout_twalk ∷ row 112 layout_topen ∷ row 114 layout_tcreate
    ∷ row 116 layout_tread ∷ row 118 layout_twrite ∷ row 120 layout_tclunk ∷ row 122 layout_tremove ∷ row 124 layout_tstat ∷ row 126 layout_twstat ∷ []

abbrev pub table_r : List Row
table_r =
    row 101 layout_rversion ∷ row 103 layout_rauth ∷ row 105 layout_rattach ∷ row 107 layout_rerror ∷ row 109 layout_rflush ∷ row 111 layout_rwalk ∷ row 113 layout_ropen
    ∷ row 115 layout_rcreate ∷ row 117 layout_rread ∷ row 119 layout_rwrite ∷ row 121 layout_rclunk ∷ row 123 layout_rremove ∷ row 125 layout_rstat ∷ row 127 layout_rwstat ∷ []
