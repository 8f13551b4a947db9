-- The tables of F3.2: a layout for each message, and for each direction a row for each type that it knows (F3.1).
use Rattle.std.specs.Prelude.{ℕ, List, [], ◌∷◌, ◌++◌, true, false, eqb}
use Rattle.std.proofs.Math.Option.{Option, none, some}
use Rattle.fields.specs.Layouts.{Field, num, str, dat, strs, quids, Layout, q}

-- the signs of F3.2: numbers by their bytes, s, d, names, qids; q is of Layouts
abbrev pub n1 : Field
n1 = num 1

abbrev pub n2 : Field
n2 = num 2

abbrev pub n4 : Field
n4 = num 4

abbrev pub n8 : Field
n8 = num 8

abbrev pub s : Field
s = str

abbrev pub d : Field
d = dat

abbrev pub names : Field
names = strs

abbrev pub qids : Field
qids = quids

-- ---- the layouts, each under its record's name, since what a number leads to is for a dialect to say

abbrev pub layout_rlerror : Layout
layout_rlerror = n4 ∷ []

abbrev pub layout_tstatfs : Layout
layout_tstatfs = n4 ∷ []

abbrev pub layout_rstatfs : Layout
layout_rstatfs = n4 ∷ n4 ∷ n8 ∷ n8 ∷ n8 ∷ n8 ∷ n8 ∷ n8 ∷ n4 ∷ []

abbrev pub layout_tlopen : Layout
layout_tlopen = n4 ∷ n4 ∷ []

abbrev pub layout_rlopen : Layout
layout_rlopen = q ++ (n4 ∷ [])

abbrev pub layout_tlcreate : Layout
layout_tlcreate = n4 ∷ s ∷ n4 ∷ n4 ∷ n4 ∷ []

abbrev pub layout_rlcreate : Layout
layout_rlcreate = q ++ (n4 ∷ [])

abbrev pub layout_tsymlink : Layout
layout_tsymlink = n4 ∷ s ∷ s ∷ n4 ∷ []

abbrev pub layout_rsymlink : Layout
layout_rsymlink = q

abbrev pub layout_tmknod : Layout
layout_tmknod = n4 ∷ s ∷ n4 ∷ n4 ∷ n4 ∷ n4 ∷ []

abbrev pub layout_rmknod : Layout
layout_rmknod = q

abbrev pub layout_trename : Layout
layout_trename = n4 ∷ n4 ∷ s ∷ []

abbrev pub layout_rrename : Layout
layout_rrename = []

abbrev pub layout_treadlink : Layout
layout_treadlink = n4 ∷ []

abbrev pub layout_rreadlink : Layout
layout_rreadlink = s ∷ []

abbrev pub layout_tgetattr : Layout
layout_tgetattr = n4 ∷ n8 ∷ []

abbrev pub layout_rgetattr : Layout
layout_rgetattr = (n8 ∷ []) ++ q ++ (n4 ∷ n4 ∷ n4 ∷ n8 ∷ n8 ∷ n8 ∷ n8 ∷ n8 ∷ n8 ∷ n8 ∷ n8 ∷ n8 ∷ n8 ∷ n8 ∷ n8 ∷ n8 ∷ n8 ∷ n8 ∷ [])

abbrev pub layout_tsetattr : Layout
layout_tsetattr = n4 ∷ n4 ∷ n4 ∷ n4 ∷ n4 ∷ n8 ∷ n8 ∷ n8 ∷ n8 ∷ n8 ∷ []

abbrev pub layout_rsetattr : Layout
layout_rsetattr = []

abbrev pub layout_txattrwalk : Layout
layout_txattrwalk = n4 ∷ n4 ∷ s ∷ []

abbrev pub layout_rxattrwalk : Layout
layout_rxattrwalk = n8 ∷ []

abbrev pub layout_txattrcreate : Layout
layout_txattrcreate = n4 ∷ s ∷ n8 ∷ n4 ∷ []

abbrev pub layout_rxattrcreate : Layout
layout_rxattrcreate = []

abbrev pub layout_treaddir : Layout
layout_treaddir = n4 ∷ n8 ∷ n4 ∷ []

abbrev pub layout_rreaddir : Layout
layout_rreaddir = d ∷ []

abbrev pub layout_tfsync : Layout
layout_tfsync = n4 ∷ n4 ∷ []

abbrev pub layout_rfsync : Layout
layout_rfsync = []

abbrev pub layout_tlock : Layout
layout_tlock = n4 ∷ n1 ∷ n4 ∷ n8 ∷ n8 ∷ n4 ∷ s ∷ []

abbrev pub layout_rlock : Layout
layout_rlock = n1 ∷ []

abbrev pub layout_tgetlock : Layout
layout_tgetlock = n4 ∷ n1 ∷ n8 ∷ n8 ∷ n4 ∷ s ∷ []

abbrev pub layout_rgetlock : Layout
layout_rgetlock = n1 ∷ n8 ∷ n8 ∷ n4 ∷ s ∷ []

abbrev pub layout_tlink : Layout
layout_tlink = n4 ∷ n4 ∷ s ∷ []

abbrev pub layout_rlink : Layout
layout_rlink = []

abbrev pub layout_tmkdir : Layout
layout_tmkdir = n4 ∷ s ∷ n4 ∷ n4 ∷ []

abbrev pub layout_rmkdir : Layout
layout_rmkdir = q

abbrev pub layout_trenameat : Layout
layout_trenameat = n4 ∷ s ∷ n4 ∷ s ∷ []

abbrev pub layout_rrenameat : Layout
layout_rrenameat = []

abbrev pub layout_tunlinkat : Layout
layout_tunlinkat = n4 ∷ s ∷ n4 ∷ []

abbrev pub layout_runlinkat : Layout
layout_runlinkat = []

abbrev pub layout_tversion : Layout
layout_tversion = n4 ∷ s ∷ []

abbrev pub layout_rversion : Layout
layout_rversion = n4 ∷ s ∷ []

abbrev pub layout_tauth : Layout
layout_tauth = n4 ∷ s ∷ s ∷ n4 ∷ []

abbrev pub layout_rauth : Layout
layout_rauth = q

abbrev pub layout_tattach : Layout
layout_tattach = n4 ∷ n4 ∷ s ∷ s ∷ n4 ∷ []

abbrev pub layout_rattach : Layout
layout_rattach = q

abbrev pub layout_tflush : Layout
layout_tflush = n2 ∷ []

abbrev pub layout_rflush : Layout
layout_rflush = []

abbrev pub layout_twalk : Layout
layout_twalk = n4 ∷ n4 ∷ names ∷ []

abbrev pub layout_rwalk : Layout
layout_rwalk = qids ∷ []

abbrev pub layout_tread : Layout
layout_tread = n4 ∷ n8 ∷ n4 ∷ []

abbrev pub layout_rread : Layout
layout_rread = d ∷ []

abbrev pub layout_twrite : Layout
layout_twrite = n4 ∷ n8 ∷ d ∷ []

abbrev pub layout_rwrite : Layout
layout_rwrite = n4 ∷ []

abbrev pub layout_tclunk : Layout
layout_tclunk = n4 ∷ []

abbrev pub layout_rclunk : Layout
layout_rclunk = []

abbrev pub layout_tremove : Layout
layout_tremove = n4 ∷ []

abbrev pub layout_rremove : Layout
layout_rremove = []

-- ---- which number leads to which layout

pub data Row : Type 0 where
  row : ℕ → Layout → Row

abbrev pub table_t : List Row
table_t =
    row 8 layout_tstatfs ∷
    row 12 layout_tlopen ∷
    row 14 layout_tlcreate ∷
    row 16 layout_tsymlink ∷
    row 18 layout_tmknod ∷
    row 20 layout_trename ∷
    row 22 layout_treadlink ∷
    row 24 layout_tgetattr ∷
    row 26 layout_tsetattr ∷
    row 30 layout_txattrwalk ∷
    row 32 layout_txattrcreate ∷
    row 40 layout_treaddir ∷
    row 50 layout_tfsync ∷
    row 52 layout_tlock ∷
    row 54 layout_tgetlock ∷
    row 70 layout_tlink ∷
    row 72 layout_tmkdir ∷
    row 74 layout_trenameat ∷
    row 76 layout_tunlinkat ∷
    row 100 layout_tversion ∷
    row 102 layout_tauth ∷
    row 104 layout_tattach ∷
    row 108 layout_tflush ∷
    row 110 layout_twalk ∷
    row 116 layout_tread ∷
    row 118 layout_twrite ∷
    row 120 layout_tclunk ∷
    row 122 layout_tremove ∷
    []

abbrev pub table_r : List Row
table_r =
    row 7 layout_rlerror ∷
    row 9 layout_rstatfs ∷
    row 13 layout_rlopen ∷
    row 15 layout_rlcreate ∷
    row 17 layout_rsymlink ∷
    row 19 layout_rmknod ∷
    row 21 layout_rrename ∷
    row 23 layout_rreadlink ∷
    row 25 layout_rgetattr ∷
    row 27 layout_rsetattr ∷
    row 31 layout_rxattrwalk ∷
    row 33 layout_rxattrcreate ∷
    row 41 layout_rreaddir ∷
    row 51 layout_rfsync ∷
    row 53 layout_rlock ∷
    row 55 layout_rgetlock ∷
    row 71 layout_rlink ∷
    row 73 layout_rmkdir ∷
    row 75 layout_rrenameat ∷
    row 77 layout_runlinkat ∷
    row 101 layout_rversion ∷
    row 103 layout_rauth ∷
    row 105 layout_rattach ∷
    row 109 layout_rflush ∷
    row 111 layout_rwalk ∷
    row 117 layout_rread ∷
    row 119 layout_rwrite ∷
    row 121 layout_rclunk ∷
    row 123 layout_rremove ∷
    []

-- the layout of the type's row; a number without one is unknown in that direction (F3.3)
abbrev pub lookup : List Row → ℕ → Option Layout
lookup [] ty = none
lookup (row k l ∷ rs) ty = elim (eqb k ty) [ true ↦ some l | false ↦ lookup rs ty ]

-- a directory entry (F1.7)
abbrev pub layout_dirent : Layout
layout_dirent = q ++ (n8 ∷ n1 ∷ s ∷ [])
