-- Each arm of three octets or four names its row of the RFC, counted from 0.
use native.Mathlib.Omega.{arith}
use lib.Dec.{lit<}
use Rattle.utf8.proofs.Rows.{in_row}
use Rattle.utf8.proofs.char_at.Goals as goal

pub returns-in-224 : goal.returns-in-224
returns-in-224 c = in_row 2 (omega arith) (lit< tt) (omega arith) (omega arith) c.rest-in-224.ensures

pub returns-in-225-to-236 : goal.returns-in-225-to-236
returns-in-225-to-236 c = in_row 3 (omega arith) (lit< tt) (omega arith) (omega arith) c.rest-in-225-to-236.ensures

pub returns-in-237 : goal.returns-in-237
returns-in-237 c = in_row 4 (omega arith) (lit< tt) (omega arith) (omega arith) c.rest-in-237.ensures

pub returns-in-238-to-239 : goal.returns-in-238-to-239
returns-in-238-to-239 c = in_row 5 (omega arith) (lit< tt) (omega arith) (omega arith) c.rest-in-238-to-239.ensures

pub returns-in-240 : goal.returns-in-240
returns-in-240 c = in_row 6 (omega arith) (lit< tt) (omega arith) (omega arith) c.rest-in-240.ensures

pub returns-in-241-to-243 : goal.returns-in-241-to-243
returns-in-241-to-243 c = in_row 7 (omega arith) (lit< tt) (omega arith) (omega arith) c.rest-in-241-to-243.ensures

pub returns-in-244 : goal.returns-in-244
returns-in-244 c = in_row 8 (omega arith) (lit< tt) (omega arith) (omega arith) c.rest-in-244.ensures
