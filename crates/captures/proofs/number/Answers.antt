-- Both orders of four bytes.
use native.Mathlib.Omega.{arith}
use Rattle.captures.proofs.FileLaws.{number_from_be, number_from_le}
use Rattle.captures.proofs.number.Goals as goal

pub returns-in-Little : goal.returns-in-Little
returns-in-Little c = let a = c.args in rw c.in-Little.is (number_from_le a.file.now a.at (omega arith) c.from_le_bytes.ensures)

pub returns-in-Big : goal.returns-in-Big
returns-in-Big c = let a = c.args in rw c.in-Big.is (number_from_be a.file.now a.at (omega arith) c.from_be_bytes.ensures)
