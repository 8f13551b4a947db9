-- What is read of bytes that begin p later is what is read of them, its positions p later; over any layout and any table.
use Rattle.std.specs.Prelude.{ℕ}
use Rattle.numbers.specs.Reading.{Reading, ok, bad}
use Rattle.framing.specs.Raising.{raise_place}

-- ---- one reader after another

abbrev pub raised : {A : Type 0} → ℕ → Reading A → Reading A
raised p (ok a r) = ok a r
raised p (bad k at) = bad k (raise_place p k at)
