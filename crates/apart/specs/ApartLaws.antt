-- A string that is all of a slice is measured and put as it is where the two slices are lent as one.
use Rattle.std.specs.Prelude.{ℕ, ◌+◌, cond, List, [], ◌∷◌, eqb}
use Rattle.fields.specs.Layouts.{num, str, dat, strs, quids, boxed, Layout}
use Rattle.layouts.specs.Tables.{Row, row}

-- ---- the table

-- how many strings a layout has
abbrev pub strings_in : Layout → ℕ
strings_in [] = 0
strings_in (num w ∷ fs) = strings_in fs
strings_in (str ∷ fs) = 1 + strings_in fs
strings_in (dat ∷ fs) = strings_in fs
strings_in (strs ∷ fs) = strings_in fs
strings_in (quids ∷ fs) = strings_in fs
strings_in (boxed b ∷ fs) = strings_in fs

abbrev pub of_two : List Row → List Row
of_two [] = []
of_two (row k l ∷ rs) = cond (eqb (strings_in l) 2) (row k l ∷ of_two rs) (of_two rs)
