-- Requests whose two strings lie apart, each all of a slice: they are written as if the second slice stood after the first (F5.20).
use Rattle.numbers.specs.Place.{Place}
use Rattle.std.specs.Prelude.{ℕ, ◌+◌, List, [], ◌∷◌, ◌++◌, length, take, drop, get_or}
use Rattle.std.proofs.Math.Option.{Option, none, some}
use Rattle.fields.specs.Layouts.{num, str, dat, strs, quids, boxed, Layout}
use Rattle.layouts.specs.Tables.{Row, row, layout_tsymlink, layout_trenameat, layout_tauth, layout_tattach}
use Rattle.flat.specs.Flat.{shape_numbers, FlatWritten}

-- the requests of two strings (F3.2)
abbrev pub table_two : List Row
table_two = row 16 layout_tsymlink ∷ row 74 layout_trenameat ∷ row 102 layout_tauth ∷ row 104 layout_tattach ∷ []

-- the flat values of a layout from the i-th on, and those of its strings' spans taken from a list in their place
abbrev pub with_spans : ℕ → Layout → List ℕ → List ℕ → List ℕ
with_spans i [] ss ns = drop i ns
with_spans i (num w ∷ fs) ss ns = get_or ns i 0 ∷ with_spans (i + 1) fs ss ns
with_spans i (str ∷ fs) ss ns = take 2 ss ++ with_spans (i + 2) fs (drop 2 ss) ns
with_spans i (dat ∷ fs) ss ns = get_or ns i 0 ∷ get_or ns (i + 1) 0 ∷ with_spans (i + 2) fs ss ns
with_spans i (strs ∷ fs) ss ns = get_or ns i 0 ∷ get_or ns (i + 1) 0 ∷ get_or ns (i + 2) 0 ∷ with_spans (i + 3) fs ss ns
with_spans i (quids ∷ fs) ss ns = get_or ns i 0 ∷ get_or ns (i + 1) 0 ∷ get_or ns (i + 2) 0 ∷ with_spans (i + 3) fs ss ns
with_spans i (boxed b ∷ fs) ss ns = take (shape_numbers b) (drop i ns) ++ with_spans (i + shape_numbers b) fs ss ns

-- the values of a request whose strings are all of the first slice and all of the second, which stands after it
abbrev pub together : Option Layout → List ℕ → List ℕ → List ℕ → List ℕ
together none first second ns = ns
together (some l) first second ns = with_spans 0 l (0 ∷ length first ∷ length first ∷ length second ∷ []) ns

-- its body written at p, with the two slices lent as one
pub record ApartWritten (l : Option Layout) (first second ns o : List ℕ) (p : Place) (o' : List ℕ) (q : Place) : Type 0 where
  pub is : FlatWritten l (first ++ second) (together l first second ns) o p o' q
