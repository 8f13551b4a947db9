-- F12.6: examples of plans, computed from the definitions.
use Rattle.std.specs.Prelude.{ℕ, ◌≡◌, refl, true, false, List, [], ◌∷◌, Ok, Err}
use Rattle.numbers.specs.declared.Refusal.TheVariants as R
use Rattle.planning.specs.Plans.{runs_on, agreed, accepted, fewest, cut, planned, table_of}

abbrev piece : ℕ → ℕ → List ℕ
piece at n = at ∷ n ∷ []

-- three bytes from 5 on, two to a frame: a full piece, then a short one; the row after them stays
pub two_of_three_rows : (planned 3 5 3 25 ≡ Ok 2) × (table_of (piece 0 0 ∷ piece 0 0 ∷ piece 8 9 ∷ []) 5 3 25 ≡ piece 5 2 ∷ piece 7 1 ∷ piece 8 9 ∷ [])
unfolding planned agreed fewest cut table_of
two_of_three_rows = (refl, refl)

-- no row too many is asked for, and none too few
pub rows_to_the_one : (planned 3 5 3 24 ≡ Ok 3) × (planned 2 5 3 24 ≡ Err (R.TableFull, 0))
unfolding planned agreed fewest
rows_to_the_one = (refl, refl)

-- other plans of that write are accepted; an empty piece, a gap, an overlap and a piece too long are not
pub accepted_and_not : (accepted (piece 5 1 ∷ piece 6 2 ∷ []) 5 3 25 ≡ true) × (accepted (piece 5 2 ∷ piece 7 1 ∷ piece 8 0 ∷ []) 5 3 25 ≡ false)
    × (accepted (piece 5 1 ∷ piece 7 1 ∷ []) 5 3 25 ≡ false) × (accepted (piece 5 2 ∷ piece 6 2 ∷ []) 5 3 25 ≡ false) × (accepted (piece 5 3 ∷ []) 5 3 25 ≡ false)
unfolding accepted agreed runs_on
accepted_and_not = (refl, refl, refl, refl, refl)

-- where the frame stops growing: 33,554,432 bytes of data take an msize of 33,554,455, and no msize lets one byte more in
pub at_the_limit : (planned 1 0 33554432 33554454 ≡ Err (R.TableFull, 0)) × (planned 1 0 33554432 33554455 ≡ Ok 1) × (planned 1 0 33554433 33554456 ≡ Err (R.TableFull, 0)) × (planned 2 0 33554433 4294967295 ≡ Ok 2)
unfolding planned agreed fewest
at_the_limit = (refl, refl, refl, refl)

-- the end may be exactly the greatest number
pub at_the_end : (planned 1 18446744073709551614 1 24 ≡ Ok 1) × (planned 1 18446744073709551615 1 24 ≡ Err (R.EndTooFar, 0)) × (planned 0 18446744073709551615 0 24 ≡ Ok 0)
unfolding planned agreed fewest
at_the_end = (refl, refl, refl)

-- nothing to write is no plan with an msize of 23, and 26 comes before 27
pub none_at_all : (planned 0 0 0 23 ≡ Err (R.MsizeTooSmall, 0)) × (accepted [] 0 0 23 ≡ false) × (accepted [] 0 0 24 ≡ true) × (planned 0 18446744073709551615 1 23 ≡ Err (R.MsizeTooSmall, 0))
unfolding planned agreed accepted runs_on
none_at_all = (refl, refl, refl, refl)
