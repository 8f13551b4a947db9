-- F15: a recording by hand, frame by frame, computed from the definition: the answers of its session, the paths of its fids after it, and its trailer.
use Rattle.std.specs.Prelude.{ℕ, List, [], ◌∷◌, ◌++◌}

-- Tattach of fid 0, with no afid; Rattach
abbrev attached : List ℕ
attached = 24 ∷ 0 ∷ 0 ∷ 0 ∷ 104 ∷ 1 ∷ 0 ∷ 0 ∷ 0 ∷ 0 ∷ 0 ∷ 255 ∷ 255 ∷ 255 ∷ 255 ∷ 1 ∷ 0 ∷ 103 ∷ 0 ∷ 0 ∷ 0 ∷ 0 ∷ 0 ∷ 0 ∷ 20 ∷ 0 ∷ 0 ∷ 0 ∷ 105 ∷ 1 ∷ 0 ∷ 0 ∷ 0 ∷ 0 ∷ 0 ∷ 0 ∷ 0 ∷ 0 ∷ 0 ∷ 0 ∷ 0 ∷ 0 ∷ 0 ∷ 0 ∷ []

-- Twalk of fid 0 to fid 1 by a and b; Rwalk of two qids
abbrev walked_down : List ℕ
walked_down = 23 ∷ 0 ∷ 0 ∷ 0 ∷ 110 ∷ 2 ∷ 0 ∷ 0 ∷ 0 ∷ 0 ∷ 0 ∷ 1 ∷ 0 ∷ 0 ∷ 0 ∷ 2 ∷ 0 ∷ 1 ∷ 0 ∷ 97 ∷ 1 ∷ 0 ∷ 98 ∷ 35 ∷ 0 ∷ 0 ∷ 0 ∷ 111 ∷ 2 ∷ 0 ∷ 2 ∷ 0 ∷ 0 ∷ 0 ∷ 0 ∷ 0 ∷ 0 ∷ 0 ∷ 0 ∷ 0 ∷ 0 ∷ 0 ∷ 0 ∷ 0 ∷ 0 ∷ 0 ∷ 0 ∷ 0 ∷ 0 ∷ 0 ∷ 0 ∷ 0 ∷ 0 ∷ 0 ∷ 0 ∷ 0 ∷ 0 ∷ 0 ∷ []

-- Twalk of fid 1 to fid 2 by ..; Rwalk of one qid
abbrev walked_up : List ℕ
walked_up = 21 ∷ 0 ∷ 0 ∷ 0 ∷ 110 ∷ 3 ∷ 0 ∷ 1 ∷ 0 ∷ 0 ∷ 0 ∷ 2 ∷ 0 ∷ 0 ∷ 0 ∷ 1 ∷ 0 ∷ 2 ∷ 0 ∷ 46 ∷ 46 ∷ 22 ∷ 0 ∷ 0 ∷ 0 ∷ 111 ∷ 3 ∷ 0 ∷ 1 ∷ 0 ∷ 0 ∷ 0 ∷ 0 ∷ 0 ∷ 0 ∷ 0 ∷ 0 ∷ 0 ∷ 0 ∷ 0 ∷ 0 ∷ 0 ∷ 0 ∷ []

-- Tclunk of fid 1; Rlerror, which drops it
abbrev clunked : List ℕ
clunked = 11 ∷ 0 ∷ 0 ∷ 0 ∷ 120 ∷ 4 ∷ 0 ∷ 1 ∷ 0 ∷ 0 ∷ 0 ∷ 11 ∷ 0 ∷ 0 ∷ 0 ∷ 7 ∷ 4 ∷ 0 ∷ 5 ∷ 0 ∷ 0 ∷ 0 ∷ []

-- Tclunk of fid 1, now unknown; Rclunk, of which no request is open
abbrev clunked_again : List ℕ
clunked_again = 11 ∷ 0 ∷ 0 ∷ 0 ∷ 120 ∷ 5 ∷ 0 ∷ 1 ∷ 0 ∷ 0 ∷ 0 ∷ 7 ∷ 0 ∷ 0 ∷ 0 ∷ 121 ∷ 5 ∷ 0 ∷ []

abbrev pub stretch : List ℕ
stretch = attached ++ walked_down ++ walked_up ++ clunked ++ clunked_again
