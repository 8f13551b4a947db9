-- What a frame of the listing is to a session (F15.5, F15.6), by its type and its values.
use Rattle.std.specs.Prelude.{ℕ, ◌%◌, cond, List, get_or, eqb}
use Rattle.fields.specs.Values.{Value, val, num_of, start_of, len_of, count_of, first_of}
use Rattle.layouts.specs.Bodies.{Answer, accepted, refused}
use Rattle.session.specs.Rules.{none}
use Rattle.session.specs.declared.Request.{Request}
use Rattle.session.specs.declared.Event.{Event}
use Rattle.session.specs.declared.What.{What}
use Rattle.session.specs.declared.What.TheVariants as W

-- ---- a request

-- the fid that must be new, the one that must be known, the one that the reply gives, moves or drops
abbrev pub asks : ℕ → ℕ → ℕ → ℕ → Request
asks ty new known to = record { ty = ty; new = new; known = known; to = to; old = 0; count = 0; start = 0; len = 0 }

-- a newfid must be new, unless it is the fid; an afid must be known, unless it is 4,294,967,295
abbrev pub unless_same : ℕ → ℕ → ℕ
unless_same new fid = cond (eqb new fid) none new

abbrev pub unless_none : ℕ → ℕ
unless_none afid = cond (eqb afid 4294967295) none afid

-- the value of a field, by its place in the layout (F3.2)
abbrev pub value_in : List Value → ℕ → Value
value_in vs i = get_or vs i (val 0)

abbrev pub fid_in : List Value → ℕ → ℕ
fid_in vs i = num_of (value_in vs i)

-- oldtag
abbrev pub flushes : ℕ → Request
flushes old = record { ty = 108; new = none; known = none; to = none; old = old; count = 0; start = 0; len = 0 }

-- fid, newfid, and the names
abbrev pub walks : ℕ → ℕ → Value → Request
walks fid newfid v = record { ty = 110; new = unless_same newfid fid; known = fid; to = newfid; old = 0; count = count_of v; start = start_of v; len = len_of v }

-- fid and the name
abbrev pub creates : ℕ → Value → Request
creates fid v = record { ty = 14; new = none; known = fid; to = fid; old = 0; count = 0; start = start_of v; len = len_of v }

-- Tversion, Tflush, Tauth, Tattach, Twalk, Txattrwalk, Tlcreate, Tclunk and Tremove; of any other the first fid must be known
unfoldable pub asked_by : ℕ → List Value → Request
asked_by ty vs =
    cond (eqb ty 100) (asks 100 none none none)
    (cond (eqb ty 108) (flushes (fid_in vs 0))
    (cond (eqb ty 102) (asks 102 (fid_in vs 0) none (fid_in vs 0))
    (cond (eqb ty 104) (asks 104 (fid_in vs 0) (unless_none (fid_in vs 1)) (fid_in vs 0))
    (cond (eqb ty 110) (walks (fid_in vs 0) (fid_in vs 1) (value_in vs 2))
    (cond (eqb ty 30) (asks 30 (unless_same (fid_in vs 1) (fid_in vs 0)) (fid_in vs 0) (fid_in vs 1))
    (cond (eqb ty 14) (creates (fid_in vs 0) (value_in vs 1))
    (cond (eqb ty 120) (asks 120 none (fid_in vs 0) (fid_in vs 0))
    (cond (eqb ty 122) (asks 122 none (fid_in vs 0) (fid_in vs 0)) (asks ty none (fid_in vs 0) none)))))))))

-- ---- a reply, and a frame

-- an Rwalk is the only reply that has a vector
abbrev pub qids_in : List Value → ℕ
qids_in vs = count_of (first_of vs)

abbrev pub what_in : Answer → What
what_in (accepted ty vs used) = cond (eqb (ty % 2) 0) (W.Asks (asked_by ty vs)) (W.Answers (qids_in vs))
what_in (refused k at) = W.Refused k

unfoldable pub event_of : ℕ → ℕ → Answer → Event
event_of ty tag a = record { ty = ty; tag = tag; what = what_in a }
