-- The rules of a session, frame by frame (F15.5 to F15.9), on the record itself, so that every row of it is determined.
use Rattle.numbers.specs.Place.{Place}
use Rattle.std.specs.Prelude.{ℕ, Bool, true, false, cond, List, get_or, set, replicate, eqb, Result, Ok, Err}
use Rattle.numbers.specs.Places.{Put}
use Rattle.numbers.specs.declared.Refusal.{Refusal}
use Rattle.numbers.specs.declared.Refusal.TheVariants as R
use Rattle.layouts.specs.Tables.{table_t}
use Rattle.pairs.specs.Pairs.{rlerror, pairs}
use Rattle.places.specs.declared.Places.{Places}
use Rattle.places.specs.declared.Reached.{Reached}
use Rattle.places.specs.Places.{unused, root, child, walked, path}
use Rattle.session.specs.declared.Request.{Request}
use Rattle.session.specs.declared.Session.{Session}
use Rattle.session.specs.declared.Stepped.{Stepped}
use Rattle.session.specs.declared.Effect.{Effect}
use Rattle.session.specs.declared.Effect.TheVariants as E
use Rattle.session.specs.declared.Way.{Way}
use Rattle.session.specs.declared.Way.TheVariants as Y
use Rattle.session.specs.declared.What.{What}
use Rattle.session.specs.declared.What.TheVariants as W
use Rattle.session.specs.declared.Event.{Event}
use Rattle.session.specs.Rows.{row_of, has}

-- no tag and no fid has these: a row that is free, and a fid that is not asked for
abbrev pub free : ℕ
free = 4294967296

abbrev pub none : ℕ
none = 4294967297

-- what stands beside a tag's row before its first use
abbrev pub blank : Request
blank = record { ty = 0; new = 0; known = 0; to = 0; old = 0; count = 0; start = 0; len = 0 }

-- no request, no fid, no place
abbrev pub fresh : Session
fresh = record { tags = replicate 64 free; requests = replicate 64 blank; fids = replicate 64 free; at = replicate 64 0; places = unused }

abbrev pub accepts : Session → Stepped
accepts t = record { session = t; answer = Ok tt }

-- a frame that is refused changes nothing
abbrev pub refuses : Session → Refusal → Stepped
refuses s k = record { session = s; answer = Err k }

-- what is refused first answers
abbrev pub unless : Result (Unit {0}) Refusal → Session → Stepped → Stepped
unless (Ok u) s t = t
unless (Err k) s t = refuses s k

-- ---- a request (F15.5)

-- the fid that must be new is in use: 22; the one that must be known is not: 23
unfoldable pub unfit : List ℕ → Request → Result (Unit {0}) Refusal
unfit fids r = cond (has r.new fids) (Err R.FidInUse) (cond (eqb r.known none) (Ok tt) (cond (has r.known fids) (Ok tt) (Err R.FidUnknown)))

-- the tag and the request take the first free row
abbrev pub opened : Session → ℕ → Request → Session
opened s tag r =
    record { tags = set s.tags (row_of free s.tags) tag; requests = set s.requests (row_of free s.tags) r; fids = s.fids; at = s.at; places = s.places }

-- 20, 22, 23, 24
unfoldable pub asked : Session → ℕ → Request → Stepped
asked s tag r =
    cond (has tag s.tags) (refuses s R.TagOpen) (unless (unfit s.fids r) s (cond (has free s.tags) (accepts (opened s tag r)) (refuses s R.TableFull)))

-- ---- what the reply does (F15.7)

-- Tclunk and Tremove
abbrev pub on_clunk : ℕ → Effect → Effect
on_clunk ty e = cond (eqb ty 120) E.Drops (cond (eqb ty 122) E.Drops e)

-- by the request's type: Tversion, Tflush, Tauth and Tattach, Twalk, Tlcreate, Txattrwalk. An Rlerror only drops
unfoldable pub effect_of : ℕ → ℕ → Bool → Effect
effect_of ty reply whole =
    cond (eqb reply rlerror) (on_clunk ty E.Nothing)
    (cond (eqb ty 100) E.Empties
    (cond (eqb ty 108) E.Flushes
    (cond (eqb ty 102) (E.Gives Y.Root)
    (cond (eqb ty 104) (E.Gives Y.Root)
    (cond (eqb ty 110) (cond whole (E.Gives Y.Walk) E.Nothing) (cond (eqb ty 14) (E.Gives Y.Child) (cond (eqb ty 30) (E.Gives Y.Copy) (on_clunk ty E.Nothing))))))))

-- a table without a key: its row is free
abbrev pub freed : ℕ → List ℕ → List ℕ
freed k xs = cond (has k xs) (set xs (row_of k xs) free) xs

-- an open tag is closed: its row is free
unfoldable pub closed : Session → ℕ → Session
closed s tag =
    cond (has tag s.tags) (record { tags = set s.tags (row_of tag s.tags) free; requests = s.requests; fids = s.fids; at = s.at; places = s.places }) s

unfoldable pub dropped : Session → ℕ → Session
dropped s fid =
    cond (has fid s.fids) (record { tags = s.tags; requests = s.requests; fids = set s.fids (row_of fid s.fids) free; at = s.at; places = s.places }) s

-- the place of a fid
unfoldable pub place_of : Session → ℕ → ℕ
place_of s fid = cond (has fid s.fids) (get_or s.at (row_of fid s.fids) 0) 0

-- the place that is given: a new root; where a walk from the fid's place ends; a child of that place; that place itself
unfoldable pub reached : List ℕ → Session → Way → Request → Reached
reached bs s Y.Root r = root s.places
reached bs s Y.Walk r = walked bs r.count (Ok r.start) (record { places = s.places; at = Ok (place_of s r.known) })
reached bs s Y.Child r = child s.places (place_of s r.known) r.start r.len
reached bs s Y.Copy r = record { places = s.places; at = Ok (place_of s r.known) }

-- a fid at a row, with its place
abbrev pub held : Session → ℕ → ℕ → ℕ → Places → Session
held s row fid i p = record { tags = s.tags; requests = s.requests; fids = set s.fids row fid; at = set s.at row i; places = p }

-- the row that a fid is to have: its own, or else the first that is free
abbrev pub seat : ℕ → List ℕ → ℕ
seat fid fids = cond (has fid fids) (row_of fid fids) (row_of free fids)

-- a known fid keeps its row, a new one takes the first that is free; 24, of places or of fids
abbrev pub given_at : Session → ℕ → Places → Result ℕ Refusal → Stepped
given_at s fid p (Err k) = refuses s k
given_at s fid p (Ok i) =
    cond (has fid s.fids) (accepts (held s (row_of fid s.fids) fid i p)) (cond (has free s.fids) (accepts (held s (row_of free s.fids) fid i p)) (refuses s R.TableFull))

unfoldable pub given : Session → ℕ → Reached → Stepped
given s fid r = given_at s fid r.places r.at

-- 22 and 23 are asked again where a fid is given, moved or dropped
unfoldable pub done : List ℕ → Session → Effect → Request → Stepped
done bs s E.Nothing r = accepts s
done bs s E.Empties r = accepts fresh
done bs s E.Flushes r = accepts (closed s r.old)
done bs s E.Drops r = unless (unfit s.fids r) s (accepts (dropped s r.to))
done bs s (E.Gives w) r = unless (unfit s.fids r) s (given s r.to (reached bs s w r))

-- ---- a reply (F15.6)

-- the reply's tag is closed, unless it is refused
abbrev pub closing : Session → ℕ → Session → Result (Unit {0}) Refusal → Stepped
closing s tag t (Ok u) = accepts (closed t tag)
closing s tag t (Err k) = refuses s k

unfoldable pub finished : Session → ℕ → Stepped → Stepped
finished s tag d = closing s tag d.session d.answer

-- 21, where the open request is not one that the type answers (F7.1)
unfoldable pub replied : List ℕ → Session → ℕ → ℕ → ℕ → Request → Stepped
replied bs s tag ty n r =
    cond (pairs table_t rlerror r.ty tag ty tag) (finished s tag (done bs s (effect_of r.ty ty (eqb n r.count)) r)) (refuses s R.NoRequest)

-- it answers, and does nothing but close the tag
abbrev pub nothing_else : Effect → Bool
nothing_else E.Nothing = true
nothing_else E.Empties = false
nothing_else E.Flushes = false
nothing_else E.Drops = false
nothing_else (E.Gives w) = false

unfoldable pub only_closes : ℕ → ℕ → ℕ → Bool → Bool
only_closes asked tag ty whole = cond (pairs table_t rlerror asked tag ty tag) (nothing_else (effect_of asked ty whole)) false

-- the request that is open under a tag
abbrev pub request_of : Session → ℕ → Request
request_of s tag = get_or s.requests (row_of tag s.tags) blank

-- 21, where no request has the tag
unfoldable pub answered : List ℕ → Session → ℕ → ℕ → ℕ → Stepped
answered bs s tag ty n = cond (has tag s.tags) (replied bs s tag ty n (request_of s tag)) (refuses s R.NoRequest)

-- ---- a frame

abbrev pub happened : List ℕ → Session → ℕ → ℕ → What → Stepped
happened bs s ty tag (W.Asks r) = asked s tag r
happened bs s ty tag (W.Answers n) = answered bs s tag ty n
happened bs s ty tag (W.Refused k) = refuses s k

unfoldable pub stepped : List ℕ → Session → Event → Stepped
stepped bs s e = happened bs s e.ty e.tag e.what

-- ---- the path of a fid (F15.10)

-- 23; then the path of its place is put at the front of the output, or there is no room: 11
abbrev pub FidPath : List ℕ → Session → ℕ → List ℕ → List ℕ → Place → Type 0
FidPath bs s fid o o' r = Put (path bs s.places (place_of s fid)) o (cond (has fid s.fids) (Ok 0) (Err (R.FidUnknown, 0))) o' r
