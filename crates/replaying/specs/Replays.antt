-- A recording followed (F15.8, F15.11): the fold of the session over the listing of its stretch, and the text.
use Rattle.numbers.specs.Place.{Place}
use Rattle.std.specs.Prelude.{ℕ, ◌≡◌, cond, List, [], ◌∷◌, length, ltb, Result, Ok, Err}
use Rattle.numbers.specs.declared.Refusal.{Refusal}
use Rattle.numbers.specs.Refusals.{number_of}
use Rattle.numbers.specs.Places.{over}
use Rattle.numbers.specs.declared.Refusal.TheVariants as R
use Rattle.layouts.specs.Tables.{table_t, table_r}
use Rattle.layouts.specs.Bodies.{Answer, refused}
use Rattle.framing.specs.Stretch.{Listing, entry, ends, stops, listing}
use Rattle.listing.specs.Text.{PiecesPut, joined, header, stop_word, last_pieces, lines_from, too_long}
use Rattle.sealing.specs.Trailers.{stretch_in, sealed}
use Rattle.session.specs.Rules.{fresh, stepped}
use Rattle.session.specs.declared.Session.{Session}
use Rattle.events.specs.Events.{event_of}

-- ---- the fold (F15.8)

abbrev pub answer_of : Result (Unit {0}) Refusal → ℕ
answer_of (Ok u) = 0
answer_of (Err k) = number_of k

-- what is listed of a frame: what was read, where the session accepts it; else the session's refusal
abbrev pub told : Result (Unit {0}) Refusal → Answer → Answer
told (Ok u) a = a
told (Err k) a = refused k 0

-- each frame is answered by the session that those before it leave; bs is the stretch
unfoldable pub replayed : List ℕ → Session → Listing → Listing
replayed bs s (entry at size ty tag a tail l) =
    entry at size ty tag (told (stepped bs s (event_of ty tag a)).answer a) tail (replayed bs (stepped bs s (event_of ty tag a)).session l)
replayed bs s (ends p) = ends p
replayed bs s (stops k p) = stops k p

abbrev pub replay : List ℕ → Listing
replay bs = replayed bs fresh (listing table_t table_r bs)

-- ---- the text (F15.11)

-- longer input as the lister's (F8.1); 19 alone on its line; else the lister's text, with the session's answers
abbrev pub text : List ℕ → List (List ℕ)
text file = cond (ltb 65536 (length file)) (too_long ∷ []) (cond (sealed file) (header ∷ lines_from 0 (replay (stretch_in file))) (last_pieces stop_word 0 (number_of R.Trailer)))

pub record LinesPut (bs o : List ℕ) (p : Place) (o' : List ℕ) (q : Place) : Type 0 where
  pub is : PiecesPut (lines_from 0 (replay bs)) o p o' q

pub record ReplayPut (file o o' : List ℕ) (q : Place) : Type 0 where
  pub is : PiecesPut (text file) o (Ok 0) o' q

-- the text at the front of the room, the rest of the room as it was; the text's length
pub record Replayed (file o o' : List ℕ) (n : ℕ) : Type 0 where
  pub bytes : o' ≡ over o 0 (joined (text file))
  pub count : n ≡ length (joined (text file))
