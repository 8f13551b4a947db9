-- The lister's text (F8). A text is its pieces, put one after the other.
use Rattle.numbers.specs.Place.{Place}
use Rattle.std.specs.Prelude.{ℕ, zero, suc, ◌^◌, ◌≡◌, cond, List, [], ◌∷◌, ◌++◌, length, ltb, eqb, Ok, Err}
use Rattle.io.specs.Digits.{last_digits}
use Rattle.numbers.specs.Refusals.{number_of}
use Rattle.numbers.specs.Places.{over, put_at, past_put, Put}
use Rattle.layouts.specs.Tables.{Row, table_t, table_r}
use Rattle.layouts.specs.Bodies.{Answer, accepted, refused}
use Rattle.framing.specs.Stretch.{Listing, entry, ends, stops, listing}
use Rattle.stretch.specs.Views.{view_body}
use Rattle.stretch.specs.declared.Listed.{Listed}

-- ---- a number in decimal figures, as many as it needs

-- the fewest figures that hold n, from k on and below k + fuel
abbrev pub figures : ℕ → ℕ → ℕ → ℕ
figures zero k n = k
figures (suc fuel) k n = cond (ltb n (10 ^ k)) k (figures fuel (suc k) n)

-- of a number below 10 ^ 20, as every number here is
unfoldable pub decimal : ℕ → List ℕ
decimal n = last_digits 10 (figures 19 1 n) n

-- ---- pieces put one after the other

unfoldable pub put_all : List (List ℕ) → List ℕ → Place → List ℕ
put_all [] o p = o
put_all (b ∷ bs) o p = put_all bs (put_at b o p) (past_put b o p)

unfoldable pub past_all : List (List ℕ) → List ℕ → Place → Place
past_all [] o p = p
past_all (b ∷ bs) o p = past_all bs (put_at b o p) (past_put b o p)

-- what putting pieces from p on leaves in the output o, and answers
pub record PiecesPut (bs : List (List ℕ)) (o : List ℕ) (p : Place) (o' : List ℕ) (q : Place) : Type 0 where
  pub bytes : o' ≡ put_all bs o p
  pub next : q ≡ past_all bs o p

-- the text itself
unfoldable pub joined : List (List ℕ) → List ℕ
joined [] = []
joined (b ∷ bs) = b ++ joined bs

-- ---- the lines

abbrev pub space : List ℕ
space = 32 ∷ []

abbrev pub newline : List ℕ
newline = 10 ∷ []

abbrev pub field_pieces : ℕ → List ℕ → List (List ℕ)
field_pieces n next = decimal n ∷ next ∷ []

-- 0 or the refusal's number (F8.5)
abbrev pub answer_number : Answer → ℕ
answer_number (accepted ty vs used) = 0
answer_number (refused k at) = number_of k

-- `-` where the frame is refused (F8.5)
abbrev pub tail_pieces : ℕ → ℕ → List (List ℕ)
tail_pieces n tail = cond (eqb n 0) (field_pieces tail newline) ((45 ∷ 10 ∷ []) ∷ [])

abbrev pub line_pieces : ℕ → ℕ → ℕ → ℕ → ℕ → ℕ → List (List ℕ)
line_pieces at size ty tag n tail =
    field_pieces at space ++ (field_pieces size space ++ (field_pieces ty space ++ (field_pieces tag space ++ (field_pieces n space ++ tail_pieces n tail))))

-- at size type tag answer tail (F8.2)
abbrev pub header : List ℕ
header = 97 ∷ 116 ∷ 32 ∷ 115 ∷ 105 ∷ 122 ∷ 101 ∷ 32 ∷ 116 ∷ 121 ∷ 112 ∷ 101 ∷ 32 ∷ 116 ∷ 97 ∷ 103 ∷ 32 ∷ 97 ∷ 110 ∷ 115 ∷ 119 ∷ 101 ∷ 114 ∷ 32 ∷ 116 ∷ 97 ∷ 105 ∷ 108 ∷ 10 ∷ []

-- the words of the last line (F8.6)
abbrev pub end_word : List ℕ
end_word = 101 ∷ 110 ∷ 100 ∷ 32 ∷ []

abbrev pub stop_word : List ℕ
stop_word = 115 ∷ 116 ∷ 111 ∷ 112 ∷ 32 ∷ []

abbrev pub last_pieces : List ℕ → ℕ → ℕ → List (List ℕ)
last_pieces word p n = word ∷ (field_pieces p space ++ field_pieces n newline)

-- F8.6: position and frames, or position and refusal
unfoldable pub lines_from : ℕ → Listing → List (List ℕ)
lines_from n (entry at size ty tag a tail l) = line_pieces at size ty tag (answer_number a) tail ++ lines_from (suc n) l
lines_from n (ends p) = last_pieces end_word p n
lines_from n (stops k p) = last_pieces stop_word p (number_of k)

-- what longer input gives (F8.1)
abbrev pub too_long : List ℕ
too_long = 105 ∷ 110 ∷ 112 ∷ 117 ∷ 116 ∷ 32 ∷ 116 ∷ 111 ∷ 111 ∷ 32 ∷ 108 ∷ 111 ∷ 110 ∷ 103 ∷ 10 ∷ []

abbrev pub listing_pieces : List Row → List Row → List ℕ → List (List ℕ)
listing_pieces ts rs s = header ∷ lines_from 0 (listing ts rs s)

-- the text of some input, up to 65,536 bytes of it (F8.1)
abbrev pub report : List Row → List Row → List ℕ → List (List ℕ)
report ts rs s = cond (ltb 65536 (length s)) (too_long ∷ []) (listing_pieces ts rs s)

-- ---- what putting a number, a field, a tail, a line and the last line does

pub record DecimalPut (n : ℕ) (o : List ℕ) (p : Place) (o' : List ℕ) (q : Place) : Type 0 where
  pub is : Put (decimal n) o p o' q

pub record FieldPut (n : ℕ) (next o : List ℕ) (p : Place) (o' : List ℕ) (q : Place) : Type 0 where
  pub is : PiecesPut (field_pieces n next) o p o' q

pub record TailPut (n tail : ℕ) (o : List ℕ) (p : Place) (o' : List ℕ) (q : Place) : Type 0 where
  pub is : PiecesPut (tail_pieces n tail) o p o' q

-- with an answer that is told
pub record FramePut (l : Listed) (n : ℕ) (o : List ℕ) (p : Place) (o' : List ℕ) (q : Place) : Type 0 where
  pub is : PiecesPut (line_pieces l.at l.size l.ty l.tag.0 n l.tail) o p o' q

-- with the body's own
pub record LinePut (l : Listed) (o : List ℕ) (p : Place) (o' : List ℕ) (q : Place) : Type 0 where
  pub is : PiecesPut (line_pieces l.at l.size l.ty l.tag.0 (answer_number (view_body l.body)) l.tail) o p o' q

pub record LastPut (word : List ℕ) (x n : ℕ) (o : List ℕ) (p : Place) (o' : List ℕ) (q : Place) : Type 0 where
  pub is : PiecesPut (last_pieces word x n) o p o' q

-- a line for each frame, and the last line
pub record LinesPut (s o : List ℕ) (p : Place) (o' : List ℕ) (q : Place) : Type 0 where
  pub is : PiecesPut (lines_from 0 (listing table_t table_r s)) o p o' q

-- all of it, at the front of an output
pub record ReportPut (s o o' : List ℕ) (q : Place) : Type 0 where
  pub is : PiecesPut (report table_t table_r s) o (Ok 0) o' q

-- where a place is; 0 where it is refused
abbrev pub position_of : Place → ℕ
position_of (Ok n) = n
position_of (Err f) = 0

-- ---- what the lister promises

-- the text of any input fits so many bytes (`text_most`, RoomLaws)
abbrev pub room : ℕ
room = 290266

-- the text at the front of the room, the rest of the room as it was; the text's length (F8.7)
pub record Reported (s o o' : List ℕ) (n : ℕ) : Type 0 where
  pub bytes : o' ≡ over o 0 (joined (report table_t table_r s))
  pub count : n ≡ length (joined (report table_t table_r s))
