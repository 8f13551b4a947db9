-- F16.5: frames of 9P2000.u by hand from its layouts, each read, cut anywhere, and read as 9P2000; and 9P2000's read as .u. Computed from the definition.
use Rattle.std.specs.Prelude.{ℕ, zero, suc, ◌≡◌, refl, Bool, true, false, cond, List, [], ◌∷◌, map, length, eqb}
use Rattle.numbers.specs.Numbers.{from_le, to_le}
use Rattle.numbers.specs.Reading.{raw, read_num}
use Rattle.numbers.specs.Refusals.{number_of}
use Rattle.numbers.specs.declared.Refusal.TheVariants as R
use Rattle.utf8.specs.Utf8.{char, chars, utf8, sound, sound_start, no_zero, zero_at}
use Rattle.strings.specs.Strings.{read_string, string_bytes}
use Rattle.fields.specs.Layouts.{read_many, read_field, read_fields, read_cell, read_cells, follow, agrees, many_bytes, cell_bytes, cells_bytes, item_bytes, items_bytes}
use Rattle.fields.specs.Values.{slot, text, val, span, block, place_cells, places}
use Rattle.layouts.specs.Bodies.{Answer, accepted, refused}
use Rattle.layouts.specs.Plain as P
use Rattle.layouts.specs.TableLaws.{known_below}
use Rattle.stats.specs.Unix.{table_t, table_r}
use Rattle.framing.specs.Frames.{read_type_tag, read_header, read_frame}
use Rattle.framing.specs.Stretch.{answer_of}
use Rattle.framing.specs.Stripped.{resized, cut_at}

-- 13 requests and 14 replies, 9P2000's; 7 is not among them
pub known_requests : known_below 256 table_t ≡ 100 ∷ 102 ∷ 104 ∷ 108 ∷ 110 ∷ 112 ∷ 114 ∷ 116 ∷ 118 ∷ 120 ∷ 122 ∷ 124 ∷ 126 ∷ []
unfolding known_below
known_requests = refl

pub known_replies : known_below 256 table_r ≡ 101 ∷ 103 ∷ 105 ∷ 107 ∷ 109 ∷ 111 ∷ 113 ∷ 115 ∷ 117 ∷ 119 ∷ 121 ∷ 123 ∷ 125 ∷ 127 ∷ []
unfolding known_below
known_replies = refl

-- ---- the frames that differ

-- Tauth afid 9, user g, tree t, n_uname 1,000
abbrev pub tauth : List ℕ
tauth = 21 ∷ 0 ∷ 0 ∷ 0 ∷ 102 ∷ 6 ∷ 0 ∷ 9 ∷ 0 ∷ 0 ∷ 0 ∷ 1 ∷ 0 ∷ 103 ∷ 1 ∷ 0 ∷ 116 ∷ 232 ∷ 3 ∷ 0 ∷ 0 ∷ []

-- Tattach fid 1, no afid, user g, no tree, n_uname 1,000
abbrev pub tattach : List ℕ
tattach = 24 ∷ 0 ∷ 0 ∷ 0 ∷ 104 ∷ 1 ∷ 0 ∷ 1 ∷ 0 ∷ 0 ∷ 0 ∷ 255 ∷ 255 ∷ 255 ∷ 255 ∷ 1 ∷ 0 ∷ 103 ∷ 0 ∷ 0 ∷ 232 ∷ 3 ∷ 0 ∷ 0 ∷ []

-- Tcreate fid 1, n, perm 0644, mode 1, extension x
abbrev pub tcreate : List ℕ
tcreate = 22 ∷ 0 ∷ 0 ∷ 0 ∷ 114 ∷ 3 ∷ 0 ∷ 1 ∷ 0 ∷ 0 ∷ 0 ∷ 1 ∷ 0 ∷ 110 ∷ 164 ∷ 1 ∷ 0 ∷ 0 ∷ 1 ∷ 1 ∷ 0 ∷ 120 ∷ []

-- Rerror: no, errno 2
abbrev pub rerror : List ℕ
rerror = 15 ∷ 0 ∷ 0 ∷ 0 ∷ 107 ∷ 3 ∷ 0 ∷ 2 ∷ 0 ∷ 110 ∷ 111 ∷ 2 ∷ 0 ∷ 0 ∷ 0 ∷ []

-- Rstat: type 1, dev 2, qid 0 3 4, mode 0644, times 5 and 6, length 7, a, b, no group, cd, extension e, and 8, 9, 10. Its count is 68, its size 66
abbrev pub rstat : List ℕ
rstat = 77 ∷ 0 ∷ 0 ∷ 0 ∷ 125 ∷ 4 ∷ 0 ∷ 68 ∷ 0 ∷ 66 ∷ 0 ∷ 1 ∷ 0 ∷ 2 ∷ 0 ∷ 0 ∷ 0 ∷ 0 ∷ 3 ∷ 0 ∷ 0 ∷ 0 ∷ 4 ∷ 0 ∷ 0 ∷ 0 ∷ 0 ∷ 0 ∷ 0 ∷ 0 ∷ 164 ∷ 1 ∷ 0 ∷ 0 ∷ 5 ∷ 0 ∷ 0 ∷ 0 ∷ 6 ∷ 0 ∷ 0 ∷ 0 ∷ 7 ∷ 0 ∷ 0 ∷ 0 ∷ 0 ∷ 0 ∷ 0 ∷ 0 ∷ 1 ∷ 0 ∷ 97 ∷ 1 ∷ 0 ∷ 98 ∷ 0 ∷ 0 ∷ 2 ∷ 0 ∷ 99 ∷ 100 ∷ 1 ∷ 0 ∷ 101 ∷ 8 ∷ 0 ∷ 0 ∷ 0 ∷ 9 ∷ 0 ∷ 0 ∷ 0 ∷ 10 ∷ 0 ∷ 0 ∷ 0 ∷ []

-- Twstat fid 1 and the same stat
abbrev pub twstat : List ℕ
twstat = 81 ∷ 0 ∷ 0 ∷ 0 ∷ 126 ∷ 5 ∷ 0 ∷ 1 ∷ 0 ∷ 0 ∷ 0 ∷ 68 ∷ 0 ∷ 66 ∷ 0 ∷ 1 ∷ 0 ∷ 2 ∷ 0 ∷ 0 ∷ 0 ∷ 0 ∷ 3 ∷ 0 ∷ 0 ∷ 0 ∷ 4 ∷ 0 ∷ 0 ∷ 0 ∷ 0 ∷ 0 ∷ 0 ∷ 0 ∷ 164 ∷ 1 ∷ 0 ∷ 0 ∷ 5 ∷ 0 ∷ 0 ∷ 0 ∷ 6 ∷ 0 ∷ 0 ∷ 0 ∷ 7 ∷ 0 ∷ 0 ∷ 0 ∷ 0 ∷ 0 ∷ 0 ∷ 0 ∷ 1 ∷ 0 ∷ 97 ∷ 1 ∷ 0 ∷ 98 ∷ 0 ∷ 0 ∷ 2 ∷ 0 ∷ 99 ∷ 100 ∷ 1 ∷ 0 ∷ 101 ∷ 8 ∷ 0 ∷ 0 ∷ 0 ∷ 9 ∷ 0 ∷ 0 ∷ 0 ∷ 10 ∷ 0 ∷ 0 ∷ 0 ∷ []

abbrev frames : List (List ℕ)
frames = tauth ∷ tattach ∷ tcreate ∷ rerror ∷ rstat ∷ twstat ∷ []

pub read : map (answer_of table_t table_r) frames
    ≡ accepted 102 (val 9 ∷ span 13 1 ∷ span 16 1 ∷ val 1000 ∷ []) 21
    ∷ accepted 104 (val 1 ∷ val 4294967295 ∷ span 17 1 ∷ span 20 0 ∷ val 1000 ∷ []) 24
    ∷ accepted 114 (val 1 ∷ span 13 1 ∷ val 420 ∷ val 1 ∷ span 21 1 ∷ []) 22
    ∷ accepted 107 (span 9 2 ∷ val 2 ∷ []) 15
    ∷ accepted 125 (block (slot 1 ∷ slot 2 ∷ slot 0 ∷ slot 3 ∷ slot 4 ∷ slot 420 ∷ slot 5 ∷ slot 6 ∷ slot 7 ∷ text 52 1 ∷ text 55 1 ∷ text 58 0 ∷ text 60 2 ∷ text 64 1 ∷ slot 8 ∷ slot 9 ∷ slot 10 ∷ []) ∷ []) 77
    ∷ accepted 126 (val 1 ∷ block (slot 1 ∷ slot 2 ∷ slot 0 ∷ slot 3 ∷ slot 4 ∷ slot 420 ∷ slot 5 ∷ slot 6 ∷ slot 7 ∷ text 56 1 ∷ text 59 1 ∷ text 62 0 ∷ text 64 2 ∷ text 68 1 ∷ slot 8 ∷ slot 9 ∷ slot 10 ∷ []) ∷ []) 81
    ∷ []
unfolding from_le to_le raw read_num char chars utf8 sound sound_start no_zero zero_at read_string string_bytes read_many read_field read_fields read_cell read_cells follow agrees many_bytes cell_bytes cells_bytes item_bytes items_bytes places place_cells read_type_tag read_header read_frame answer_of
read = refl

-- ---- cut anywhere, they are short

abbrev is_short : Answer → Bool
is_short (accepted ty vs n) = false
is_short (refused k at) = eqb (number_of k) 1

unfoldable pub short_below : ℕ → List ℕ → Bool
short_below zero s = true
short_below (suc j) s = cond (is_short (answer_of table_t table_r (cut_at j s))) (short_below j s) false

pub cut : map (λ s. short_below (length s) s) frames ≡ true ∷ true ∷ true ∷ true ∷ true ∷ true ∷ []
unfolding short_below cut_at resized from_le to_le raw read_num char chars utf8 sound sound_start no_zero zero_at read_string string_bytes read_many read_field read_fields read_cell read_cells follow agrees many_bytes cell_bytes cells_bytes item_bytes items_bytes places place_cells read_type_tag read_header read_frame answer_of
cut = refl

-- ---- read as 9P2000: the same fields, and what is left is tail; but a stat is 18

pub as_9p2000 : map (answer_of P.table_t P.table_r) frames
    ≡ accepted 102 (val 9 ∷ span 13 1 ∷ span 16 1 ∷ []) 17
    ∷ accepted 104 (val 1 ∷ val 4294967295 ∷ span 17 1 ∷ span 20 0 ∷ []) 20
    ∷ accepted 114 (val 1 ∷ span 13 1 ∷ val 420 ∷ val 1 ∷ []) 19
    ∷ accepted 107 (span 9 2 ∷ []) 11
    ∷ refused R.StatMalformed 0
    ∷ refused R.StatMalformed 0
    ∷ []
unfolding from_le to_le raw read_num char chars utf8 sound sound_start no_zero zero_at read_string string_bytes read_many read_field read_fields read_cell read_cells follow agrees many_bytes cell_bytes cells_bytes item_bytes items_bytes places place_cells read_type_tag read_header read_frame answer_of
as_9p2000 = refl

-- ---- 9P2000's without a tail, read as .u: short; but a stat is 18

abbrev plain_frames : List (List ℕ)
plain_frames =
    (17 ∷ 0 ∷ 0 ∷ 0 ∷ 102 ∷ 6 ∷ 0 ∷ 9 ∷ 0 ∷ 0 ∷ 0 ∷ 1 ∷ 0 ∷ 103 ∷ 1 ∷ 0 ∷ 116 ∷ [])
    ∷ (20 ∷ 0 ∷ 0 ∷ 0 ∷ 104 ∷ 1 ∷ 0 ∷ 1 ∷ 0 ∷ 0 ∷ 0 ∷ 255 ∷ 255 ∷ 255 ∷ 255 ∷ 1 ∷ 0 ∷ 103 ∷ 0 ∷ 0 ∷ [])
    ∷ (19 ∷ 0 ∷ 0 ∷ 0 ∷ 114 ∷ 3 ∷ 0 ∷ 1 ∷ 0 ∷ 0 ∷ 0 ∷ 1 ∷ 0 ∷ 110 ∷ 164 ∷ 1 ∷ 0 ∷ 0 ∷ 1 ∷ [])
    ∷ (11 ∷ 0 ∷ 0 ∷ 0 ∷ 107 ∷ 3 ∷ 0 ∷ 2 ∷ 0 ∷ 110 ∷ 111 ∷ [])
    ∷ (62 ∷ 0 ∷ 0 ∷ 0 ∷ 125 ∷ 4 ∷ 0 ∷ 53 ∷ 0 ∷ 51 ∷ 0 ∷ 1 ∷ 0 ∷ 2 ∷ 0 ∷ 0 ∷ 0 ∷ 0 ∷ 3 ∷ 0 ∷ 0 ∷ 0 ∷ 4 ∷ 0 ∷ 0 ∷ 0 ∷ 0 ∷ 0 ∷ 0 ∷ 0 ∷ 164 ∷ 1 ∷ 0 ∷ 0 ∷ 5 ∷ 0 ∷ 0 ∷ 0 ∷ 6 ∷ 0 ∷ 0 ∷ 0 ∷ 7 ∷ 0 ∷ 0 ∷ 0 ∷ 0 ∷ 0 ∷ 0 ∷ 0 ∷ 1 ∷ 0 ∷ 97 ∷ 1 ∷ 0 ∷ 98 ∷ 0 ∷ 0 ∷ 2 ∷ 0 ∷ 99 ∷ 100 ∷ [])
    ∷ (66 ∷ 0 ∷ 0 ∷ 0 ∷ 126 ∷ 5 ∷ 0 ∷ 1 ∷ 0 ∷ 0 ∷ 0 ∷ 53 ∷ 0 ∷ 51 ∷ 0 ∷ 1 ∷ 0 ∷ 2 ∷ 0 ∷ 0 ∷ 0 ∷ 0 ∷ 3 ∷ 0 ∷ 0 ∷ 0 ∷ 4 ∷ 0 ∷ 0 ∷ 0 ∷ 0 ∷ 0 ∷ 0 ∷ 0 ∷ 164 ∷ 1 ∷ 0 ∷ 0 ∷ 5 ∷ 0 ∷ 0 ∷ 0 ∷ 6 ∷ 0 ∷ 0 ∷ 0 ∷ 7 ∷ 0 ∷ 0 ∷ 0 ∷ 0 ∷ 0 ∷ 0 ∷ 0 ∷ 1 ∷ 0 ∷ 97 ∷ 1 ∷ 0 ∷ 98 ∷ 0 ∷ 0 ∷ 2 ∷ 0 ∷ 99 ∷ 100 ∷ [])
    ∷ []

pub of_9p2000 : map (answer_of table_t table_r) plain_frames
    ≡ refused R.Short 0 ∷ refused R.Short 0 ∷ refused R.Short 0 ∷ refused R.Short 0 ∷ refused R.StatMalformed 0 ∷ refused R.StatMalformed 0 ∷ []
unfolding from_le to_le raw read_num char chars utf8 sound sound_start no_zero zero_at read_string string_bytes read_many read_field read_fields read_cell read_cells follow agrees many_bytes cell_bytes cells_bytes item_bytes items_bytes places place_cells read_type_tag read_header read_frame answer_of
of_9p2000 = refl

-- ---- stats whose counts do not agree

-- the count is 0 before a full stat, as one server sends it; a size of one less; an extension that runs on past the count
pub not_agreed : map (answer_of table_t table_r)
    ((77 ∷ 0 ∷ 0 ∷ 0 ∷ 125 ∷ 4 ∷ 0 ∷ 0 ∷ 0 ∷ 66 ∷ 0 ∷ 1 ∷ 0 ∷ 2 ∷ 0 ∷ 0 ∷ 0 ∷ 0 ∷ 3 ∷ 0 ∷ 0 ∷ 0 ∷ 4 ∷ 0 ∷ 0 ∷ 0 ∷ 0 ∷ 0 ∷ 0 ∷ 0 ∷ 164 ∷ 1 ∷ 0 ∷ 0 ∷ 5 ∷ 0 ∷ 0 ∷ 0 ∷ 6 ∷ 0 ∷ 0 ∷ 0 ∷ 7 ∷ 0 ∷ 0 ∷ 0 ∷ 0 ∷ 0 ∷ 0 ∷ 0 ∷ 1 ∷ 0 ∷ 97 ∷ 1 ∷ 0 ∷ 98 ∷ 0 ∷ 0 ∷ 2 ∷ 0 ∷ 99 ∷ 100 ∷ 1 ∷ 0 ∷ 101 ∷ 8 ∷ 0 ∷ 0 ∷ 0 ∷ 9 ∷ 0 ∷ 0 ∷ 0 ∷ 10 ∷ 0 ∷ 0 ∷ 0 ∷ [])
    ∷ (77 ∷ 0 ∷ 0 ∷ 0 ∷ 125 ∷ 4 ∷ 0 ∷ 68 ∷ 0 ∷ 65 ∷ 0 ∷ 1 ∷ 0 ∷ 2 ∷ 0 ∷ 0 ∷ 0 ∷ 0 ∷ 3 ∷ 0 ∷ 0 ∷ 0 ∷ 4 ∷ 0 ∷ 0 ∷ 0 ∷ 0 ∷ 0 ∷ 0 ∷ 0 ∷ 164 ∷ 1 ∷ 0 ∷ 0 ∷ 5 ∷ 0 ∷ 0 ∷ 0 ∷ 6 ∷ 0 ∷ 0 ∷ 0 ∷ 7 ∷ 0 ∷ 0 ∷ 0 ∷ 0 ∷ 0 ∷ 0 ∷ 0 ∷ 1 ∷ 0 ∷ 97 ∷ 1 ∷ 0 ∷ 98 ∷ 0 ∷ 0 ∷ 2 ∷ 0 ∷ 99 ∷ 100 ∷ 1 ∷ 0 ∷ 101 ∷ 8 ∷ 0 ∷ 0 ∷ 0 ∷ 9 ∷ 0 ∷ 0 ∷ 0 ∷ 10 ∷ 0 ∷ 0 ∷ 0 ∷ [])
    ∷ (78 ∷ 0 ∷ 0 ∷ 0 ∷ 125 ∷ 4 ∷ 0 ∷ 68 ∷ 0 ∷ 66 ∷ 0 ∷ 1 ∷ 0 ∷ 2 ∷ 0 ∷ 0 ∷ 0 ∷ 0 ∷ 3 ∷ 0 ∷ 0 ∷ 0 ∷ 4 ∷ 0 ∷ 0 ∷ 0 ∷ 0 ∷ 0 ∷ 0 ∷ 0 ∷ 164 ∷ 1 ∷ 0 ∷ 0 ∷ 5 ∷ 0 ∷ 0 ∷ 0 ∷ 6 ∷ 0 ∷ 0 ∷ 0 ∷ 7 ∷ 0 ∷ 0 ∷ 0 ∷ 0 ∷ 0 ∷ 0 ∷ 0 ∷ 1 ∷ 0 ∷ 97 ∷ 1 ∷ 0 ∷ 98 ∷ 0 ∷ 0 ∷ 2 ∷ 0 ∷ 99 ∷ 100 ∷ 14 ∷ 0 ∷ 101 ∷ 8 ∷ 0 ∷ 0 ∷ 0 ∷ 9 ∷ 0 ∷ 0 ∷ 0 ∷ 10 ∷ 0 ∷ 0 ∷ 0 ∷ 0 ∷ [])
    ∷ [])
    ≡ refused R.StatMalformed 0 ∷ refused R.StatMalformed 0 ∷ refused R.StatMalformed 0 ∷ []
unfolding from_le to_le raw read_num char chars utf8 sound sound_start no_zero zero_at read_string string_bytes read_many read_field read_fields read_cell read_cells follow agrees many_bytes cell_bytes cells_bytes item_bytes items_bytes places place_cells read_type_tag read_header read_frame answer_of
not_agreed = refl
