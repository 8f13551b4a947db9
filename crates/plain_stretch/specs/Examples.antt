-- F14.7: frames of 9P2000 by hand from the manual's pages, each read, cut anywhere, and with its counts off by one; computed from the definition.
use Rattle.std.specs.Prelude.{ℕ, zero, suc, ◌≡◌, refl, Bool, true, false, cond, List, [], ◌∷◌, eqb}
use Rattle.numbers.specs.Numbers.{from_le, to_le}
use Rattle.numbers.specs.Reading.{raw, read_num}
use Rattle.numbers.specs.Refusals.{number_of}
use Rattle.numbers.specs.declared.Refusal.TheVariants as R
use Rattle.utf8.specs.Utf8.{char, chars, utf8, sound, sound_start, no_zero, zero_at}
use Rattle.strings.specs.Strings.{read_string, string_bytes}
use Rattle.fields.specs.Layouts.{read_many, read_field, read_fields, read_cell, read_cells, follow, agrees, many_bytes, cell_bytes, cells_bytes, item_bytes, items_bytes}
use Rattle.fields.specs.Values.{slot, text, val, span, block, place_cells, places}
use Rattle.layouts.specs.Plain.{table_t, table_r}
use Rattle.layouts.specs.Bodies.{Answer, accepted, refused}
use Rattle.framing.specs.Frames.{read_type_tag, read_header, read_frame}
use Rattle.framing.specs.Stretch.{answer_of}
use Rattle.framing.specs.Stripped.{resized, cut_at}

-- ---- each frame, read

-- Tversion of 8,192 bytes, 9P2000
abbrev pub tversion : List ℕ
tversion = 19 ∷ 0 ∷ 0 ∷ 0 ∷ 100 ∷ 255 ∷ 255 ∷ 0 ∷ 32 ∷ 0 ∷ 0 ∷ 6 ∷ 0 ∷ 57 ∷ 80 ∷ 50 ∷ 48 ∷ 48 ∷ 48 ∷ []

pub tversion_read : answer_of table_t table_r tversion ≡ accepted 100 (val 8192 ∷ span 13 6 ∷ []) 19
unfolding from_le to_le raw read_num char chars utf8 sound sound_start no_zero zero_at read_string string_bytes read_many read_field read_fields read_cell read_cells follow agrees many_bytes cell_bytes cells_bytes item_bytes items_bytes places place_cells read_type_tag read_header read_frame answer_of
tversion_read = refl

-- Tauth afid 9, user g, tree t: no n_uname follows
abbrev pub tauth : List ℕ
tauth = 17 ∷ 0 ∷ 0 ∷ 0 ∷ 102 ∷ 6 ∷ 0 ∷ 9 ∷ 0 ∷ 0 ∷ 0 ∷ 1 ∷ 0 ∷ 103 ∷ 1 ∷ 0 ∷ 116 ∷ []

pub tauth_read : answer_of table_t table_r tauth ≡ accepted 102 (val 9 ∷ span 13 1 ∷ span 16 1 ∷ []) 17
unfolding from_le to_le raw read_num char chars utf8 sound sound_start no_zero zero_at read_string string_bytes read_many read_field read_fields read_cell read_cells follow agrees many_bytes cell_bytes cells_bytes item_bytes items_bytes places place_cells read_type_tag read_header read_frame answer_of
tauth_read = refl

-- Tattach fid 1, no afid, user g, no tree: no n_uname follows
abbrev pub tattach : List ℕ
tattach = 20 ∷ 0 ∷ 0 ∷ 0 ∷ 104 ∷ 1 ∷ 0 ∷ 1 ∷ 0 ∷ 0 ∷ 0 ∷ 255 ∷ 255 ∷ 255 ∷ 255 ∷ 1 ∷ 0 ∷ 103 ∷ 0 ∷ 0 ∷ []

pub tattach_read : answer_of table_t table_r tattach ≡ accepted 104 (val 1 ∷ val 4294967295 ∷ span 17 1 ∷ span 20 0 ∷ []) 20
unfolding from_le to_le raw read_num char chars utf8 sound sound_start no_zero zero_at read_string string_bytes read_many read_field read_fields read_cell read_cells follow agrees many_bytes cell_bytes cells_bytes item_bytes items_bytes places place_cells read_type_tag read_header read_frame answer_of
tattach_read = refl

-- Topen fid 1, mode 0
abbrev pub topen : List ℕ
topen = 12 ∷ 0 ∷ 0 ∷ 0 ∷ 112 ∷ 2 ∷ 0 ∷ 1 ∷ 0 ∷ 0 ∷ 0 ∷ 0 ∷ []

pub topen_read : answer_of table_t table_r topen ≡ accepted 112 (val 1 ∷ val 0 ∷ []) 12
unfolding from_le to_le raw read_num char chars utf8 sound sound_start no_zero zero_at read_string string_bytes read_many read_field read_fields read_cell read_cells follow agrees many_bytes cell_bytes cells_bytes item_bytes items_bytes places place_cells read_type_tag read_header read_frame answer_of
topen_read = refl

-- Ropen: a directory, version 1, path 2; iounit 0
abbrev pub ropen : List ℕ
ropen = 24 ∷ 0 ∷ 0 ∷ 0 ∷ 113 ∷ 2 ∷ 0 ∷ 128 ∷ 1 ∷ 0 ∷ 0 ∷ 0 ∷ 2 ∷ 0 ∷ 0 ∷ 0 ∷ 0 ∷ 0 ∷ 0 ∷ 0 ∷ 0 ∷ 0 ∷ 0 ∷ 0 ∷ []

pub ropen_read : answer_of table_t table_r ropen ≡ accepted 113 (val 128 ∷ val 1 ∷ val 2 ∷ val 0 ∷ []) 24
unfolding from_le to_le raw read_num char chars utf8 sound sound_start no_zero zero_at read_string string_bytes read_many read_field read_fields read_cell read_cells follow agrees many_bytes cell_bytes cells_bytes item_bytes items_bytes places place_cells read_type_tag read_header read_frame answer_of
ropen_read = refl

-- Tcreate fid 1, n, perm 0644, mode 1
abbrev pub tcreate : List ℕ
tcreate = 19 ∷ 0 ∷ 0 ∷ 0 ∷ 114 ∷ 3 ∷ 0 ∷ 1 ∷ 0 ∷ 0 ∷ 0 ∷ 1 ∷ 0 ∷ 110 ∷ 164 ∷ 1 ∷ 0 ∷ 0 ∷ 1 ∷ []

pub tcreate_read : answer_of table_t table_r tcreate ≡ accepted 114 (val 1 ∷ span 13 1 ∷ val 420 ∷ val 1 ∷ []) 19
unfolding from_le to_le raw read_num char chars utf8 sound sound_start no_zero zero_at read_string string_bytes read_many read_field read_fields read_cell read_cells follow agrees many_bytes cell_bytes cells_bytes item_bytes items_bytes places place_cells read_type_tag read_header read_frame answer_of
tcreate_read = refl

-- Rerror: no
abbrev pub rerror : List ℕ
rerror = 11 ∷ 0 ∷ 0 ∷ 0 ∷ 107 ∷ 3 ∷ 0 ∷ 2 ∷ 0 ∷ 110 ∷ 111 ∷ []

pub rerror_read : answer_of table_t table_r rerror ≡ accepted 107 (span 9 2 ∷ []) 11
unfolding from_le to_le raw read_num char chars utf8 sound sound_start no_zero zero_at read_string string_bytes read_many read_field read_fields read_cell read_cells follow agrees many_bytes cell_bytes cells_bytes item_bytes items_bytes places place_cells read_type_tag read_header read_frame answer_of
rerror_read = refl

-- Tstat fid 1
abbrev pub tstat : List ℕ
tstat = 11 ∷ 0 ∷ 0 ∷ 0 ∷ 124 ∷ 4 ∷ 0 ∷ 1 ∷ 0 ∷ 0 ∷ 0 ∷ []

pub tstat_read : answer_of table_t table_r tstat ≡ accepted 124 (val 1 ∷ []) 11
unfolding from_le to_le raw read_num char chars utf8 sound sound_start no_zero zero_at read_string string_bytes read_many read_field read_fields read_cell read_cells follow agrees many_bytes cell_bytes cells_bytes item_bytes items_bytes places place_cells read_type_tag read_header read_frame answer_of
tstat_read = refl

-- Rstat: type 1, dev 2, qid 0 3 4, mode 0644, times 5 and 6, length 7, a, b, no group, cd. Its count is 53, its size 51
abbrev pub rstat : List ℕ
rstat = 62 ∷ 0 ∷ 0 ∷ 0 ∷ 125 ∷ 4 ∷ 0 ∷ 53 ∷ 0 ∷ 51 ∷ 0 ∷ 1 ∷ 0 ∷ 2 ∷ 0 ∷ 0 ∷ 0 ∷ 0 ∷ 3 ∷ 0 ∷ 0 ∷ 0 ∷ 4 ∷ 0 ∷ 0 ∷ 0 ∷ 0 ∷ 0 ∷ 0 ∷ 0 ∷ 164 ∷ 1 ∷ 0 ∷ 0 ∷ 5 ∷ 0 ∷ 0 ∷ 0 ∷ 6 ∷ 0 ∷ 0 ∷ 0 ∷ 7 ∷ 0 ∷ 0 ∷ 0 ∷ 0 ∷ 0 ∷ 0 ∷ 0 ∷ 1 ∷ 0 ∷ 97 ∷ 1 ∷ 0 ∷ 98 ∷ 0 ∷ 0 ∷ 2 ∷ 0 ∷ 99 ∷ 100 ∷ []

pub rstat_read : answer_of table_t table_r rstat ≡ accepted 125 (block (slot 1 ∷ slot 2 ∷ slot 0 ∷ slot 3 ∷ slot 4 ∷ slot 420 ∷ slot 5 ∷ slot 6 ∷ slot 7 ∷ text 52 1 ∷ text 55 1 ∷ text 58 0 ∷ text 60 2 ∷ []) ∷ []) 62
unfolding from_le to_le raw read_num char chars utf8 sound sound_start no_zero zero_at read_string string_bytes read_many read_field read_fields read_cell read_cells follow agrees many_bytes cell_bytes cells_bytes item_bytes items_bytes places place_cells read_type_tag read_header read_frame answer_of
rstat_read = refl

-- Twstat fid 1 and the same stat
abbrev pub twstat : List ℕ
twstat = 66 ∷ 0 ∷ 0 ∷ 0 ∷ 126 ∷ 5 ∷ 0 ∷ 1 ∷ 0 ∷ 0 ∷ 0 ∷ 53 ∷ 0 ∷ 51 ∷ 0 ∷ 1 ∷ 0 ∷ 2 ∷ 0 ∷ 0 ∷ 0 ∷ 0 ∷ 3 ∷ 0 ∷ 0 ∷ 0 ∷ 4 ∷ 0 ∷ 0 ∷ 0 ∷ 0 ∷ 0 ∷ 0 ∷ 0 ∷ 164 ∷ 1 ∷ 0 ∷ 0 ∷ 5 ∷ 0 ∷ 0 ∷ 0 ∷ 6 ∷ 0 ∷ 0 ∷ 0 ∷ 7 ∷ 0 ∷ 0 ∷ 0 ∷ 0 ∷ 0 ∷ 0 ∷ 0 ∷ 1 ∷ 0 ∷ 97 ∷ 1 ∷ 0 ∷ 98 ∷ 0 ∷ 0 ∷ 2 ∷ 0 ∷ 99 ∷ 100 ∷ []

pub twstat_read : answer_of table_t table_r twstat ≡ accepted 126 (val 1 ∷ block (slot 1 ∷ slot 2 ∷ slot 0 ∷ slot 3 ∷ slot 4 ∷ slot 420 ∷ slot 5 ∷ slot 6 ∷ slot 7 ∷ text 56 1 ∷ text 59 1 ∷ text 62 0 ∷ text 64 2 ∷ []) ∷ []) 66
unfolding from_le to_le raw read_num char chars utf8 sound sound_start no_zero zero_at read_string string_bytes read_many read_field read_fields read_cell read_cells follow agrees many_bytes cell_bytes cells_bytes item_bytes items_bytes places place_cells read_type_tag read_header read_frame answer_of
twstat_read = refl

-- Rwstat
abbrev pub rwstat : List ℕ
rwstat = 7 ∷ 0 ∷ 0 ∷ 0 ∷ 127 ∷ 5 ∷ 0 ∷ []

pub rwstat_read : answer_of table_t table_r rwstat ≡ accepted 127 ([]) 7
unfolding from_le to_le raw read_num char chars utf8 sound sound_start no_zero zero_at read_string string_bytes read_many read_field read_fields read_cell read_cells follow agrees many_bytes cell_bytes cells_bytes item_bytes items_bytes places place_cells read_type_tag read_header read_frame answer_of
rwstat_read = refl

-- ---- 9P2000.L's own types are unknown, 7 among them

pub no_lerror : answer_of table_t table_r (11 ∷ 0 ∷ 0 ∷ 0 ∷ 7 ∷ 1 ∷ 0 ∷ 2 ∷ 0 ∷ 0 ∷ 0 ∷ []) ≡ refused R.UnknownType 0
unfolding from_le to_le raw read_num char chars utf8 sound sound_start no_zero zero_at read_string string_bytes read_many read_field read_fields read_cell read_cells follow agrees many_bytes cell_bytes cells_bytes item_bytes items_bytes places place_cells read_type_tag read_header read_frame answer_of
no_lerror = refl

pub no_lopen : answer_of table_t table_r (15 ∷ 0 ∷ 0 ∷ 0 ∷ 12 ∷ 1 ∷ 0 ∷ 1 ∷ 0 ∷ 0 ∷ 0 ∷ 0 ∷ 0 ∷ 0 ∷ 0 ∷ []) ≡ refused R.UnknownType 0
unfolding from_le to_le raw read_num char chars utf8 sound sound_start no_zero zero_at read_string string_bytes read_many read_field read_fields read_cell read_cells follow agrees many_bytes cell_bytes cells_bytes item_bytes items_bytes places place_cells read_type_tag read_header read_frame answer_of
no_lopen = refl

-- ---- cut anywhere, they are short

abbrev is_short : Answer → Bool
is_short (accepted ty vs n) = false
is_short (refused k at) = eqb (number_of k) 1

-- cut at each place below n
unfoldable pub short_below : ℕ → List ℕ → Bool
short_below zero s = true
short_below (suc j) s = cond (is_short (answer_of table_t table_r (cut_at j s))) (short_below j s) false

pub tauth_cut : short_below 17 tauth ≡ true
unfolding short_below cut_at resized from_le to_le raw read_num char chars utf8 sound sound_start no_zero zero_at read_string string_bytes read_many read_field read_fields read_cell read_cells follow agrees many_bytes cell_bytes cells_bytes item_bytes items_bytes places place_cells read_type_tag read_header read_frame answer_of
tauth_cut = refl

pub tattach_cut : short_below 20 tattach ≡ true
unfolding short_below cut_at resized from_le to_le raw read_num char chars utf8 sound sound_start no_zero zero_at read_string string_bytes read_many read_field read_fields read_cell read_cells follow agrees many_bytes cell_bytes cells_bytes item_bytes items_bytes places place_cells read_type_tag read_header read_frame answer_of
tattach_cut = refl

pub topen_cut : short_below 12 topen ≡ true
unfolding short_below cut_at resized from_le to_le raw read_num char chars utf8 sound sound_start no_zero zero_at read_string string_bytes read_many read_field read_fields read_cell read_cells follow agrees many_bytes cell_bytes cells_bytes item_bytes items_bytes places place_cells read_type_tag read_header read_frame answer_of
topen_cut = refl

pub ropen_cut : short_below 24 ropen ≡ true
unfolding short_below cut_at resized from_le to_le raw read_num char chars utf8 sound sound_start no_zero zero_at read_string string_bytes read_many read_field read_fields read_cell read_cells follow agrees many_bytes cell_bytes cells_bytes item_bytes items_bytes places place_cells read_type_tag read_header read_frame answer_of
ropen_cut = refl

pub tcreate_cut : short_below 19 tcreate ≡ true
unfolding short_below cut_at resized from_le to_le raw read_num char chars utf8 sound sound_start no_zero zero_at read_string string_bytes read_many read_field read_fields read_cell read_cells follow agrees many_bytes cell_bytes cells_bytes item_bytes items_bytes places place_cells read_type_tag read_header read_frame answer_of
tcreate_cut = refl

pub rerror_cut : short_below 11 rerror ≡ true
unfolding short_below cut_at resized from_le to_le raw read_num char chars utf8 sound sound_start no_zero zero_at read_string string_bytes read_many read_field read_fields read_cell read_cells follow agrees many_bytes cell_bytes cells_bytes item_bytes items_bytes places place_cells read_type_tag read_header read_frame answer_of
rerror_cut = refl

pub tstat_cut : short_below 11 tstat ≡ true
unfolding short_below cut_at resized from_le to_le raw read_num char chars utf8 sound sound_start no_zero zero_at read_string string_bytes read_many read_field read_fields read_cell read_cells follow agrees many_bytes cell_bytes cells_bytes item_bytes items_bytes places place_cells read_type_tag read_header read_frame answer_of
tstat_cut = refl

pub rstat_cut : short_below 62 rstat ≡ true
unfolding short_below cut_at resized from_le to_le raw read_num char chars utf8 sound sound_start no_zero zero_at read_string string_bytes read_many read_field read_fields read_cell read_cells follow agrees many_bytes cell_bytes cells_bytes item_bytes items_bytes places place_cells read_type_tag read_header read_frame answer_of
rstat_cut = refl

pub twstat_cut : short_below 66 twstat ≡ true
unfolding short_below cut_at resized from_le to_le raw read_num char chars utf8 sound sound_start no_zero zero_at read_string string_bytes read_many read_field read_fields read_cell read_cells follow agrees many_bytes cell_bytes cells_bytes item_bytes items_bytes places place_cells read_type_tag read_header read_frame answer_of
twstat_cut = refl

-- ---- a stat whose counts do not agree

-- its count is 0: it has no size
pub n_0 : answer_of table_t table_r (9 ∷ 0 ∷ 0 ∷ 0 ∷ 125 ∷ 4 ∷ 0 ∷ 0 ∷ 0 ∷ []) ≡ refused R.StatMalformed 0
unfolding from_le to_le raw read_num char chars utf8 sound sound_start no_zero zero_at read_string string_bytes read_many read_field read_fields read_cell read_cells follow agrees many_bytes cell_bytes cells_bytes item_bytes items_bytes places place_cells read_type_tag read_header read_frame answer_of
n_0 = refl

-- its count is 1
pub n_1 : answer_of table_t table_r (10 ∷ 0 ∷ 0 ∷ 0 ∷ 125 ∷ 4 ∷ 0 ∷ 1 ∷ 0 ∷ 0 ∷ []) ≡ refused R.StatMalformed 0
unfolding from_le to_le raw read_num char chars utf8 sound sound_start no_zero zero_at read_string string_bytes read_many read_field read_fields read_cell read_cells follow agrees many_bytes cell_bytes cells_bytes item_bytes items_bytes places place_cells read_type_tag read_header read_frame answer_of
n_1 = refl

-- its count is 2: a size of 0, and no fields
pub n_2 : answer_of table_t table_r (11 ∷ 0 ∷ 0 ∷ 0 ∷ 125 ∷ 4 ∷ 0 ∷ 2 ∷ 0 ∷ 0 ∷ 0 ∷ []) ≡ refused R.StatMalformed 0
unfolding from_le to_le raw read_num char chars utf8 sound sound_start no_zero zero_at read_string string_bytes read_many read_field read_fields read_cell read_cells follow agrees many_bytes cell_bytes cells_bytes item_bytes items_bytes places place_cells read_type_tag read_header read_frame answer_of
n_2 = refl

-- its count is 48: the last count is cut
pub n_48 : answer_of table_t table_r (57 ∷ 0 ∷ 0 ∷ 0 ∷ 125 ∷ 4 ∷ 0 ∷ 48 ∷ 0 ∷ 46 ∷ 0 ∷ 1 ∷ 0 ∷ 2 ∷ 0 ∷ 0 ∷ 0 ∷ 0 ∷ 3 ∷ 0 ∷ 0 ∷ 0 ∷ 4 ∷ 0 ∷ 0 ∷ 0 ∷ 0 ∷ 0 ∷ 0 ∷ 0 ∷ 164 ∷ 1 ∷ 0 ∷ 0 ∷ 5 ∷ 0 ∷ 0 ∷ 0 ∷ 6 ∷ 0 ∷ 0 ∷ 0 ∷ 7 ∷ 0 ∷ 0 ∷ 0 ∷ 0 ∷ 0 ∷ 0 ∷ 0 ∷ 0 ∷ 0 ∷ 0 ∷ 0 ∷ 0 ∷ 0 ∷ 0 ∷ []) ≡ refused R.StatMalformed 0
unfolding from_le to_le raw read_num char chars utf8 sound sound_start no_zero zero_at read_string string_bytes read_many read_field read_fields read_cell read_cells follow agrees many_bytes cell_bytes cells_bytes item_bytes items_bytes places place_cells read_type_tag read_header read_frame answer_of
n_48 = refl

-- its count is one less than its fields end
pub count_less : answer_of table_t table_r (62 ∷ 0 ∷ 0 ∷ 0 ∷ 125 ∷ 4 ∷ 0 ∷ 52 ∷ 0 ∷ 51 ∷ 0 ∷ 1 ∷ 0 ∷ 2 ∷ 0 ∷ 0 ∷ 0 ∷ 0 ∷ 3 ∷ 0 ∷ 0 ∷ 0 ∷ 4 ∷ 0 ∷ 0 ∷ 0 ∷ 0 ∷ 0 ∷ 0 ∷ 0 ∷ 164 ∷ 1 ∷ 0 ∷ 0 ∷ 5 ∷ 0 ∷ 0 ∷ 0 ∷ 6 ∷ 0 ∷ 0 ∷ 0 ∷ 7 ∷ 0 ∷ 0 ∷ 0 ∷ 0 ∷ 0 ∷ 0 ∷ 0 ∷ 1 ∷ 0 ∷ 97 ∷ 1 ∷ 0 ∷ 98 ∷ 0 ∷ 0 ∷ 2 ∷ 0 ∷ 99 ∷ 100 ∷ []) ≡ refused R.StatMalformed 0
unfolding from_le to_le raw read_num char chars utf8 sound sound_start no_zero zero_at read_string string_bytes read_many read_field read_fields read_cell read_cells follow agrees many_bytes cell_bytes cells_bytes item_bytes items_bytes places place_cells read_type_tag read_header read_frame answer_of
count_less = refl

-- its count is one more than the frame holds
pub count_more : answer_of table_t table_r (62 ∷ 0 ∷ 0 ∷ 0 ∷ 125 ∷ 4 ∷ 0 ∷ 54 ∷ 0 ∷ 51 ∷ 0 ∷ 1 ∷ 0 ∷ 2 ∷ 0 ∷ 0 ∷ 0 ∷ 0 ∷ 3 ∷ 0 ∷ 0 ∷ 0 ∷ 4 ∷ 0 ∷ 0 ∷ 0 ∷ 0 ∷ 0 ∷ 0 ∷ 0 ∷ 164 ∷ 1 ∷ 0 ∷ 0 ∷ 5 ∷ 0 ∷ 0 ∷ 0 ∷ 6 ∷ 0 ∷ 0 ∷ 0 ∷ 7 ∷ 0 ∷ 0 ∷ 0 ∷ 0 ∷ 0 ∷ 0 ∷ 0 ∷ 1 ∷ 0 ∷ 97 ∷ 1 ∷ 0 ∷ 98 ∷ 0 ∷ 0 ∷ 2 ∷ 0 ∷ 99 ∷ 100 ∷ []) ≡ refused R.Short 0
unfolding from_le to_le raw read_num char chars utf8 sound sound_start no_zero zero_at read_string string_bytes read_many read_field read_fields read_cell read_cells follow agrees many_bytes cell_bytes cells_bytes item_bytes items_bytes places place_cells read_type_tag read_header read_frame answer_of
count_more = refl

-- its count is one more than its fields, and the frame holds that byte
pub count_past : answer_of table_t table_r (63 ∷ 0 ∷ 0 ∷ 0 ∷ 125 ∷ 4 ∷ 0 ∷ 54 ∷ 0 ∷ 51 ∷ 0 ∷ 1 ∷ 0 ∷ 2 ∷ 0 ∷ 0 ∷ 0 ∷ 0 ∷ 3 ∷ 0 ∷ 0 ∷ 0 ∷ 4 ∷ 0 ∷ 0 ∷ 0 ∷ 0 ∷ 0 ∷ 0 ∷ 0 ∷ 164 ∷ 1 ∷ 0 ∷ 0 ∷ 5 ∷ 0 ∷ 0 ∷ 0 ∷ 6 ∷ 0 ∷ 0 ∷ 0 ∷ 7 ∷ 0 ∷ 0 ∷ 0 ∷ 0 ∷ 0 ∷ 0 ∷ 0 ∷ 1 ∷ 0 ∷ 97 ∷ 1 ∷ 0 ∷ 98 ∷ 0 ∷ 0 ∷ 2 ∷ 0 ∷ 99 ∷ 100 ∷ 0 ∷ []) ≡ refused R.StatMalformed 0
unfolding from_le to_le raw read_num char chars utf8 sound sound_start no_zero zero_at read_string string_bytes read_many read_field read_fields read_cell read_cells follow agrees many_bytes cell_bytes cells_bytes item_bytes items_bytes places place_cells read_type_tag read_header read_frame answer_of
count_past = refl

-- its size is one less
pub size_less : answer_of table_t table_r (62 ∷ 0 ∷ 0 ∷ 0 ∷ 125 ∷ 4 ∷ 0 ∷ 53 ∷ 0 ∷ 50 ∷ 0 ∷ 1 ∷ 0 ∷ 2 ∷ 0 ∷ 0 ∷ 0 ∷ 0 ∷ 3 ∷ 0 ∷ 0 ∷ 0 ∷ 4 ∷ 0 ∷ 0 ∷ 0 ∷ 0 ∷ 0 ∷ 0 ∷ 0 ∷ 164 ∷ 1 ∷ 0 ∷ 0 ∷ 5 ∷ 0 ∷ 0 ∷ 0 ∷ 6 ∷ 0 ∷ 0 ∷ 0 ∷ 7 ∷ 0 ∷ 0 ∷ 0 ∷ 0 ∷ 0 ∷ 0 ∷ 0 ∷ 1 ∷ 0 ∷ 97 ∷ 1 ∷ 0 ∷ 98 ∷ 0 ∷ 0 ∷ 2 ∷ 0 ∷ 99 ∷ 100 ∷ []) ≡ refused R.StatMalformed 0
unfolding from_le to_le raw read_num char chars utf8 sound sound_start no_zero zero_at read_string string_bytes read_many read_field read_fields read_cell read_cells follow agrees many_bytes cell_bytes cells_bytes item_bytes items_bytes places place_cells read_type_tag read_header read_frame answer_of
size_less = refl

-- its size is one more
pub size_more : answer_of table_t table_r (62 ∷ 0 ∷ 0 ∷ 0 ∷ 125 ∷ 4 ∷ 0 ∷ 53 ∷ 0 ∷ 52 ∷ 0 ∷ 1 ∷ 0 ∷ 2 ∷ 0 ∷ 0 ∷ 0 ∷ 0 ∷ 3 ∷ 0 ∷ 0 ∷ 0 ∷ 4 ∷ 0 ∷ 0 ∷ 0 ∷ 0 ∷ 0 ∷ 0 ∷ 0 ∷ 164 ∷ 1 ∷ 0 ∷ 0 ∷ 5 ∷ 0 ∷ 0 ∷ 0 ∷ 6 ∷ 0 ∷ 0 ∷ 0 ∷ 7 ∷ 0 ∷ 0 ∷ 0 ∷ 0 ∷ 0 ∷ 0 ∷ 0 ∷ 1 ∷ 0 ∷ 97 ∷ 1 ∷ 0 ∷ 98 ∷ 0 ∷ 0 ∷ 2 ∷ 0 ∷ 99 ∷ 100 ∷ []) ≡ refused R.StatMalformed 0
unfolding from_le to_le raw read_num char chars utf8 sound sound_start no_zero zero_at read_string string_bytes read_many read_field read_fields read_cell read_cells follow agrees many_bytes cell_bytes cells_bytes item_bytes items_bytes places place_cells read_type_tag read_header read_frame answer_of
size_more = refl

-- the count of its name is one more, and all after it is shifted
pub name_more : answer_of table_t table_r (62 ∷ 0 ∷ 0 ∷ 0 ∷ 125 ∷ 4 ∷ 0 ∷ 53 ∷ 0 ∷ 51 ∷ 0 ∷ 1 ∷ 0 ∷ 2 ∷ 0 ∷ 0 ∷ 0 ∷ 0 ∷ 3 ∷ 0 ∷ 0 ∷ 0 ∷ 4 ∷ 0 ∷ 0 ∷ 0 ∷ 0 ∷ 0 ∷ 0 ∷ 0 ∷ 164 ∷ 1 ∷ 0 ∷ 0 ∷ 5 ∷ 0 ∷ 0 ∷ 0 ∷ 6 ∷ 0 ∷ 0 ∷ 0 ∷ 7 ∷ 0 ∷ 0 ∷ 0 ∷ 0 ∷ 0 ∷ 0 ∷ 0 ∷ 2 ∷ 0 ∷ 97 ∷ 1 ∷ 0 ∷ 98 ∷ 0 ∷ 0 ∷ 2 ∷ 0 ∷ 99 ∷ 100 ∷ []) ≡ refused R.StatMalformed 0
unfolding from_le to_le raw read_num char chars utf8 sound sound_start no_zero zero_at read_string string_bytes read_many read_field read_fields read_cell read_cells follow agrees many_bytes cell_bytes cells_bytes item_bytes items_bytes places place_cells read_type_tag read_header read_frame answer_of
name_more = refl

-- its last string ends one byte early
pub muid_less : answer_of table_t table_r (62 ∷ 0 ∷ 0 ∷ 0 ∷ 125 ∷ 4 ∷ 0 ∷ 53 ∷ 0 ∷ 51 ∷ 0 ∷ 1 ∷ 0 ∷ 2 ∷ 0 ∷ 0 ∷ 0 ∷ 0 ∷ 3 ∷ 0 ∷ 0 ∷ 0 ∷ 4 ∷ 0 ∷ 0 ∷ 0 ∷ 0 ∷ 0 ∷ 0 ∷ 0 ∷ 164 ∷ 1 ∷ 0 ∷ 0 ∷ 5 ∷ 0 ∷ 0 ∷ 0 ∷ 6 ∷ 0 ∷ 0 ∷ 0 ∷ 7 ∷ 0 ∷ 0 ∷ 0 ∷ 0 ∷ 0 ∷ 0 ∷ 0 ∷ 1 ∷ 0 ∷ 97 ∷ 1 ∷ 0 ∷ 98 ∷ 0 ∷ 0 ∷ 1 ∷ 0 ∷ 99 ∷ 100 ∷ []) ≡ refused R.StatMalformed 0
unfolding from_le to_le raw read_num char chars utf8 sound sound_start no_zero zero_at read_string string_bytes read_many read_field read_fields read_cell read_cells follow agrees many_bytes cell_bytes cells_bytes item_bytes items_bytes places place_cells read_type_tag read_header read_frame answer_of
muid_less = refl

-- its last string runs one byte past the count, where the frame holds another
pub muid_more : answer_of table_t table_r (63 ∷ 0 ∷ 0 ∷ 0 ∷ 125 ∷ 4 ∷ 0 ∷ 53 ∷ 0 ∷ 51 ∷ 0 ∷ 1 ∷ 0 ∷ 2 ∷ 0 ∷ 0 ∷ 0 ∷ 0 ∷ 3 ∷ 0 ∷ 0 ∷ 0 ∷ 4 ∷ 0 ∷ 0 ∷ 0 ∷ 0 ∷ 0 ∷ 0 ∷ 0 ∷ 164 ∷ 1 ∷ 0 ∷ 0 ∷ 5 ∷ 0 ∷ 0 ∷ 0 ∷ 6 ∷ 0 ∷ 0 ∷ 0 ∷ 7 ∷ 0 ∷ 0 ∷ 0 ∷ 0 ∷ 0 ∷ 0 ∷ 0 ∷ 1 ∷ 0 ∷ 97 ∷ 1 ∷ 0 ∷ 98 ∷ 0 ∷ 0 ∷ 3 ∷ 0 ∷ 99 ∷ 100 ∷ 0 ∷ []) ≡ refused R.StatMalformed 0
unfolding from_le to_le raw read_num char chars utf8 sound sound_start no_zero zero_at read_string string_bytes read_many read_field read_fields read_cell read_cells follow agrees many_bytes cell_bytes cells_bytes item_bytes items_bytes places place_cells read_type_tag read_header read_frame answer_of
muid_more = refl

-- a name that is not UTF-8, at its byte
pub name_broken : answer_of table_t table_r (62 ∷ 0 ∷ 0 ∷ 0 ∷ 125 ∷ 4 ∷ 0 ∷ 53 ∷ 0 ∷ 51 ∷ 0 ∷ 1 ∷ 0 ∷ 2 ∷ 0 ∷ 0 ∷ 0 ∷ 0 ∷ 3 ∷ 0 ∷ 0 ∷ 0 ∷ 4 ∷ 0 ∷ 0 ∷ 0 ∷ 0 ∷ 0 ∷ 0 ∷ 0 ∷ 164 ∷ 1 ∷ 0 ∷ 0 ∷ 5 ∷ 0 ∷ 0 ∷ 0 ∷ 6 ∷ 0 ∷ 0 ∷ 0 ∷ 7 ∷ 0 ∷ 0 ∷ 0 ∷ 0 ∷ 0 ∷ 0 ∷ 0 ∷ 1 ∷ 0 ∷ 255 ∷ 1 ∷ 0 ∷ 98 ∷ 0 ∷ 0 ∷ 2 ∷ 0 ∷ 99 ∷ 100 ∷ []) ≡ refused R.NotUtf8 52
unfolding from_le to_le raw read_num char chars utf8 sound sound_start no_zero zero_at read_string string_bytes read_many read_field read_fields read_cell read_cells follow agrees many_bytes cell_bytes cells_bytes item_bytes items_bytes places place_cells read_type_tag read_header read_frame answer_of
name_broken = refl

-- a zero byte in its uid
pub uid_zero : answer_of table_t table_r (62 ∷ 0 ∷ 0 ∷ 0 ∷ 125 ∷ 4 ∷ 0 ∷ 53 ∷ 0 ∷ 51 ∷ 0 ∷ 1 ∷ 0 ∷ 2 ∷ 0 ∷ 0 ∷ 0 ∷ 0 ∷ 3 ∷ 0 ∷ 0 ∷ 0 ∷ 4 ∷ 0 ∷ 0 ∷ 0 ∷ 0 ∷ 0 ∷ 0 ∷ 0 ∷ 164 ∷ 1 ∷ 0 ∷ 0 ∷ 5 ∷ 0 ∷ 0 ∷ 0 ∷ 6 ∷ 0 ∷ 0 ∷ 0 ∷ 7 ∷ 0 ∷ 0 ∷ 0 ∷ 0 ∷ 0 ∷ 0 ∷ 0 ∷ 1 ∷ 0 ∷ 97 ∷ 1 ∷ 0 ∷ 0 ∷ 0 ∷ 0 ∷ 2 ∷ 0 ∷ 99 ∷ 100 ∷ []) ≡ refused R.ZeroByte 55
unfolding from_le to_le raw read_num char chars utf8 sound sound_start no_zero zero_at read_string string_bytes read_many read_field read_fields read_cell read_cells follow agrees many_bytes cell_bytes cells_bytes item_bytes items_bytes places place_cells read_type_tag read_header read_frame answer_of
uid_zero = refl

-- a name that is not UTF-8, and a last string that ends early: the ends come first
pub ends_before_text : answer_of table_t table_r (62 ∷ 0 ∷ 0 ∷ 0 ∷ 125 ∷ 4 ∷ 0 ∷ 53 ∷ 0 ∷ 51 ∷ 0 ∷ 1 ∷ 0 ∷ 2 ∷ 0 ∷ 0 ∷ 0 ∷ 0 ∷ 3 ∷ 0 ∷ 0 ∷ 0 ∷ 4 ∷ 0 ∷ 0 ∷ 0 ∷ 0 ∷ 0 ∷ 0 ∷ 0 ∷ 164 ∷ 1 ∷ 0 ∷ 0 ∷ 5 ∷ 0 ∷ 0 ∷ 0 ∷ 6 ∷ 0 ∷ 0 ∷ 0 ∷ 7 ∷ 0 ∷ 0 ∷ 0 ∷ 0 ∷ 0 ∷ 0 ∷ 0 ∷ 1 ∷ 0 ∷ 255 ∷ 1 ∷ 0 ∷ 98 ∷ 0 ∷ 0 ∷ 1 ∷ 0 ∷ 99 ∷ 100 ∷ []) ≡ refused R.StatMalformed 0
unfolding from_le to_le raw read_num char chars utf8 sound sound_start no_zero zero_at read_string string_bytes read_many read_field read_fields read_cell read_cells follow agrees many_bytes cell_bytes cells_bytes item_bytes items_bytes places place_cells read_type_tag read_header read_frame answer_of
ends_before_text = refl

-- its count is 49: four empty strings, the least that a stat has
pub n_49 : answer_of table_t table_r (58 ∷ 0 ∷ 0 ∷ 0 ∷ 125 ∷ 4 ∷ 0 ∷ 49 ∷ 0 ∷ 47 ∷ 0 ∷ 1 ∷ 0 ∷ 2 ∷ 0 ∷ 0 ∷ 0 ∷ 0 ∷ 3 ∷ 0 ∷ 0 ∷ 0 ∷ 4 ∷ 0 ∷ 0 ∷ 0 ∷ 0 ∷ 0 ∷ 0 ∷ 0 ∷ 164 ∷ 1 ∷ 0 ∷ 0 ∷ 5 ∷ 0 ∷ 0 ∷ 0 ∷ 6 ∷ 0 ∷ 0 ∷ 0 ∷ 7 ∷ 0 ∷ 0 ∷ 0 ∷ 0 ∷ 0 ∷ 0 ∷ 0 ∷ 0 ∷ 0 ∷ 0 ∷ 0 ∷ 0 ∷ 0 ∷ 0 ∷ 0 ∷ []) ≡ accepted 125 (block (slot 1 ∷ slot 2 ∷ slot 0 ∷ slot 3 ∷ slot 4 ∷ slot 420 ∷ slot 5 ∷ slot 6 ∷ slot 7 ∷ text 52 0 ∷ text 54 0 ∷ text 56 0 ∷ text 58 0 ∷ []) ∷ []) 58
unfolding from_le to_le raw read_num char chars utf8 sound sound_start no_zero zero_at read_string string_bytes read_many read_field read_fields read_cell read_cells follow agrees many_bytes cell_bytes cells_bytes item_bytes items_bytes places place_cells read_type_tag read_header read_frame answer_of
n_49 = refl
