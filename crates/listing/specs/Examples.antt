-- F8.9: an example of the lister's text, computed from the definitions.
use Rattle.std.specs.Prelude.{◌≡◌, refl, [], ◌∷◌}
use Rattle.numbers.specs.Numbers.{from_le, to_le}
use Rattle.numbers.specs.Reading.{raw, read_num}
use Rattle.fields.specs.Layouts.{read_field, read_fields, item_bytes, items_bytes}
use Rattle.fields.specs.Values.{places}
use Rattle.layouts.specs.Tables.{table_t, table_r}
use Rattle.framing.specs.Frames.{read_type_tag, read_header, read_frame}
use Rattle.framing.specs.Stretch.{answer_of, front, list_from, listing}
use Rattle.listing.specs.Text.{decimal, joined, lines_from, report}

-- the lines, parted by strokes here:
-- at size type tag answer tail / 0 9 108 1 0 0 / 9 7 109 1 0 0 / 16 11 108 1 0 2 / 27 7 106 5 3 - / end 34 4
pub b_c_k_j :
    joined
    (report table_t table_r
    (9 ∷ 0 ∷ 0 ∷ 0 ∷ 108 ∷ 1 ∷ 0 ∷ 2 ∷ 0 ∷ 7 ∷ 0 ∷ 0 ∷ 0 ∷ 109 ∷ 1 ∷ 0 ∷ 11 ∷ 0 ∷ 0 ∷ 0 ∷ 108 ∷ 1 ∷ 0 ∷ 2 ∷ 0 ∷ 170 ∷ 187 ∷ 7 ∷ 0 ∷ 0 ∷ 0 ∷ 106 ∷ 5 ∷ 0 ∷ []))
    ≡ 97 ∷ 116 ∷ 32 ∷ 115 ∷ 105 ∷ 122 ∷ 101 ∷ 32 ∷ 116 ∷ 121 ∷ 112 ∷ 101 ∷ 32 ∷ 116 ∷ 97 ∷ 103 ∷ 32 ∷ 97 ∷ 110 ∷ 115 ∷ 119 ∷ 101 ∷ 114 ∷ 32 ∷ 116 ∷ 97 ∷ 105 ∷ 108 ∷ 10 ∷ 48 ∷ 32 ∷ 57 ∷ 32 ∷ 49 ∷ 48 ∷ 56 ∷ 32 ∷ 49 ∷ 32 ∷ 48 ∷ 32 ∷ 48 ∷ 10 ∷ 57 ∷ 32 ∷ 55 ∷ 32 ∷ 49 ∷ 48 ∷ 57 ∷ 32 ∷ 49 ∷ 32 ∷ 48 ∷ 32 ∷ 48 ∷ 10 ∷ 49 ∷ 54 ∷ 32 ∷ 49 ∷ 49 ∷ 32 ∷ 49 ∷ 48 ∷ 56 ∷ 32 ∷ 49 ∷ 32 ∷ 48 ∷ 32 ∷ 50 ∷ 10 ∷ 50 ∷ 55 ∷ 32 ∷ 55 ∷ 32 ∷ 49 ∷ 48 ∷ 54 ∷ 32 ∷ 53 ∷ 32 ∷ 51 ∷ 32 ∷ 45 ∷ 10 ∷ 101 ∷ 110 ∷ 100 ∷ 32 ∷ 51 ∷ 52 ∷ 32 ∷ 52 ∷ 10 ∷ []
unfolding from_le to_le raw read_num read_field read_fields item_bytes items_bytes places read_type_tag read_header read_frame answer_of front list_from listing decimal joined lines_from
b_c_k_j = refl

-- F8.6: no input
pub empty : joined (report table_t table_r []) ≡ 97 ∷ 116 ∷ 32 ∷ 115 ∷ 105 ∷ 122 ∷ 101 ∷ 32 ∷ 116 ∷ 121 ∷ 112 ∷ 101 ∷ 32 ∷ 116 ∷ 97 ∷ 103 ∷ 32 ∷ 97 ∷ 110 ∷ 115 ∷ 119 ∷ 101 ∷ 114 ∷ 32 ∷ 116 ∷ 97 ∷ 105 ∷ 108 ∷ 10 ∷ 101 ∷ 110 ∷ 100 ∷ 32 ∷ 48 ∷ 32 ∷ 48 ∷ 10 ∷ []
unfolding list_from listing decimal joined lines_from
empty = refl
