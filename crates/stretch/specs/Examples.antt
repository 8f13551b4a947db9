-- F8.9: examples of a listing, B, C, K and J of F10 joined, of its positions, of listings joined and of damage, computed from the definition.
use Rattle.std.specs.Prelude.{◌≡◌, refl, [], ◌∷◌}
use Rattle.numbers.specs.Numbers.{from_le, to_le}
use Rattle.numbers.specs.Reading.{raw, read_num}
use Rattle.numbers.specs.declared.Refusal.TheVariants as R
use Rattle.utf8.specs.Utf8.{char, chars, utf8, sound, sound_start, no_zero, zero_at}
use Rattle.strings.specs.Strings.{read_string, string_bytes}
use Rattle.fields.specs.Layouts.{read_many, read_field, read_fields, many_bytes, item_bytes, items_bytes}
use Rattle.fields.specs.Values.{val, span, part, places}
use Rattle.layouts.specs.Tables.{table_t, table_r}
use Rattle.layouts.specs.Bodies.{accepted, refused}
use Rattle.framing.specs.Frames.{read_type_tag, read_header, read_frame}
use Rattle.framing.specs.Stretch.{answer_of, front, entry, ends, stops, list_from, listing}
use Rattle.framing.specs.Joining.{joined}

pub b_c_k_j :
    listing table_t table_r
    (9 ∷ 0 ∷ 0 ∷ 0 ∷ 108 ∷ 1 ∷ 0 ∷ 2 ∷ 0 ∷ 7 ∷ 0 ∷ 0 ∷ 0 ∷ 109 ∷ 1 ∷ 0 ∷ 11 ∷ 0 ∷ 0 ∷ 0 ∷ 108 ∷ 1 ∷ 0 ∷ 2 ∷ 0 ∷ 170 ∷ 187 ∷ 7 ∷ 0 ∷ 0 ∷ 0 ∷ 106 ∷ 5 ∷ 0 ∷ [])
    ≡ entry 0 9 108 1 (accepted 108 (val 2 ∷ []) 9) 0
    (entry 9 7 109 1 (accepted 109 [] 7) 0 (entry 16 11 108 1 (accepted 108 (val 2 ∷ []) 9) 2 (entry 27 7 106 5 (refused R.UnknownType 0) 0 (ends 34))))
unfolding from_le to_le raw read_num read_field read_fields item_bytes items_bytes places read_type_tag read_header read_frame answer_of front list_from listing
b_c_k_j = refl

-- positions from the first byte of the stretch (F6.9): B, E, A, F and L of F10 joined. The part of E, the span of A, the empty part of F and the
-- place of L are raised by where their frames stand; numbers, bytes used and tails are not
pub b_e_a_f_l :
    listing table_t table_r
    (9 ∷ 0 ∷ 0 ∷ 0 ∷ 108 ∷ 1 ∷ 0 ∷ 2 ∷ 0 ∷ 24 ∷ 0 ∷ 0 ∷ 0 ∷ 110 ∷ 3 ∷ 0 ∷ 1 ∷ 0 ∷ 0 ∷ 0 ∷ 2 ∷ 0 ∷ 0 ∷ 0 ∷ 2 ∷ 0 ∷ 1 ∷ 0 ∷ 97 ∷ 2 ∷ 0 ∷ 98 ∷ 99 ∷ 21 ∷ 0 ∷ 0 ∷ 0 ∷ 100 ∷ 255 ∷ 255 ∷ 0 ∷ 32 ∷ 0 ∷ 0 ∷ 8 ∷ 0 ∷ 57 ∷ 80
    ∷ 50 ∷ 48 ∷ 48 ∷ 48 ∷ 46 ∷ 76 ∷ 9 ∷ 0 ∷ 0 ∷ 0 ∷ 111 ∷ 3 ∷ 0 ∷ 0 ∷ 0 ∷ 15 ∷ 0 ∷ 0 ∷ 0 ∷ 100 ∷ 255 ∷ 255 ∷ 0 ∷ 32 ∷ 0 ∷ 0 ∷ 2 ∷ 0 ∷ 192 ∷ 128 ∷ [])
    ≡ entry 0 9 108 1 (accepted 108 (val 2 ∷ []) 9) 0
    (entry 9 24 110 3 (accepted 110 (val 1 ∷ val 2 ∷ part 2 26 7 ∷ []) 24) 0
    (entry 33 21 100 65535 (accepted 100 (val 8192 ∷ span 46 8 ∷ []) 21) 0
    (entry 54 9 111 3 (accepted 111 (part 0 63 0 ∷ []) 9) 0 (entry 63 15 100 65535 (refused R.NotUtf8 76) 0 (ends 78)))))
unfolding from_le to_le raw read_num char chars utf8 sound sound_start no_zero zero_at read_string string_bytes read_many read_field read_fields many_bytes item_bytes items_bytes places read_type_tag read_header read_frame answer_of front list_from listing
b_e_a_f_l = refl

-- joined (F6.10): B and L, and then E with three bytes more. Of the second its frame, its part and its last line are 24 later; the refused body of the first does not end it
pub b_l_and_e :
    joined (listing table_t table_r (9 ∷ 0 ∷ 0 ∷ 0 ∷ 108 ∷ 1 ∷ 0 ∷ 2 ∷ 0 ∷ 15 ∷ 0 ∷ 0 ∷ 0 ∷ 100 ∷ 255 ∷ 255 ∷ 0 ∷ 32 ∷ 0 ∷ 0 ∷ 2 ∷ 0 ∷ 192 ∷ 128 ∷ []))
    (listing table_t table_r
    (24 ∷ 0 ∷ 0 ∷ 0 ∷ 110 ∷ 3 ∷ 0 ∷ 1 ∷ 0 ∷ 0 ∷ 0 ∷ 2 ∷ 0 ∷ 0 ∷ 0 ∷ 2 ∷ 0 ∷ 1 ∷ 0 ∷ 97 ∷ 2 ∷ 0 ∷ 98 ∷ 99 ∷ 9 ∷ 0 ∷ 0 ∷ []))
    ≡ entry 0 9 108 1 (accepted 108 (val 2 ∷ []) 9) 0
    (entry 9 15 100 65535 (refused R.NotUtf8 22) 0 (entry 24 24 110 3 (accepted 110 (val 1 ∷ val 2 ∷ part 2 41 7 ∷ []) 24) 0 (stops R.StretchCut 48)))
unfolding from_le to_le raw read_num char chars utf8 sound sound_start no_zero zero_at read_string string_bytes read_many read_field read_fields many_bytes item_bytes items_bytes places read_type_tag read_header read_frame answer_of front list_from listing
b_l_and_e = refl

-- why the first has to read to its end: B without its last byte, and then C. The first byte of C is taken for what B lacks, and the rest of C for no frame
pub cut_b_and_c :
    listing table_t table_r (9 ∷ 0 ∷ 0 ∷ 0 ∷ 108 ∷ 1 ∷ 0 ∷ 2 ∷ 7 ∷ 0 ∷ 0 ∷ 0 ∷ 109 ∷ 1 ∷ 0 ∷ []) ≡ entry 0 9 108 1 (accepted 108 (val 1794 ∷ []) 9) 0 (stops R.StretchCut 9)
unfolding from_le to_le raw read_num read_field read_fields item_bytes items_bytes places read_type_tag read_header read_frame answer_of front list_from listing
cut_b_and_c = refl

-- damaged (F6.11): B, C, and B with another type and another tag, which turns it into a reply with a tail. C is listed as it was
pub b_turned :
    listing table_t table_r (9 ∷ 0 ∷ 0 ∷ 0 ∷ 109 ∷ 255 ∷ 7 ∷ 2 ∷ 0 ∷ 7 ∷ 0 ∷ 0 ∷ 0 ∷ 109 ∷ 1 ∷ 0 ∷ [])
    ≡ entry 0 9 109 2047 (accepted 109 [] 7) 2 (entry 9 7 109 1 (accepted 109 [] 7) 0 (ends 16))
unfolding from_le to_le raw read_num read_field read_fields item_bytes items_bytes places read_type_tag read_header read_frame answer_of front list_from listing
b_turned = refl

-- but a change of its four size bytes can move all that comes after it: with 16 for 9, C is the tail of B; with 10, all after B is lost
pub c_swallowed :
    listing table_t table_r (16 ∷ 0 ∷ 0 ∷ 0 ∷ 108 ∷ 1 ∷ 0 ∷ 2 ∷ 0 ∷ 7 ∷ 0 ∷ 0 ∷ 0 ∷ 109 ∷ 1 ∷ 0 ∷ []) ≡ entry 0 16 108 1 (accepted 108 (val 2 ∷ []) 9) 7 (ends 16)
unfolding from_le to_le raw read_num read_field read_fields item_bytes items_bytes places read_type_tag read_header read_frame answer_of front list_from listing
c_swallowed = refl

pub c_lost :
    listing table_t table_r (10 ∷ 0 ∷ 0 ∷ 0 ∷ 108 ∷ 1 ∷ 0 ∷ 2 ∷ 0 ∷ 7 ∷ 0 ∷ 0 ∷ 0 ∷ 109 ∷ 1 ∷ 0 ∷ []) ≡ entry 0 10 108 1 (accepted 108 (val 2 ∷ []) 9) 1 (stops R.StretchCut 10)
unfolding from_le to_le raw read_num read_field read_fields item_bytes items_bytes places read_type_tag read_header read_frame answer_of front list_from listing
c_lost = refl
