-- F10, frames to try: A to N, read as its table says; G in both directions.
use Rattle.std.specs.Prelude.{◌≡◌, refl, [], ◌∷◌, Ok}
use Rattle.numbers.specs.Numbers.{from_le, to_le}
use Rattle.numbers.specs.Reading.{raw, read_num}
use Rattle.numbers.specs.Places.{put_at, past_put}
use Rattle.numbers.specs.declared.Refusal.TheVariants as R
use Rattle.utf8.specs.Utf8.{char, chars, utf8, sound, sound_start, no_zero, zero_at}
use Rattle.strings.specs.Strings.{read_string, string_bytes}
use Rattle.strings.specs.Spans.{show_span, show_string}
use Rattle.fields.specs.Layouts.{read_many, read_field, read_fields, many_bytes, item_bytes, items_bytes}
use Rattle.fields.specs.Values.{val, span, part, places, show, shows}
use Rattle.layouts.specs.Tables.{table_t, table_r, layout_tversion}
use Rattle.layouts.specs.Bodies.{accepted, refused}
use Rattle.framing.specs.Frames.{read_type_tag, read_header, headless, framed, read_frame}
use Rattle.framing.specs.Writing.{frame_bytes, frame_out, frame_past}

pub a_to_n :
    (read_frame table_t (21 ∷ 0 ∷ 0 ∷ 0 ∷ 100 ∷ 255 ∷ 255 ∷ 0 ∷ 32 ∷ 0 ∷ 0 ∷ 8 ∷ 0 ∷ 57 ∷ 80 ∷ 50 ∷ 48 ∷ 48 ∷ 48 ∷ 46 ∷ 76 ∷ []) ≡ framed 0 65535 (accepted 100 (val 8192 ∷ span 13 8 ∷ []) 21))
    × (read_frame table_t (9 ∷ 0 ∷ 0 ∷ 0 ∷ 108 ∷ 1 ∷ 0 ∷ 2 ∷ 0 ∷ []) ≡ framed 0 1 (accepted 108 (val 2 ∷ []) 9))
    × (read_frame table_r (7 ∷ 0 ∷ 0 ∷ 0 ∷ 109 ∷ 1 ∷ 0 ∷ []) ≡ framed 0 1 (accepted 109 [] 7))
    × (read_frame table_r (11 ∷ 0 ∷ 0 ∷ 0 ∷ 7 ∷ 1 ∷ 0 ∷ 2 ∷ 0 ∷ 0 ∷ 0 ∷ []) ≡ framed 0 1 (accepted 7 (val 2 ∷ []) 11))
    × (read_frame table_t (24 ∷ 0 ∷ 0 ∷ 0 ∷ 110 ∷ 3 ∷ 0 ∷ 1 ∷ 0 ∷ 0 ∷ 0 ∷ 2 ∷ 0 ∷ 0 ∷ 0 ∷ 2 ∷ 0 ∷ 1 ∷ 0 ∷ 97 ∷ 2 ∷ 0 ∷ 98 ∷ 99 ∷ []) ≡ framed 0 3 (accepted 110 (val 1 ∷ val 2 ∷ part 2 17 7 ∷ []) 24))
    × (read_frame table_r (9 ∷ 0 ∷ 0 ∷ 0 ∷ 111 ∷ 3 ∷ 0 ∷ 0 ∷ 0 ∷ []) ≡ framed 0 3 (accepted 111 (part 0 9 0 ∷ []) 9))
    × (read_frame table_t (3 ∷ 0 ∷ 0 ∷ 0 ∷ []) ≡ headless R.SizeBelowFour 0)
    × (read_frame table_r (3 ∷ 0 ∷ 0 ∷ 0 ∷ []) ≡ headless R.SizeBelowFour 0)
    × (read_frame table_t (4 ∷ 0 ∷ 0 ∷ 0 ∷ []) ≡ headless R.Short 0)
    × (read_frame table_r (4 ∷ 0 ∷ 0 ∷ 0 ∷ []) ≡ headless R.Short 0)
    × (read_frame table_t (8 ∷ 0 ∷ 0 ∷ 0 ∷ 108 ∷ 1 ∷ 0 ∷ 2 ∷ []) ≡ framed 0 1 (refused R.Short 0))
    × (read_frame table_t (7 ∷ 0 ∷ 0 ∷ 0 ∷ 106 ∷ 5 ∷ 0 ∷ []) ≡ framed 0 5 (refused R.UnknownType 0))
    × (read_frame table_t (11 ∷ 0 ∷ 0 ∷ 0 ∷ 108 ∷ 1 ∷ 0 ∷ 2 ∷ 0 ∷ 170 ∷ 187 ∷ []) ≡ framed 0 1 (accepted 108 (val 2 ∷ []) 9))
    × (read_frame table_t (15 ∷ 0 ∷ 0 ∷ 0 ∷ 100 ∷ 255 ∷ 255 ∷ 0 ∷ 32 ∷ 0 ∷ 0 ∷ 2 ∷ 0 ∷ 192 ∷ 128 ∷ []) ≡ framed 0 65535 (refused R.NotUtf8 13))
    × (read_frame table_t (15 ∷ 0 ∷ 0 ∷ 0 ∷ 100 ∷ 255 ∷ 255 ∷ 0 ∷ 32 ∷ 0 ∷ 0 ∷ 2 ∷ 0 ∷ 97 ∷ 0 ∷ []) ≡ framed 0 65535 (refused R.ZeroByte 14))
    × (read_frame table_t (15 ∷ 0 ∷ 0 ∷ 0 ∷ 100 ∷ 255 ∷ 255 ∷ 0 ∷ 32 ∷ 0 ∷ 0 ∷ 2 ∷ 0 ∷ 0 ∷ 255 ∷ []) ≡ framed 0 65535 (refused R.NotUtf8 14))
unfolding from_le to_le raw read_num char chars utf8 sound sound_start no_zero zero_at read_string string_bytes read_many read_field read_fields many_bytes item_bytes items_bytes places read_type_tag read_header read_frame
a_to_n = (refl, refl, refl, refl, refl, refl, refl, refl, refl, refl, refl, refl, refl, refl, refl, refl)

-- a character that is broken off, `e2 82` before an `A`, is told at its first byte; of two zero bytes the first
pub broken_off :
    (read_frame table_t (17 ∷ 0 ∷ 0 ∷ 0 ∷ 100 ∷ 255 ∷ 255 ∷ 0 ∷ 32 ∷ 0 ∷ 0 ∷ 4 ∷ 0 ∷ 97 ∷ 226 ∷ 130 ∷ 65 ∷ []) ≡ framed 0 65535 (refused R.NotUtf8 14))
    × (read_frame table_t (17 ∷ 0 ∷ 0 ∷ 0 ∷ 100 ∷ 255 ∷ 255 ∷ 0 ∷ 32 ∷ 0 ∷ 0 ∷ 4 ∷ 0 ∷ 97 ∷ 0 ∷ 98 ∷ 0 ∷ []) ≡ framed 0 65535 (refused R.ZeroByte 14))
unfolding from_le to_le raw read_num char chars utf8 sound sound_start no_zero zero_at read_string string_bytes read_many read_field read_fields many_bytes item_bytes items_bytes places read_type_tag read_header read_frame
broken_off = (refl, refl)

-- what must hold of the writer, or one that does nothing would do: the bytes of A are what writing A's record gives
pub a_written :
    (frame_out 100 65535 (shows layout_tversion (57 ∷ 80 ∷ 50 ∷ 48 ∷ 48 ∷ 48 ∷ 46 ∷ 76 ∷ []) (val 8192 ∷ span 0 8 ∷ [])) (0 ∷ 0 ∷ 0 ∷ 0 ∷ 0 ∷ 0 ∷ 0 ∷ 0 ∷ 0 ∷ 0 ∷ 0 ∷ 0 ∷ 0 ∷ 0 ∷ 0 ∷ 0 ∷ 0 ∷ 0 ∷ 0 ∷ 0 ∷ 0 ∷ 9 ∷ [])
    ≡ 21 ∷ 0 ∷ 0 ∷ 0 ∷ 100 ∷ 255 ∷ 255 ∷ 0 ∷ 32 ∷ 0 ∷ 0 ∷ 8 ∷ 0 ∷ 57 ∷ 80 ∷ 50 ∷ 48 ∷ 48 ∷ 48 ∷ 46 ∷ 76 ∷ 9 ∷ [])
    × (frame_past 100 65535 (shows layout_tversion (57 ∷ 80 ∷ 50 ∷ 48 ∷ 48 ∷ 48 ∷ 46 ∷ 76 ∷ []) (val 8192 ∷ span 0 8 ∷ [])) (0 ∷ 0 ∷ 0 ∷ 0 ∷ 0 ∷ 0 ∷ 0 ∷ 0 ∷ 0 ∷ 0 ∷ 0 ∷ 0 ∷ 0 ∷ 0 ∷ 0 ∷ 0 ∷ 0 ∷ 0 ∷ 0 ∷ 0 ∷ 0 ∷ 9 ∷ []) ≡ Ok 21)
unfolding from_le to_le char chars utf8 no_zero string_bytes item_bytes items_bytes show_span show_string show shows put_at past_put frame_bytes frame_out frame_past
a_written = (refl, refl)
