-- What holds of the definitions in specs/Examples.antt.
use Rattle.std.specs.Prelude.{ℕ, ◌≡◌, refl, true, false, List, [], ◌∷◌, ◌++◌}
use Rattle.numbers.specs.Numbers.{from_le, to_le}
use Rattle.numbers.specs.Reading.{raw, read_num}
use Rattle.numbers.specs.Places.{num_at}
use Rattle.utf8.specs.Utf8.{char, chars, utf8, sound, sound_start, no_zero, zero_at}
use Rattle.strings.specs.Strings.{read_string, string_bytes}
use Rattle.strings.specs.Spans.{show_span, str_start, str_len, past_str}
use Rattle.fields.specs.Layouts.{read_many, read_field, read_fields, many_bytes, item_bytes, items_bytes}
use Rattle.fields.specs.Values.{places}
use Rattle.layouts.specs.Tables.{table_t, table_r}
use Rattle.framing.specs.Frames.{read_type_tag, read_header, read_frame}
use Rattle.framing.specs.Stretch.{answer_of, front, Listing, entry, ends, stops, list_from, listing}
use Rattle.listing.specs.Text.{answer_number}
use Rattle.places.specs.Places.{added, step, onward, walked, path_within, path}
use Rattle.session.specs.Rows.{row_from, row_of, has}
use Rattle.session.specs.Rules.{fresh, unfit, asked, effect_of, closed, dropped, place_of, reached, given, done, finished, replied, answered, stepped}
use Rattle.session.specs.declared.Session.{Session}
use Rattle.events.specs.Events.{asked_by, event_of}
use Rattle.events.specs.Traces.{leaves}
use Rattle.sealing.specs.Trailers.{extent_from, sealed}
use Rattle.replaying.specs.Replays.{replayed, replay}
use Rattle.replaying.specs.Examples.{stretch}

-- ---- its answers

abbrev answers_in : Listing → List ℕ
answers_in (entry at size ty tag a tail l) = answer_number a ∷ answers_in l
answers_in (ends p) = []
answers_in (stops k p) = []

pub answered_so : answers_in (replay stretch) ≡ 0 ∷ 0 ∷ 0 ∷ 0 ∷ 0 ∷ 0 ∷ 0 ∷ 0 ∷ 23 ∷ 21 ∷ []
unfolding from_le to_le raw read_num char chars utf8 sound sound_start no_zero zero_at read_string string_bytes read_many read_field read_fields many_bytes item_bytes items_bytes places read_type_tag read_header read_frame answer_of front list_from listing row_from row_of unfit asked effect_of closed dropped place_of reached given done finished replied answered stepped added step onward walked show_span str_start str_len past_str asked_by event_of replayed
answered_so = refl

-- ---- the session after it

abbrev after : Session
after = leaves stretch fresh (listing table_t table_r stretch)

-- .. leads from /a/b to /a
pub walked_to : path stretch after.places (place_of after 2) ≡ 47 ∷ 97 ∷ []
unfolding from_le to_le raw read_num char chars utf8 sound sound_start no_zero zero_at read_string string_bytes read_many read_field read_fields many_bytes item_bytes items_bytes places read_type_tag read_header read_frame answer_of front list_from listing row_from row_of unfit asked effect_of closed dropped place_of reached given done finished replied answered stepped added step onward walked show_span str_start str_len past_str asked_by event_of leaves path_within
walked_to = refl

pub dropped_fid : has 1 after.fids ≡ false
unfolding from_le to_le raw read_num char chars utf8 sound sound_start no_zero zero_at read_string string_bytes read_many read_field read_fields many_bytes item_bytes items_bytes places read_type_tag read_header read_frame answer_of front list_from listing row_from row_of unfit asked effect_of closed dropped place_of reached given done finished replied answered stepped added step onward walked show_span str_start str_len past_str asked_by event_of leaves
dropped_fid = refl

-- ---- its trailer: 185 bytes, 10 frames, the last at 178

pub sealed_so : sealed (stretch ++ (185 ∷ 0 ∷ 0 ∷ 0 ∷ 10 ∷ 0 ∷ 0 ∷ 0 ∷ 178 ∷ 0 ∷ 0 ∷ 0 ∷ [])) ≡ true
unfolding from_le to_le raw read_num char chars utf8 sound sound_start no_zero zero_at read_string string_bytes read_many read_field read_fields many_bytes item_bytes items_bytes places read_type_tag read_header read_frame answer_of front list_from listing num_at extent_from sealed
sealed_so = refl

pub frames_wrong : sealed (stretch ++ (185 ∷ 0 ∷ 0 ∷ 0 ∷ 11 ∷ 0 ∷ 0 ∷ 0 ∷ 178 ∷ 0 ∷ 0 ∷ 0 ∷ [])) ≡ false
unfolding from_le to_le raw read_num char chars utf8 sound sound_start no_zero zero_at read_string string_bytes read_many read_field read_fields many_bytes item_bytes items_bytes places read_type_tag read_header read_frame answer_of front list_from listing num_at extent_from sealed
frames_wrong = refl
