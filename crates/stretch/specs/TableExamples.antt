-- Two tables of one length: the positions that are read of their walks are the same, and yet no output is the walk of both.
use Rattle.std.specs.Prelude.{ℕ, ◌≡◌, refl, List, [], ◌∷◌, map, length}
use Rattle.std.proofs.Common.{arith, sym, ap, ◌∙◌, lit<}
use Rattle.numbers.specs.Numbers.{from_le, to_le}
use Rattle.numbers.specs.Reading.{ok, raw, read_num}
use Rattle.utf8.specs.Utf8.{char, chars, utf8, no_zero}
use Rattle.strings.specs.Spans.{show_span, show_string}
use Rattle.fields.specs.Layouts.{string, qids, read_field, read_fields, item_bytes, items_bytes}
use Rattle.fields.specs.Values.{places, show, shows}
use Rattle.layouts.specs.Tables.{layout_rwalk, table_t, table_r}
use Rattle.layouts.specs.declared.qids.Qid.{Qid}
use Rattle.framing.specs.Frames.{read_type_tag, read_header, read_frame}
use Rattle.tables.specs.Tables.{name_fields, name_values, qid_items}
use Rattle.tables.specs.QidLaws.{qids_bytes}
use Rattle.stretch.specs.TablesBack.{TwalkBack, twalk_one, RwalkBack, qids_one, rwalk_one}

-- ---- qids that differ in their paths

abbrev one : List Qid
one = record { ty = 128; version = 0; path = 1 } ∷ []

abbrev two : List Qid
two = record { ty = 128; version = 0; path = 2 } ∷ []

abbrev first_path : List Qid → ℕ
first_path [] = 0
first_path (x ∷ t) = x.path

pub same_places : places 7 (qids (length one) (qids_bytes one) ∷ []) ≡ places 7 (qids (length two) (qids_bytes two) ∷ [])
unfolding places item_bytes items_bytes qid_items to_le
same_places = refl

pub qids_apart : {tag n tag' n' : ℕ} {o' : List ℕ} → RwalkBack table_r tag one o' n → RwalkBack table_r tag' two o' n' → ⊥
qids_apart B C =
    let e = (rwalk_one one two ((lit< tt, lit< tt, lit< tt), tt) ((lit< tt, lit< tt, lit< tt), tt) B C).1 in
    let z : ◌≡◌ {A = ℕ} 1 2 = ap first_path e in
    omega arith

-- an Rwalk of the first, computed
pub rwalk_of_one : RwalkBack table_r 1 one (22 ∷ 0 ∷ 0 ∷ 0 ∷ 111 ∷ 1 ∷ 0 ∷ 1 ∷ 0 ∷ 128 ∷ 0 ∷ 0 ∷ 0 ∷ 0 ∷ 1 ∷ 0 ∷ 0 ∷ 0 ∷ 0 ∷ 0 ∷ 0 ∷ 0 ∷ []) 22
unfolding from_le to_le raw read_num read_field read_fields item_bytes items_bytes places qid_items read_type_tag read_header read_frame shows show show_span
rwalk_of_one = record { reads = refl; after = refl }

-- the statement with the other table's qids is false
pub qids_not_shown : {tag n : ℕ} {o' : List ℕ} → RwalkBack table_r tag one o' n → shows layout_rwalk o' (places 7 (qids (length one) (qids_bytes one) ∷ [])) ≡ ok (qids (length two) (qids_bytes two) ∷ []) [] → ⊥
qids_not_shown B w =
    let d : ok (qids (length one) (qids_bytes one) ∷ []) [] ≡ ok (qids (length two) (qids_bytes two) ∷ []) [] = sym B.after ∙ w in
    let e = qids_one one two ((lit< tt, lit< tt, lit< tt), tt) ((lit< tt, lit< tt, lit< tt), tt) (cc d) in
    let z : ◌≡◌ {A = ℕ} 1 2 = ap first_path e in
    omega arith

-- ---- names that differ in a letter, "a" and "b": a table of one span, of two lent stretches

abbrev row : List (List ℕ)
row = (0 ∷ 1 ∷ []) ∷ []

shown_a : shows (name_fields row) (97 ∷ []) (name_values row) ≡ ok (string (97 ∷ []) ∷ []) []
unfolding shows show show_string show_span char chars utf8 no_zero
shown_a = refl

shown_b : shows (name_fields row) (98 ∷ []) (name_values row) ≡ ok (string (98 ∷ []) ∷ []) []
unfolding shows show show_string show_span char chars utf8 no_zero
shown_b = refl

pub names_apart : {tag n tag' n' : ℕ} {o' : List ℕ} → TwalkBack table_t tag 1 2 (97 ∷ []) row o' n → TwalkBack table_t tag' 1 2 (98 ∷ []) row o' n' → ⊥
names_apart B C =
    let a : string (97 ∷ []) ∷ [] ≡ map string B.names = (let d = sym shown_a ∙ B.shown in cc d) in
    let b : string (98 ∷ []) ∷ [] ≡ map string C.names = (let d = sym shown_b ∙ C.shown in cc d) in
    let e : string (97 ∷ []) ∷ [] ≡ string (98 ∷ []) ∷ [] = a ∙ ap (map string) (twalk_one B C).3 ∙ sym b in
    let z : ◌≡◌ {A = ℕ} 97 98 = cc e in
    omega arith
