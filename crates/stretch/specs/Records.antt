-- Any two answers of a record's reader are equal as records: its values determine it. For the messages' records that is `one_tversion` and so on, `Made.antt` of requests and of replies.
use Rattle.numbers.specs.Place.{Place}
use Rattle.std.specs.Prelude.{ℕ, ◌≡◌, List, get_or}
use Rattle.std.proofs.Common.{ap}
use Rattle.fields.specs.Layouts.{Layout}
use Rattle.fields.specs.Values.{Value, val, num_of, start_of, len_of}
use Rattle.fields.specs.Fields.{Fields}
use Rattle.fields.proofs.FieldLaws.{fields_one}
use Rattle.layouts.specs.Records.{qid, dirent}
use Rattle.layouts.specs.declared.qids.Qid.{Qid}
use Rattle.layouts.specs.declared.dirents.Dirent.{Dirent}

pub record_one : {A : Type 0} (values : A → List Value) → ((x y : A) → values x ≡ values y → x ≡ y) → {fs : Layout} {s : List ℕ} {p e e' : Place} (x y : A) → Fields fs s p (values x) e → Fields fs s p (values y) e'
    → (x ≡ y) × (e ≡ e')
record_one values one x y a b = let f = fields_one a b in (one x y f.0, f.1)

-- ---- the two that are no messages

abbrev nth : ℕ → List Value → ℕ
nth i vs = num_of (get_or vs i (val 0))

abbrev made_qid : List Value → Qid
made_qid vs = record { ty = nth 0 vs; version = nth 1 vs; path = nth 2 vs }

pub one_qid : (v v' : Qid) → qid v ≡ qid v' → v ≡ v'
one_qid v v' e = ap made_qid e

abbrev made_dirent : List Value → Dirent
made_dirent vs = record { qid = made_qid vs; offset = nth 3 vs; ty = nth 4 vs; name = record { start = start_of (get_or vs 5 (val 0)); len = len_of (get_or vs 5 (val 0)) } }

pub one_dirent : (m m' : Dirent) → dirent m ≡ dirent m' → m ≡ m'
one_dirent m m' e = ap made_dirent e
