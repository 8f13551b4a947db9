-- What the records of both stats hold of them (F14.2, F16.2), and what their functions answer.
use Rattle.numbers.specs.Place.{Place}
use Rattle.std.specs.Prelude.{ℕ, ◌≡◌, Bool, true, false, List, [], ◌∷◌, ◌++◌, map, length, get_or}
use Rattle.std.proofs.Common.{ap}
use Rattle.numbers.specs.Places.{read_at, rest_at}
use Rattle.strings.specs.declared.Span.{Span}
use Rattle.fields.specs.Layouts.{Shape, follow}
use Rattle.fields.specs.Values.{Slot, slot, text, slot_num, slot_start, slot_len, Value, block}
use Rattle.fields.specs.Fields.{no_slot}
use Rattle.laying.specs.Laying.{cells_size}
use Rattle.layouts.specs.Plain.{stat_shape}
use Rattle.stats.specs.Unix as U
use Rattle.stats.specs.declared.Stat.{Stat}
use Rattle.stats.specs.declared.unix.UnixStat.{UnixStat}

abbrev text_of : Span → Slot
text_of v = text v.start v.len

-- its fields in order; neither its count nor its size
abbrev pub slots : Stat → List Slot
slots v =
    slot v.ty ∷ slot v.dev ∷ slot v.qid.ty ∷ slot v.qid.version ∷ slot v.qid.path ∷ slot v.mode ∷ slot v.atime ∷ slot v.mtime ∷ slot v.length
    ∷ text_of v.name ∷ text_of v.uid ∷ text_of v.gid ∷ text_of v.muid ∷ []

abbrev pub stat_of : Stat → Value
stat_of v = block (slots v)

-- a stat made of its fields again
abbrev nth : ℕ → List Slot → Slot
nth i l = get_or l i (slot 0)

abbrev span_in : Slot → Span
span_in v = record { start = slot_start v; len = slot_len v }

abbrev pub made_stat : List Slot → Stat
made_stat l = record {
  ty = slot_num (nth 0 l);
  dev = slot_num (nth 1 l);
  qid = record { ty = slot_num (nth 2 l); version = slot_num (nth 3 l); path = slot_num (nth 4 l) };
  mode = slot_num (nth 5 l);
  atime = slot_num (nth 6 l);
  mtime = slot_num (nth 7 l);
  length = slot_num (nth 8 l);
  name = span_in (nth 9 l);
  uid = span_in (nth 10 l);
  gid = span_in (nth 11 l);
  muid = span_in (nth 12 l);
}

-- so its fields determine it
pub one_stat : (v v' : Stat) → slots v ≡ slots v' → v ≡ v'
one_stat v v' e = ap made_stat e

-- ---- the same of 9P2000.u's

-- the four fields that it has more
abbrev pub more_slots : UnixStat → List Slot
more_slots v = text_of v.extension ∷ slot v.n_uid ∷ slot v.n_gid ∷ slot v.n_muid ∷ []

abbrev pub unix_slots : UnixStat → List Slot
unix_slots v = slots v.plain ++ more_slots v

abbrev pub unix_of : UnixStat → Value
unix_of v = block (unix_slots v)

abbrev pub made_unix : List Slot → UnixStat
made_unix l = record {
  plain = made_stat l;
  extension = span_in (nth 13 l);
  n_uid = slot_num (nth 14 l);
  n_gid = slot_num (nth 15 l);
  n_muid = slot_num (nth 16 l);
}

pub one_unix : (v v' : UnixStat) → unix_slots v ≡ unix_slots v' → v ≡ v'
one_unix v v' e = ap made_unix e

-- ---- what the functions answer

-- the shape of either
abbrev pub shape_of : Bool → List Shape
shape_of false = stat_shape
shape_of true = U.stat_shape

-- the place after the fields of a box at p of s, their text not looked at
pub record Followed (fs : List Shape) (s : List ℕ) (p q : Place) : Type 0 where
  pub is : q ≡ rest_at (length s) (read_at (follow fs) s p)

-- a stat that was refused, and the place that says why
pub record Blank (fs : List Shape) (vs : List Slot) (q k : Place) : Type 0 where
  pub value : vs ≡ map no_slot fs
  pub next : q ≡ k

pub record Sized (fs : List Shape) (vs : List Slot) (n : ℕ) : Type 0 where
  pub is : n ≡ cells_size fs vs
