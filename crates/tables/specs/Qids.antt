-- The steps by which an Rwalk is written from a table of qids; QidLaws takes them to the definition.
use Rattle.numbers.specs.Place.{Place}
use Rattle.std.specs.Prelude.{ℕ, zero, suc, ◌+◌, ◌*◌, cond, List, ◌++◌, length, get_or, ltb, Ok, Err}
use Rattle.numbers.specs.Numbers.{to_le}
use Rattle.numbers.specs.Places.{over}
use Rattle.numbers.specs.declared.Refusal.TheVariants as R
use Rattle.strings.specs.Spans.{check_at}
use Rattle.fields.specs.Layouts.{ok_count}
use Rattle.layouts.specs.declared.qids.Qid.{Qid}
use Rattle.framing.specs.Writing.{head_bytes}

-- what `get_or` gives past the end
abbrev pub no_qid : Qid
no_qid = record { ty = 0; version = 0; path = 0 }

abbrev pub qid_bytes : Qid → List ℕ
qid_bytes x = to_le 1 x.ty ++ to_le 4 x.version ++ to_le 8 x.path

-- l with a qid as element i of those from `at` on
abbrev pub put_qid : List ℕ → ℕ → ℕ → Qid → List ℕ
put_qid l at i x = over l (at + 13 * i) (qid_bytes x)

-- l with the first k of a table placed from `at` on
abbrev pub placed : List ℕ → ℕ → List Qid → ℕ → List ℕ
placed l at t zero = l
placed l at t (suc k) = put_qid (placed l at t k) at k (get_or t k no_qid)

-- where the frame ends: 17, then 11, else its length
abbrev room_for : ℕ → Place → Place
room_for room (Ok n) = cond (ltb room n) (Err (R.NoRoom, 0)) (Ok n)
room_for room (Err f) = Err f

abbrev pub rwalk_past : ℕ → ℕ → Place
rwalk_past room n = room_for room (check_at (ok_count n) (Ok (9 + 13 * n)))

-- how many qids are to follow the head: all, or none where the frame is refused
abbrev pub all_of : ℕ → Place → ℕ
all_of n (Ok e) = n
all_of n (Err f) = 0

abbrev pub to_follow : ℕ → ℕ → ℕ
to_follow room n = all_of n (rwalk_past room n)

-- the header and the count; or nothing where the frame is refused
abbrev pub head_at : List ℕ → ℕ → ℕ → Place → List ℕ
head_at l tag n (Ok e) = over l 0 (head_bytes e 111 tag ++ to_le 2 n)
head_at l tag n (Err f) = l

abbrev pub headed : List ℕ → ℕ → ℕ → List ℕ
headed l tag n = head_at l tag n (rwalk_past (length l) n)
