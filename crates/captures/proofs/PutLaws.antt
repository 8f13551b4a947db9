-- Of what is put: the header, a record, the records; and how long a file is.
use Rattle.numbers.specs.Place.{Place}
use Rattle.std.specs.Prelude.{ℕ, ◌+◌, ◌*◌, ◌≤◌, ◌≡◌, refl, List, [], ◌∷◌, length, take, drop, Ok}
use Rattle.std.proofs.Common.{arith, ◌∙◌, length-append}
use Rattle.numbers.specs.Numbers.{to_le}
use Rattle.numbers.proofs.Numbers.{length_to_le}
use Rattle.numbers.specs.Places.{over, Put}
use Rattle.numbers.proofs.PlaceLaws.{put_then}
use Rattle.strings.specs.Spans.{SpanPut}
use Rattle.strings.proofs.SpanLaws.{shown_in, shown_length, passing}
use Rattle.framing.proofs.WritingLaws.{put_fits}
use Rattle.captures.specs.Captures.{paired, header, record_bytes, records_of}
use Rattle.captures.specs.Steps.{joined}

-- ---- where there is room

pub shown : {lent : List ℕ} {x y : ℕ} {o o' : List ℕ} {p q : Place} → SpanPut lent x y o p o' q → x + y ≤ length lent → Put (take y (drop x lent)) o p o' q
shown {lent} {x} {y} {p = p} s h = rw (shown_in lent x y h, passing (take y (drop x lent)) [] p) at s.put

pub put_over : {bs o o' : List ℕ} {a : ℕ} {q : Place} → Put bs o (Ok a) o' q → a + length bs ≤ length o → o' ≡ over o a bs
put_over {bs} {o} {o'} {a} p h = p.bytes ∙ put_fits bs o a h

pub head_length : length header ≡ 24
head_length = simp (length-append, length_to_le)

pub head_put : {o o1 o2 o3 o4 o5 o6 o7 : List ℕ} {a b c d e f g : Place} → 24 ≤ length o → Put (to_le 4 2712847316) o (Ok 0) o1 a → Put (to_le 2 2) o1 a o2 b → Put (to_le 2 4) o2 b o3 c
    → Put (to_le 4 0) o3 c o4 d → Put (to_le 4 0) o4 d o5 e → Put (to_le 4 65535) o5 e o6 f → Put (to_le 4 147) o6 f o7 g → o7 ≡ over o 0 header
head_put {o} h p1 p2 p3 p4 p5 p6 p7 =
    let q2 = put_then p1 p2 refl (simp (length-append, length_to_le) (omega arith)) in
    let q3 = put_then q2 p3 refl (simp (length-append, length_to_le) (omega arith)) in
    let q4 = put_then q3 p4 refl (simp (length-append, length_to_le) (omega arith)) in
    let q5 = put_then q4 p5 refl (simp (length-append, length_to_le) (omega arith)) in
    let q6 = put_then q5 p6 refl (simp (length-append, length_to_le) (omega arith)) in
    put_over (put_then q6 p7 refl (simp (length-append, length_to_le) (omega arith))) (simp (length-append, length_to_le) (omega arith))

pub record_length : (t u : ℕ) (f : List ℕ) → length (record_bytes t u f) ≡ 16 + length f
record_length t u f = simp (length-append, length_to_le) (omega arith)

pub record_put : {o o1 o2 o3 o4 o5 : List ℕ} {a b c d e : Place} (s : List ℕ) (to t u at n : ℕ) → at + n ≤ length s → to + 16 + n ≤ length o
    → Put (to_le 4 t) o (Ok to) o1 a → Put (to_le 4 u) o1 a o2 b → Put (to_le 4 n) o2 b o3 c → Put (to_le 4 n) o3 c o4 d → SpanPut s at n o4 d o5 e
    → o5 ≡ over o to (record_bytes t u (take n (drop at s)))
record_put {o} s to t u at n h k p1 p2 p3 p4 p5 =
    let l : length (take n (drop at s)) ≡ n = shown_length s at n h in
    let q2 = put_then p1 p2 refl (simp (length-append, length_to_le) (omega arith)) in
    let q3 = put_then q2 p3 refl (simp (length-append, length_to_le) (omega arith)) in
    let q4 = put_then q3 p4 refl (simp (length-append, length_to_le) (omega arith)) in
    let q5 = put_then q4 (shown p5 h) refl (simp (length-append, length_to_le) (omega arith)) in
    rw l (put_over q5 (simp (length-append, length_to_le) (omega arith)))

-- ---- how long the records are

pub records_length : (ts fs : List (List ℕ)) → length fs ≤ length ts → length (records_of (paired ts fs)) ≡ length (joined fs) + 16 * length fs
unfolding records_of paired
records_length ts [] h = refl
records_length [] (f ∷ fs) h = absurd (omega arith)
records_length (t ∷ ts) (f ∷ fs) h =
    let i = records_length ts fs (omega arith) in
    simp (length-append, length_to_le) (omega arith)
