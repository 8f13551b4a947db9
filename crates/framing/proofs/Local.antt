-- What holds of the definitions in specs/Local.antt.
use Rattle.std.specs.Prelude.{ℕ, ◌+◌, ◌-◌, ◌≤◌, ◌<◌, min, ◌≡◌, List, length, take, drop}
use Rattle.std.proofs.Common.{arith, sym, ap, ◌∙◌, length-take, le-leb, le-ltb, lt-ltb}
use Rattle.numbers.specs.Numbers.{from_le}
use Rattle.numbers.specs.Reading.{bad, raw, read_num}
use Rattle.numbers.proofs.ReadingLaws.{or_else, raw_short}
use Rattle.numbers.specs.declared.Refusal.TheVariants as R
use Rattle.layouts.specs.Tables.{Row}
use Rattle.framing.specs.Frames.{read_type_tag, read_header, frame_of, read_frame}
use Rattle.laying.proofs.LayingLaws.{drop_take}
use Rattle.framing.specs.Local.{size_in}

short : (s : List ℕ) → length s < 4 → read_header s ≡ bad R.Short 0
unfolding read_header read_num
short s h = rw (raw_short 4 s h)

below : (s : List ℕ) → 4 ≤ length s → size_in s < 4 → read_header s ≡ bad R.SizeBelowFour 0
unfolding read_header read_num raw
below s h l = rw (le-leb 4 (length s) h, lt-ltb (size_in s) 4 l)

-- the header and the body are read of the first size bytes
held : (s : List ℕ) → 4 ≤ length s → 4 ≤ size_in s → read_header s ≡ read_type_tag (drop 4 (take (size_in s) s))
unfolding read_header read_num raw
held s h l =
    let e : size_in s ≡ 4 + (size_in s - 4) = omega arith in
    rw (le-leb 4 (length s) h, le-ltb (size_in s) 4 l) (ap read_type_tag (sym (ap (λ n. drop 4 (take n s)) e ∙ drop_take 4 (size_in s - 4) s)))

pub local : (rs : List Row) (s t : List ℕ) → take 4 s ≡ take 4 t → take (size_in s) s ≡ take (size_in s) t → read_frame rs s ≡ read_frame rs t
unfolding read_frame
local rs s t e f = ap (frame_of rs) same
  where
    lengths : min 4 (length s) ≡ min 4 (length t)
    lengths = sym (length-take 4 s) ∙ ap length e ∙ length-take 4 t

    size : size_in s ≡ size_in t
    size = ap from_le e

    same : read_header s ≡ read_header t
    same =
        or_else 4 (length s)
        (λ h.
        let k : 4 ≤ length t = (let l = lengths in omega arith) in
        or_else 4 (size_in s)
        (λ l. held s h l ∙ ap (λ x. read_type_tag (drop 4 x)) (f ∙ ap (λ n. take n t) size) ∙ sym (held t k (let z = size in omega arith)))
        (λ l. below s h l ∙ sym (below t k (let z = size in omega arith))))
        (λ h. short s h ∙ sym (short t (let l = lengths in omega arith)))
