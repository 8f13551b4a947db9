-- A capture file: a header and records, each with a time and a frame (F13). Of a file, and of a stretch with a table of times.
use Rattle.numbers.specs.Place.{Place}
use Rattle.std.specs.Prelude.{ℕ, zero, suc, ◌+◌, ◌≡◌, Bool, true, false, cond, List, [], ◌∷◌, ◌++◌, reverse, length, take, drop, get_or, ltb, eqb, Result, Ok, Err}
use Rattle.std.proofs.Math.Option.{Option, none, some}
use Rattle.numbers.specs.Numbers.{from_le, to_le}
use Rattle.numbers.specs.declared.Fault.{Fault}
use Rattle.numbers.specs.declared.Refusal.TheVariants as R
use Rattle.framing.specs.Local.{size_in}
use Rattle.framing.specs.Stretch.{Listing, entry, ends, stops, listing}
use Rattle.captures.specs.declared.Imported.{Imported}

-- ---- a file (F13.1 to F13.3)

-- the number that bytes hold: true where the highest comes first. Nothing else knows of the order
unfoldable pub from_order : Bool → List ℕ → ℕ
from_order true bs = from_le (reverse bs)
from_order false bs = from_le bs

-- the number of w bytes from a position on
abbrev pub num_in : Bool → ℕ → ℕ → List ℕ → ℕ
num_in big w at xs = from_order big (take w (drop at xs))

-- magic[4] major[2] minor[2] zone[4] accuracy[4] snapshot[4] link[4]
unfoldable pub headed : Bool → List ℕ → Bool
headed big xs =
    cond (ltb (length xs) 24) false
    (cond (eqb (num_in big 4 0 xs) 2712847316) (cond (eqb (num_in big 2 4 xs) 2) (cond (eqb (num_in big 2 6 xs) 4) (eqb (num_in big 4 20 xs) 147) false) false) false)

-- the order in which a header stands at the front, if there is one
unfoldable pub order_of : List ℕ → Option Bool
order_of xs = cond (headed false xs) (some false) (cond (headed true xs) (some true) none)

-- seconds[4] microseconds[4] captured[4] original[4], and then the frame
abbrev pub captured : Bool → List ℕ → ℕ
captured big xs = num_in big 4 8 xs

abbrev pub time_in : Bool → List ℕ → List ℕ
time_in big xs = num_in big 4 0 xs ∷ num_in big 4 4 xs ∷ []

abbrev pub frame_in : Bool → List ℕ → List ℕ
frame_in big xs = take (captured big xs) (drop 16 xs)

-- whether a record stands whole at the front: its two lengths are one, from 7 to 65,535, and the frame's size, which is little endian always
unfoldable pub taken : Bool → List ℕ → Bool
taken big xs =
    cond (ltb (length xs) 16) false
    (cond (eqb (captured big xs) (num_in big 4 12 xs))
    (cond (ltb (captured big xs) 7) false
    (cond (ltb 65535 (captured big xs)) false
    (cond (ltb (length xs) (16 + captured big xs)) false (eqb (size_in (drop 16 xs)) (captured big xs)))))
    false)

-- the times and the frames of the records; then the end of the file, or where it is broken
pub data Packets : Type 0 where
  packet : List ℕ → List ℕ → Packets → Packets
  complete : Packets
  broken : ℕ → Packets

-- from position p on, once k more bytes of a record are passed
unfoldable pub packets_from : Bool → ℕ → ℕ → List ℕ → Packets
packets_from big p k [] = complete
packets_from big p (suc k) (x ∷ xs) = packets_from big (suc p) k xs
packets_from big p zero (x ∷ xs) =
    cond (taken big (x ∷ xs)) (packet (time_in big (x ∷ xs)) (frame_in big (x ∷ xs)) (packets_from big (suc p) (15 + captured big (x ∷ xs)) xs)) (broken p)

abbrev pub packets_in : Option Bool → List ℕ → Packets
packets_in none file = broken 0
packets_in (some big) file = packets_from big 24 0 (drop 24 file)

unfoldable pub packets_of : List ℕ → Packets
packets_of file = packets_in (order_of file) file

-- ---- import (F13.4): the frames back to back, and the times

unfoldable pub bytes_in : Packets → List ℕ
bytes_in (packet t f r) = f ++ bytes_in r
bytes_in complete = []
bytes_in (broken p) = []

unfoldable pub times_in : Packets → List (List ℕ)
times_in (packet t f r) = t ∷ times_in r
times_in complete = []
times_in (broken p) = []

-- so many bytes and so many frames, or the refusal and where the file is broken
abbrev pub Import : Type 0
Import = Result Imported Fault

abbrev pub Held : ℕ → ℕ → Import
Held b n = Ok (record { bytes = b; frames = n })

-- how many bytes and frames more than those; 25 where the file is broken
unfoldable pub tallied : ℕ → ℕ → Packets → Import
tallied b n (packet t f r) = tallied (b + length f) (n + 1) r
tallied b n complete = Held b n
tallied b n (broken p) = Err (R.Capture, p)

-- 24 where the table has fewer rows; 11 where there is less room
abbrev pub within : ℕ → ℕ → Import → Import
within room rows (Err f) = Err f
within room rows (Ok t) = cond (ltb rows t.frames) (Err (R.TableFull, 0)) (cond (ltb room t.bytes) (Err (R.NoRoom, 0)) (Ok t))

unfoldable pub imported : ℕ → ℕ → List ℕ → Import
imported room rows file = within room rows (tallied 0 0 (packets_of file))

abbrev pub held : Import → Bool
held (Ok t) = true
held (Err f) = false

-- laid over the first elements of what was lent; refused, that is as it was
abbrev pub laid : {A : Type 0} → Bool → List A → List A → List A
laid true xs o = xs ++ drop (length xs) o
laid false xs o = o

-- what an import leaves of an output and a table, and answers
pub record Imports (file o : List ℕ) (t : List (List ℕ)) (o' : List ℕ) (t' : List (List ℕ)) (r : Import) : Type 0 where
  pub answer : r ≡ imported (length o) (length t) file
  pub bytes : o' ≡ laid (held (imported (length o) (length t) file)) (bytes_in (packets_of file)) o
  pub times : t' ≡ laid (held (imported (length o) (length t) file)) (times_in (packets_of file)) t

-- ---- export (F13.5)

-- the frames that a listing tells of, and how many; 12, 13 where it stops
unfoldable pub frames_in : List ℕ → Listing → List (List ℕ)
frames_in s (entry at n ty tag a tail l) = take n (drop at s) ∷ frames_in s l
frames_in s (ends p) = []
frames_in s (stops k p) = []

unfoldable pub counted : ℕ → Listing → Place
counted m (entry at n ty tag a tail l) = counted (m + 1) l
counted m (ends p) = Ok m
counted m (stops k p) = Err (k, p)

-- 25 at the first frame over 65,535
unfoldable pub fits : Listing → Place
fits (entry at n ty tag a tail l) = cond (ltb 65535 n) (Err (R.Capture, at)) (fits l)
fits (ends p) = Ok p
fits (stops k p) = Err (k, p)

-- no body is read, so that no table of types is asked
abbrev pub cut_up : List ℕ → Listing
cut_up s = listing [] [] s

-- each frame with the time of its row
unfoldable pub paired : List (List ℕ) → List (List ℕ) → Packets
paired ts [] = complete
paired [] (f ∷ fs) = complete
paired (t ∷ ts) (f ∷ fs) = packet t f (paired ts fs)

-- the header that is written: little endian, version 2.4, zone 0, accuracy 0, snapshot length 65,535, link type 147
abbrev pub header : List ℕ
header = to_le 4 2712847316 ++ to_le 2 2 ++ to_le 2 4 ++ to_le 4 0 ++ to_le 4 0 ++ to_le 4 65535 ++ to_le 4 147

-- seconds, microseconds, both lengths, and the frame
abbrev pub record_bytes : ℕ → ℕ → List ℕ → List ℕ
record_bytes seconds micros f = to_le 4 seconds ++ to_le 4 micros ++ to_le 4 (length f) ++ to_le 4 (length f) ++ f

unfoldable pub records_of : Packets → List ℕ
records_of (packet t f r) = record_bytes (get_or t 0 0) (get_or t 1 0) f ++ records_of r
records_of complete = []
records_of (broken p) = []

abbrev pub file_of : Packets → List ℕ
file_of r = header ++ records_of r

-- the first refusal answers
abbrev pub unless : Place → Place → Place
unless (Err f) q = Err f
unless (Ok n) q = q

abbrev pub exported_file : List ℕ → List (List ℕ) → List ℕ
exported_file s ts = file_of (paired ts (frames_in s (cut_up s)))

-- 12 or 13, then 25, then 24, then 11
unfoldable pub exported : ℕ → List ℕ → List (List ℕ) → Place
exported room s ts =
    unless (counted 0 (cut_up s))
    (unless (fits (cut_up s))
    (cond (ltb (length ts) (length (frames_in s (cut_up s)))) (Err (R.TableFull, 0))
    (cond (ltb room (length (exported_file s ts))) (Err (R.NoRoom, 0)) (Ok (length (exported_file s ts))))))

abbrev pub placed : Place → Bool
placed (Ok n) = true
placed (Err f) = false

-- what an export leaves of an output, and answers
pub record Exports (s : List ℕ) (ts : List (List ℕ)) (o o' : List ℕ) (r : Place) : Type 0 where
  pub answer : r ≡ exported (length o) s ts
  pub bytes : o' ≡ laid (placed (exported (length o) s ts)) (exported_file s ts) o
