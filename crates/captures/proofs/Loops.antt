-- What the two loops that write keep: with what is still to come, the output and the table are what they shall be.
use Rattle.std.specs.Prelude.{Ok}
use Rattle.numbers.specs.Place.{Place}
use Prim.Native.Nat.{ℕ, ◌+◌, ◌-◌, ◌≤◌, ◌<◌}
use native.Mathlib.Omega.{arith}
use native.Mathlib.Numerals.{add-one}
use native.Mathlib.Nat.{zero-add}
use mathlib.Core.Path.{◌≡◌, refl, sym, ap, ◌∙◌}
use mathlib.Core.Bool.{Bool}
use mathlib.Core.List.{List, [], ◌∷◌, ◌++◌}
use lib.ListN.{length, take, drop, set, get_or, length-set, length-append}
use lib.Seq.{sets, sets-eq, drop-cons}
use Rattle.numbers.specs.Places.{over}
use Rattle.numbers.proofs.PlaceLaws.{over_then, length_over}
use Rattle.strings.specs.Spans.{SpanPut}
use Rattle.strings.proofs.SpanLaws.{shown_length}
use Rattle.framing.proofs.WritingLaws.{over_none}
use Rattle.captures.specs.Captures.{num_in, bytes_in, times_in, frames_in, paired, record_bytes, records_of}
use Rattle.captures.specs.Steps.{from, Roomy, rest, records, Ready}
use Rattle.captures.proofs.FileLaws.{Stands, bytes_turn, times_turn}
use Rattle.captures.specs.StretchLaws.{Next}
use Rattle.captures.proofs.StretchLaws.{frames_turn, starts}
use Rattle.captures.proofs.PutLaws.{shown, put_over, record_length}

-- ---- bytes over an output

module _ (o o₀ : List ℕ) (to a : ℕ) (all : List ℕ) where
  -- put over it, and what comes after them
  pub over_turn : (bs cs : List ℕ) → to + length (bs ++ cs) ≤ length o → over o to (bs ++ cs) ≡ over o₀ a all → over (over o to bs) (to + length bs) cs ≡ over o₀ a all
  over_turn bs cs h e = over_then o to bs cs h ∙ e

  pub over_ends : to ≤ length o → over o to [] ≡ over o₀ a all → o ≡ over o₀ a all
  over_ends h e = over_none o to h ∙ e

-- ---- taking

pub record Taking (big : Bool) (file o₀ : List ℕ) (t₀ : List (List ℕ)) (o : List ℕ) (t : List (List ℕ)) (at to i : ℕ) : Type 0 where
  pub within : at ≤ length file
  pub output : length o ≡ length o₀
  pub table : length t ≡ length t₀
  pub room : to + length (bytes_in (from big file at)) ≤ length o
  pub rows : i + length (times_in (from big file at)) ≤ length t
  pub bytes : over o to (bytes_in (from big file at)) ≡ over o₀ 0 (bytes_in (from big file 24))
  pub times : sets t i (times_in (from big file at)) ≡ sets t₀ 0 (times_in (from big file 24))

module _ (big : Bool) (file o₀ : List ℕ) (t₀ : List (List ℕ)) where
  module _ (o : List ℕ) (t : List (List ℕ)) (at to i : ℕ) (w : Taking big file o₀ t₀ o t at to i) where
    pub row_left : {n : ℕ} → Stands big file at n → i < length t
    row_left x =
        let h = w.rows in
        let e = ap length (times_turn big file at x) in
        omega arith

    pub room_left : {n : ℕ} → Stands big file at n → to + n ≤ length o
    room_left {n} x =
        let h = w.room in
        let k = x.held in
        let l = shown_length file (at + 16) n k in
        let e = ap length (bytes_turn big file at x) ∙ length-append (take n (drop (at + 16) file)) (bytes_in (from big file (at + 16 + n))) in
        omega arith

    pub take_turn : {n x y : ℕ} {o' : List ℕ} {q : Place} → Stands big file at n → x ≡ num_in big 4 at file → y ≡ num_in big 4 (at + 4) file → SpanPut file (at + 16) n o (Ok to) o' q
        → Taking big file o₀ t₀ o' (set t i (x ∷ y ∷ [])) (at + 16 + n) (to + n) (i + 1)
    take_turn {n} {x} {y} {o'} {q} s e f p =
        let k = s.held in
        let h = w.room in
        let g = w.rows in
        let bs : List ℕ = take n (drop (at + 16) file) in
        let cs : List ℕ = bytes_in (from big file (at + 16 + n)) in
        let l : length bs ≡ n = shown_length file (at + 16) n k in
        let turn : bytes_in (from big file at) ≡ bs ++ cs = bytes_turn big file at s in
        let u = ap length turn in
        let v = length-append bs cs in
        let tt' = ap length (times_turn big file at s) in
        let z : o' ≡ over o to bs = put_over (shown p k) (omega arith) in
        let m : length o' ≡ length o = ap length z ∙ length_over o to bs (omega arith) in
        let c = w.output in
        let d = length-set t i (x ∷ y ∷ []) in
        let b = w.table in
        let over-all = over_turn o o₀ to 0 (bytes_in (from big file 24)) bs cs (omega arith) (rw turn at w.bytes) in
        record {
          within = k;
          output = omega arith;
          table = omega arith;
          room = omega arith;
          rows = omega arith;
          bytes = ap (λ (a : List ℕ). over a (to + n) cs) z ∙ ap (λ j. over (over o to bs) (to + j) cs) (sym l) ∙ over-all;
          times = rw (e, f, add-one) (rw (times_turn big file at s) at w.times);
        }

    pub take_ends : (bytes_in (from big file at) ≡ []) × (times_in (from big file at) ≡ []) → Roomy file (from big file 24) o₀ t₀
        → (o ≡ over o₀ 0 (bytes_in (from big file 24))) × (t ≡ times_in (from big file 24) ++ drop (length (times_in (from big file 24))) t₀)
    take_ends (e, f) r =
        let h = w.room in
        let k = r.rows in
        let ts : List (List ℕ) = times_in (from big file 24) in (
          over_ends o o₀ to 0 (bytes_in (from big file 24)) (omega arith) (rw e at w.bytes),
          (rw f at w.times) ∙ sets-eq ts t₀ 0 (omega arith) ∙ ap (λ j. ts ++ drop j t₀) (zero-add (length ts)),
        )

-- ---- putting records

none_come : (us : List (List ℕ)) → records_of (paired us []) ≡ []
unfolding records_of paired
none_come us = refl

pub record Putting (s : List ℕ) (ts : List (List ℕ)) (o₀ o : List ℕ) (at to i : ℕ) : Type 0 where
  pub within : at ≤ length s
  pub output : length o ≡ length o₀
  pub rows : i + length (frames_in s (rest s at)) ≤ length ts
  pub room : to + length (records_of (paired (drop i ts) (frames_in s (rest s at)))) ≤ length o
  pub bytes : over o to (records_of (paired (drop i ts) (frames_in s (rest s at)))) ≡ over o₀ 24 (records s ts)

module _ (s : List ℕ) (ts : List (List ℕ)) (o₀ : List ℕ) where
  pub put_begins : Ready s ts o₀ → Putting s ts o₀ o₀ 0 24 0
  put_begins r =
      let h = r.rows in
      let k = r.room in
      record { within = omega arith; output = refl; rows = rw (starts s) (omega arith); room = rw (starts s) k; bytes = rw (starts s) }

  module _ (o : List ℕ) (at to i : ℕ) (w : Putting s ts o₀ o at to i) where
    module _ {e : ℕ} (x : Next s at e) where
      pub row_there : i < length ts
      row_there =
          let h = w.rows in
          let k = ap length (frames_turn x) in
          omega arith

      to_come : records_of (paired (drop i ts) (frames_in s (rest s at))) ≡ record_bytes (get_or (get_or ts i []) 0 0) (get_or (get_or ts i []) 1 0) (take (e - at) (drop at s)) ++ records_of (paired (drop (i + 1) ts) (frames_in s (rest s e)))
      unfolding records_of paired
      to_come = rw (frames_turn x, drop-cons ts i [] row_there, add-one)

      frame_there : length (take (e - at) (drop at s)) ≡ e - at
      frame_there =
          let h = x.held in
          let k = x.on in
          shown_length s at (e - at) (omega arith)

      come_length : length (records_of (paired (drop i ts) (frames_in s (rest s at)))) ≡ 16 + (e - at) + length (records_of (paired (drop (i + 1) ts) (frames_in s (rest s e))))
      come_length =
          let l = frame_there in
          let t : ℕ = get_or (get_or ts i []) 0 0 in
          let u : ℕ = get_or (get_or ts i []) 1 0 in
          let f : List ℕ = take (e - at) (drop at s) in
          let b = record_length t u f in
          let a = length-append (record_bytes t u f) (records_of (paired (drop (i + 1) ts) (frames_in s (rest s e)))) in
          ap length to_come ∙ a ∙ omega arith

      pub room_there : to + 16 + (e - at) ≤ length o
      room_there =
          let h = w.room in
          let k = come_length in
          omega arith

      pub put_turn : {o' : List ℕ} → o' ≡ over o to (record_bytes (get_or (get_or ts i []) 0 0) (get_or (get_or ts i []) 1 0) (take (e - at) (drop at s)))
          → Putting s ts o₀ o' e (to + (16 + (e - at))) (i + 1)
      put_turn {o'} z =
          let t : ℕ = get_or (get_or ts i []) 0 0 in
          let u : ℕ = get_or (get_or ts i []) 1 0 in
          let f : List ℕ = take (e - at) (drop at s) in
          let cs : List ℕ = records_of (paired (drop (i + 1) ts) (frames_in s (rest s e))) in
          let l = frame_there in
          let b = record_length t u f in
          let h = w.room in
          let g = w.rows in
          let k = come_length in
          let fr = ap length (frames_turn x) in
          let a = length-append (record_bytes t u f) cs in
          let m : length o' ≡ length o = ap length z ∙ length_over o to (record_bytes t u f) (omega arith) in
          let c = w.output in
          let n : to + (16 + (e - at)) ≡ to + length (record_bytes t u f) = omega arith in
          let all = over_turn o o₀ to 24 (records s ts) (record_bytes t u f) cs (omega arith) (rw to_come at w.bytes) in
          record {
            within = x.held;
            output = omega arith;
            rows = omega arith;
            room = omega arith;
            bytes = ap (λ (y : List ℕ). over y (to + (16 + (e - at))) cs) z ∙ ap (λ j. over (over o to (record_bytes t u f)) j cs) n ∙ all;
          }

    pub put_ends : frames_in s (rest s at) ≡ [] → o ≡ over o₀ 24 (records s ts)
    put_ends e =
        let h = w.room in
        over_ends o o₀ to 24 (records s ts) (omega arith) (rw (e, none_come (drop i ts)) at w.bytes)
