-- What holds of the definitions in specs/ReplayLaws.antt.
use Rattle.numbers.specs.Place.{Place}
use Prim.Native.Nat.{ℕ, suc, ◌+◌, ◌-◌, ◌≤◌, ◌<◌}
use native.Mathlib.Omega.{arith}
use Rattle.std.specs.Prelude.{◌≡◌, refl, Bool, true, false, cond, List, ◌∷◌, length, take, drop, Result, Ok, Err, Some, None}
use Rattle.numbers.specs.declared.Fault.{Fault}
use Rattle.std.proofs.Common.{sym, ◌∙◌, length-append, length-take-le, lt-ltb, le-ltb}
use Rattle.std.proofs.Math.Path.{ap}
use Rattle.io.specs.Counts.{IsPrefixLen}
use Rattle.numbers.specs.Numbers.{Bytes}
use Rattle.numbers.proofs.Numbers.{bytes_take}
use Rattle.numbers.proofs.ReadingLaws.{or_else}
use Rattle.numbers.specs.Refusals.{number_of}
use Rattle.numbers.specs.Places.{Put}
use Rattle.numbers.proofs.PlaceLaws.{one_answer}
use Rattle.numbers.specs.declared.Refusal.{Refusal}
use Rattle.numbers.specs.declared.Refusal.TheVariants as R
use Rattle.layouts.specs.Tables.{table_t, table_r}
use Rattle.layouts.specs.Bodies.{Answer, accepted, refused}
use Rattle.framing.specs.Stretch.{Listing, entry, ends, stops, listing}
use Rattle.framing.specs.ListingLaws.{goes_on}
use Rattle.framing.proofs.ListingLaws.{listed}
use Rattle.stretch.specs.Functions.{answered}
use Rattle.stretch.specs.Views.{view_body, Answered, view_step, Asked}
use Rattle.stretch.specs.declared.Listed.{Listed}
use Rattle.listing.specs.Text.{decimal, joined, answer_number, header, end_word, stop_word, last_pieces, lines_from, too_long, FramePut, LastPut, position_of, room}
use Rattle.listing.specs.TextLaws.{all_none, all_put, all_then, all_fits}
use Rattle.listing.specs.RoomLaws.{Narrow, narrow_most, listing_narrow}
use Rattle.sealing.specs.Trailers.{stretch_in, sealed}
use Rattle.session.specs.Rules.{fresh, stepped}
use Rattle.session.specs.declared.Session.{Session}
use Rattle.session.specs.declared.Event.{Event}
use Rattle.session.specs.declared.Stepped.{Stepped}
use Rattle.events.specs.Events.{event_of}
use Rattle.replaying.specs.Replays.{answer_of, told, replayed, replay, text, LinesPut, ReplayPut, Replayed}
use Rattle.replaying.specs.ReplayLaws.{Upto}

-- ---- an answer

-- what the session accepts was read
number_same : (bs : List ℕ) (s : Session) (ty tag : ℕ) (a : Answer) → answer_of (stepped bs s (event_of ty tag a)).answer ≡ answer_number (told (stepped bs s (event_of ty tag a)).answer a)
unfolding stepped event_of
number_same bs s ty tag (refused k at) = refl
number_same bs s ty tag (accepted t vs used) = go (stepped bs s (event_of ty tag (accepted t vs used))).answer
  where
    go : (b : Result (Unit {0}) Refusal) → answer_of b ≡ answer_number (told b (accepted t vs used))
    go (Ok u) = refl
    go (Err k) = refl

module _ {bs o : List ℕ} {p₀ : Place} where
  pub upto_none : {s : Session} → s ≡ fresh → Upto bs o p₀ s 0 0 o p₀
  unfolding listing
  upto_none e = rw e (record { on = λ o2 e l. record { is = l } })

  pub upto_next : {s : Session} {at n m : ℕ} {r : Answered} (l : Listed) {v : Event} {d : Stepped} {o1 o2 : List ℕ} {p q : Place} → at ≤ length bs → Asked bs at r → r ≡ Ok (Some l)
      → v ≡ event_of l.ty l.tag.0 (view_body l.body) → d ≡ stepped bs s v → m ≡ answer_of d.answer → Upto bs o p₀ s at n o1 p → FramePut l m o1 p o2 q
      → Upto bs o p₀ d.session l.next (n + 1) o2 q
  unfolding view_step lines_from replayed
  upto_next {s} {at} {n} {m} {r} l {v} {d} h a e ve de me u f =
      let g = answered bs at r h a ∙ ap (λ x. goes_on (view_step at x) (listed table_t table_r bs)) e in
      let k : n + 1 ≡ suc n = omega arith in
      let w : d ≡ stepped bs s (event_of l.ty l.tag.0 (view_body l.body)) = de ∙ ap (stepped bs s) ve in
      let z : m ≡ answer_number (told (stepped bs s (event_of l.ty l.tag.0 (view_body l.body))).answer (view_body l.body))
      = me ∙ ap (λ (x : Stepped). answer_of x.answer) w ∙ number_same bs s l.ty l.tag.0 (view_body l.body) in
      record { on = λ o3 t y. u.on o3 t (rw g (all_then (rw z at f.is) (rw (k, w) at y))) }

  pub upto_end : {s : Session} {at n : ℕ} {r : Answered} {o1 o2 : List ℕ} {p t : Place} → at ≤ length bs → Asked bs at r → r ≡ Ok None → Upto bs o p₀ s at n o1 p → LastPut end_word at n o1 p o2 t → LinesPut bs o p₀ o2 t
  unfolding view_step lines_from replayed
  upto_end {s} {at} {n} {r} {o1} {o2} {p} {t} h a e u f =
      let g = answered bs at r h a ∙ ap (λ x. goes_on (view_step at x) (listed table_t table_r bs)) e in u.on o2 t (rw g f.is)

  pub upto_stop : {s : Session} {at n : ℕ} {e : Fault} {r : Answered} {o1 o2 : List ℕ} {p t : Place} → at ≤ length bs → Asked bs at r → r ≡ Err e
      → Upto bs o p₀ s at n o1 p → LastPut stop_word e.1 (number_of e.0) o1 p o2 t → LinesPut bs o p₀ o2 t
  unfolding view_step lines_from replayed
  upto_stop {s} {at} {n} {r = r} {o2 = o2} {t = t} h a e u f =
      let g = answered bs at r h a ∙ ap (λ x. goes_on (view_step at x) (listed table_t table_r bs)) e in u.on o2 t (rw g f.is)

-- ---- the text

module _ {file o : List ℕ} where
  pub text_long : {o1 : List ℕ} {p : Place} → 65536 < length file → Put too_long o (Ok 0) o1 p → ReplayPut file o o1 p
  text_long h a = record { is = rw (lt-ltb 65536 (length file) h) (all_put a all_none) }

  module _ (h : length file ≤ 65536) {b : Bool} (e : b ≡ sealed file) where
    pub text_followed : {o1 o2 : List ℕ} {p q : Place} {n : ℕ} → b ≡ true → n ≡ length file - 12 → Put header o (Ok 0) o1 p → LinesPut (take n file) o1 p o2 q → ReplayPut file o o2 q
    text_followed t f a l = record { is = rw (le-ltb 65536 (length file) h, ← e, t) (all_put a (rw f at l.is)) }

    pub text_unsealed : {o1 : List ℕ} {p : Place} → b ≡ false → LastPut stop_word 0 (number_of R.Trailer) o (Ok 0) o1 p → ReplayPut file o o1 p
    text_unsealed t l = record { is = rw (le-ltb 65536 (length file) h, ← e, t) l.is }

-- ---- it fits the room

-- the session's answers make no line wider
replayed_narrow : (bs : List ℕ) (s : Session) (n bytes : ℕ) (l : Listing) → Narrow n bytes l → Narrow n bytes (replayed bs s l)
unfolding replayed
replayed_narrow bs s n bytes (entry at size ty tag a tail l) h = (h.0, replayed_narrow bs (stepped bs s (event_of ty tag a)).session (suc n) (bytes - size) l h.1)
replayed_narrow bs s n bytes (ends p) h = h
replayed_narrow bs s n bytes (stops k p) h = h

nineteen : length (joined (last_pieces stop_word 0 (number_of R.Trailer))) ≤ room
unfolding joined decimal
nineteen = omega arith

pub text_most : (file : List ℕ) → Bytes file → length (joined (text file)) ≤ room
unfolding joined
text_most file b =
    or_else (length file) 65536
    (λ h. rw (le-ltb 65536 (length file) h) (go h (sealed file)))
    (λ h. rw (lt-ltb 65536 (length file) h) (omega arith))
  where
    go : length file ≤ 65536 → (t : Bool) → length (joined (cond t (header ∷ lines_from 0 (replay (stretch_in file))) (last_pieces stop_word 0 (number_of R.Trailer)))) ≤ room
    go h true =
        let l : length (stretch_in file) ≤ 65536 = (let k = length-take-le (length file - 12) file (omega arith) in omega arith) in
        narrow_most (length (stretch_in file)) (replay (stretch_in file)) l (replayed_narrow (stretch_in file) fresh 0 (length (stretch_in file)) (listing table_t table_r (stretch_in file)) (listing_narrow table_t table_r (stretch_in file) (bytes_take (length file - 12) file b) l))
    go h false = nineteen

pub replay_reported : {file o o' : List ℕ} {q : Place} {n : ℕ} → Bytes file → room ≡ length o → ReplayPut file o o' q → n ≡ position_of q → Replayed file o o' n
replay_reported {file} {o} b l r e =
    let t = text_most file b in
    let w = all_fits (text file) o 0 (omega arith) in
    record { bytes = r.is.bytes ∙ w.bytes; count = e ∙ ap position_of (r.is.next ∙ w.next) ∙ (omega arith) }

-- the text lies within the room, so that it can be lent
pub replayed_counts : {file o o' : List ℕ} {n : ℕ} → Replayed file o o' n → IsPrefixLen n o'
replayed_counts {file} {o} {o'} {n} r =
    let t : List ℕ = joined (text file) in
    let l = ap length r.bytes ∙ length-append t (drop (0 + length t) o) in
    let e = r.count in
    let h : n ≤ length o' = omega arith in
    (h, sym (length-take-le n o' h))

-- one answer
pub replayed_one : {file o o1 o2 : List ℕ} {n n' : ℕ} → Replayed file o o1 n → Replayed file o o2 n' → (o1 ≡ o2) × (n ≡ n')
replayed_one a b = (one_answer a.bytes b.bytes, one_answer a.count b.count)
