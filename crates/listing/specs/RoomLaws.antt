-- The text of any input fits the room, over any two tables; so the lister's promise has no premise.
use Rattle.numbers.specs.Place.{Place}
use Rattle.std.specs.Prelude.{ℕ, zero, suc, ◌+◌, ◌*◌, ◌-◌, ◌/◌, ◌%◌, ◌^◌, ◌≤◌, ◌<◌, ◌≡◌, Bool, true, false, cond, List, [], ◌∷◌, ◌++◌, length, take, drop, eqb, Ok}
use Rattle.std.proofs.Common.{arith, ap, ◌∙◌, length-append, length-take, length-drop, lit<, lt-ltb, le-ltb}
use Rattle.std.proofs.Math.Nat.{pow-le-pow_right}
use Rattle.std.proofs.Math.Path.{refl}
use Rattle.io.specs.Digits.{last_digits, hex_digit_ascii}
use Rattle.numbers.specs.Numbers.{Bytes, from_le}
use Rattle.numbers.proofs.Numbers.{from_bound, bytes_take, bytes_drop}
use Rattle.numbers.proofs.ReadingLaws.{or_else}
use Rattle.numbers.specs.Refusals.{number_of}
use Rattle.numbers.specs.Places.{over}
use Rattle.numbers.specs.declared.Refusal.{Refusal}
use Rattle.numbers.specs.declared.Refusal.TheVariants as R
use Rattle.layouts.specs.Tables.{Row, table_t, table_r}
use Rattle.layouts.specs.Bodies.{Answer, accepted, refused}
use Rattle.framing.specs.Stretch.{tail_in, answer_of, front, stop, Listing, entry, ends, stops, list_from, listing}
use Rattle.framing.proofs.ListingLaws.{front_case, list_next}
use Rattle.listing.specs.Text.{figures, decimal, joined, newline, field_pieces, answer_number, line_pieces, end_word, stop_word, last_pieces, header, lines_from, report, ReportPut, position_of, room, Reported}
use Rattle.listing.specs.TextLaws.{all_fits}

-- ---- a number below 10 ^ k has at most k figures (F8.4)

figures_most : (fuel j k n : ℕ) → j ≤ k → n < 10 ^ k → figures fuel j n ≤ k
figures_most zero j k n a b = a
figures_most (suc fuel) j k n a b =
    or_else (10 ^ j) n
    (λ l.
    let m : suc j ≤ k = or_else (suc j) k (λ h. h) (λ h. absurd (let e : j ≡ k = omega arith in omega (arith, ap (λ i. 10 ^ i) e))) in
    rw (le-ltb n (10 ^ j) l) (figures_most fuel (suc j) k n m b))
    (λ l. rw (lt-ltb n (10 ^ j) l) a)

length_digits : (b k n : ℕ) → length (last_digits b k n) ≡ k
length_digits b zero n = refl
length_digits b (suc k) n = let i = length_digits b k (n / b) in length-append (last_digits b k (n / b)) (hex_digit_ascii (n % b) ∷ []) ∙ (omega arith)

pub decimal_most : (k : ℕ) {n : ℕ} → 1 ≤ k → n < 10 ^ k → length (decimal n) ≤ k
unfolding decimal
decimal_most k {n} h l = rw (length_digits 10 (figures 19 1 n) n) (figures_most 19 1 k n h l)

-- ---- a line has at most 31 bytes, and the last line 15 (F8.3, F8.5, F8.6)

number_most : (k : Refusal) → number_of k < 10 ^ 2
number_most R.Short = lit< tt
number_most R.SizeBelowFour = lit< tt
number_most R.UnknownType = lit< tt
number_most R.DataTooLong = lit< tt
number_most R.NotUtf8 = lit< tt
number_most R.ZeroByte = lit< tt
number_most R.StringTooLong = lit< tt
number_most R.TableTooLong = lit< tt
number_most R.SpanOutside = lit< tt
number_most R.FrameTooLong = lit< tt
number_most R.NoRoom = lit< tt
number_most R.StretchCut = lit< tt
number_most R.StretchSize = lit< tt
number_most R.PartMalformed = lit< tt
number_most R.NoSuchElement = lit< tt
number_most R.HoldsRefusal = lit< tt
number_most R.TooManyElements = lit< tt
number_most R.StatMalformed = lit< tt
number_most R.Trailer = lit< tt
number_most R.TagOpen = lit< tt
number_most R.NoRequest = lit< tt
number_most R.FidInUse = lit< tt
number_most R.FidUnknown = lit< tt
number_most R.TableFull = lit< tt
number_most R.Capture = lit< tt
number_most R.MsizeTooSmall = lit< tt
number_most R.EndTooFar = lit< tt

answer_most : (a : Answer) → answer_number a < 10 ^ 2
answer_most (accepted ty vs used) = lit< tt
answer_most (refused k at) = number_most k

tail_within : (size : ℕ) (a : Answer) → tail_in size a ≤ size
tail_within size (accepted ty vs used) = omega arith
tail_within size (refused k at) = omega arith

-- the number that w bytes hold
taken_most : (w : ℕ) (xs : List ℕ) → Bytes xs → from_le (take w xs) < 256 ^ w
taken_most w xs b =
    let f = from_bound (take w xs) (bytes_take w xs b) in
    let g : 256 ^ length (take w xs) ≤ 256 ^ w = pow-le-pow_right (omega arith) (simp length-take (omega arith)) in
    omega arith

joined_append : (bs cs : List (List ℕ)) → length (joined (bs ++ cs)) ≡ length (joined bs) + length (joined cs)
unfolding joined
joined_append [] cs = omega arith
joined_append (b ∷ bs) cs =
    let i = joined_append bs cs in
    let l = length-append b (joined bs) in
    length-append b (joined (bs ++ cs)) ∙ (omega arith)

tail_most : {tail : ℕ} (t : Bool) → tail < 10 ^ 5 → length (joined (cond t (field_pieces tail newline) ((45 ∷ 10 ∷ []) ∷ []))) ≤ 6
unfolding joined
tail_most {tail} true h = let d = decimal_most 5 (omega arith) h in simp length-append (omega arith)
tail_most false h = omega arith

line_most : {at size ty tag n tail : ℕ} → at < 10 ^ 5 → size < 10 ^ 5 → ty < 10 ^ 3 → tag < 10 ^ 5 → n < 10 ^ 2 → tail < 10 ^ 5 → length (joined (line_pieces at size ty tag n tail)) ≤ 31
unfolding joined
line_most {at} {size} {ty} {tag} {n} {tail} a b c d e f =
    let a' = decimal_most 5 (omega arith) a in
    let b' = decimal_most 5 (omega arith) b in
    let c' = decimal_most 3 (omega arith) c in
    let d' = decimal_most 5 (omega arith) d in
    let e' = decimal_most 2 (omega arith) e in
    let f' = tail_most (eqb n 0) f in
    simp length-append (omega arith)

last_most : (word : List ℕ) (k p n : ℕ) → 1 ≤ k → length word + k ≤ 8 → p < 10 ^ 5 → n < 10 ^ k → length (joined (last_pieces word p n)) ≤ 15
unfolding joined
last_most word k p n h l a b =
    let d = decimal_most 5 (omega arith) a in
    let e = decimal_most k h b in
    simp length-append (omega arith)

-- ---- the lines

-- a text of as many lines as there are frames, of seven bytes or more each, and of the last line
record Lines (bytes text : ℕ) : Type 0 where
  frames : ℕ
  seven : 7 * frames ≤ bytes
  most : text ≤ 31 * frames + 15

-- fields as narrow as those of so many bytes, after n frames
abbrev pub Narrow : ℕ → ℕ → Listing → Type 0
Narrow n bytes (entry at size ty tag a tail l) =
    ((at < 10 ^ 5) × (size < 10 ^ 5) × (ty < 10 ^ 3) × (tag < 10 ^ 5) × (tail < 10 ^ 5) × (7 ≤ size) × (size ≤ bytes)) × Narrow (suc n) (bytes - size) l
Narrow n bytes (ends p) = (p < 10 ^ 5) × (n < 10 ^ 4)
Narrow n bytes (stops k p) = p < 10 ^ 5

narrow_lines : (n bytes : ℕ) (l : Listing) → Narrow n bytes l → Lines bytes (length (joined (lines_from n l)))
unfolding lines_from
narrow_lines n bytes (entry at size ty tag a tail l) h =
    let f = h.0 in
    let i = narrow_lines (suc n) (bytes - size) l h.1 in
    let g = line_most f.0 f.1 f.2 f.3 (answer_most a) f.4 in
    let j = joined_append (line_pieces at size ty tag (answer_number a) tail) (lines_from (suc n) l) in
    let v = f.5 in
    let w = f.6 in
    let s = i.seven in
    let m = i.most in
    record { frames = suc i.frames; seven = omega arith; most = omega arith }
narrow_lines n bytes (ends p) h = record { frames = 0; seven = omega arith; most = last_most end_word 4 p n (omega arith) (omega arith) h.0 h.1 }
narrow_lines n bytes (stops k p) h = record { frames = 0; seven = omega arith; most = last_most stop_word 2 p (number_of k) (omega arith) (omega arith) h (number_most k) }

-- 29 bytes of header, at most 9,362 lines of at most 31, and a last line of at most 15
pub narrow_most : (bytes : ℕ) (l : Listing) → bytes ≤ 65536 → Narrow 0 bytes l → length (joined (header ∷ lines_from 0 l)) ≤ room
unfolding joined
narrow_most bytes l b h =
    let i = narrow_lines 0 bytes l h in
    let m = i.most in
    let v = i.seven in
    omega arith

module _ (ts rs : List Row) where
  none_left : (p : ℕ) → list_from ts rs p 0 [] ≡ ends p
  unfolding list_from
  none_left p = refl

  stopped : (p x : ℕ) (xs : List ℕ) {k : Refusal} → front ts rs p (x ∷ xs) ≡ stop k p → list_from ts rs p 0 (x ∷ xs) ≡ stops k p
  unfolding list_from
  stopped p x xs e = rw (e, list_from)

  -- of fewer than k bytes, from p on, after n frames
  abbrev Most : ℕ → Type 0
  Most k = (xs : List ℕ) (p n : ℕ) → length xs < k → Bytes xs → p + length xs ≤ 65536 → 7 * n ≤ p → Narrow n (length xs) (list_from ts rs p 0 xs)

  step : (k : ℕ) → Most k → Most (suc k)
  step k ih [] p n h b l m = rw (none_left p) (omega arith, omega arith)
  step k ih (x ∷ xs) p n h b l m =
      front_case ts rs p (x ∷ xs)
      (λ size f e.
      let g : List ℕ = take size (x ∷ xs) in
      let r : List ℕ = drop size (x ∷ xs) in
      let c : Bytes g = bytes_take size (x ∷ xs) b in
      let s = f.seven in
      let t = f.held in
      let d = length-drop size (x ∷ xs) in
      let u = taken_most 1 (drop 4 g) (bytes_drop 4 g c) in
      let v = taken_most 2 (drop 5 g) (bytes_drop 5 g c) in
      let w = tail_within size (answer_of ts rs g) in
      let i = ih r (p + size) (suc n) (omega arith) (bytes_drop size (x ∷ xs) b) (omega arith) (omega arith) in
      rw (list_next ts rs p size (x ∷ xs) f) ((omega arith, omega arith, omega arith, omega arith, omega arith, s, t), rw d at i))
      (λ k e. rw (stopped p x xs e) (omega arith))

  lines_most : (k : ℕ) → Most k
  lines_most zero = λ xs p n h b l m. absurd (omega arith)
  lines_most (suc k) = step k (lines_most k)

  pub listing_narrow : (s : List ℕ) → Bytes s → length s ≤ 65536 → Narrow 0 (length s) (listing ts rs s)
  unfolding listing
  listing_narrow s b h = lines_most (suc (length s)) s 0 0 (omega arith) b (omega arith) (omega arith)

  -- that much, or the one line of F8.1
  pub text_most : (s : List ℕ) → Bytes s → length (joined (report ts rs s)) ≤ room
  unfolding joined
  text_most s b =
      or_else (length s) 65536 (λ h. rw (le-ltb 65536 (length s) h) (narrow_most (length s) (listing ts rs s) h (listing_narrow s b h))) (λ h. rw (lt-ltb 65536 (length s) h) (omega arith))

-- ---- the promise

pub report_fits : {s o o' : List ℕ} {q : Place} → Bytes s → room ≡ length o → ReportPut s o o' q → (o' ≡ over o 0 (joined (report table_t table_r s))) × (q ≡ Ok (length (joined (report table_t table_r s))))
report_fits {s} {o} b l r =
    let t = text_most table_t table_r s b in
    let w = all_fits (report table_t table_r s) o 0 (omega arith) in
    (r.is.bytes ∙ w.bytes, r.is.next ∙ w.next ∙ ap Ok (omega arith))

pub reported : {s o o' : List ℕ} {q : Place} {n : ℕ} → Bytes s → room ≡ length o → ReportPut s o o' q → n ≡ position_of q → Reported s o o' n
reported b l r e = let f = report_fits b l r in record { bytes = f.0; count = e ∙ ap position_of f.1 }
