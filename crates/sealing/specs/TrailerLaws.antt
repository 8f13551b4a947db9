-- Counting the frames of a stretch, position by position; a sealed file reads to its end, and a stretch with its own trailer is sealed.
use Rattle.numbers.specs.Place.{Place}
use Rattle.std.specs.Prelude.{ℕ, zero, suc, pred, ◌+◌, ◌-◌, ◌^◌, ◌≤◌, ◌<◌, ◌≡◌, Bool, true, false, cond, List, [], ◌∷◌, ◌++◌, drop, ltb, eqb, Result, Ok, Err, Option, Some, None}
use native.Mathlib.Omega.{arith}
use Rattle.std.proofs.Math.Path.{refl, sym, ap}
use Rattle.std.proofs.Common.{◌∙◌, append_assoc, append-nil, length-append, length-take-le}
use Rattle.std.proofs.Math.ListN.{length, take}
use Rattle.std.proofs.Math.Seq.{take-append_seam, drop-append_seam}
use borrow.Author.Tests.{lt-ltb, le-ltb, eq-eqb, ne_eqb}
use Rattle.numbers.specs.Numbers.{to_le}
use Rattle.numbers.proofs.Numbers.{length_to_le}
use Rattle.numbers.specs.Reading.{read_num}
use Rattle.numbers.proofs.ReadingLaws.{reads_num}
use Rattle.numbers.specs.Places.{Within, number_in, num_at, Put, NumRead}
use Rattle.numbers.proofs.PlaceLaws.{put_stays, put_full, put_then}
use Rattle.numbers.specs.declared.Fault.{Fault}
use Rattle.numbers.specs.declared.Refusal.{Refusal}
use Rattle.numbers.specs.declared.Refusal.TheVariants as R
use Rattle.layouts.specs.Tables.{table_t, table_r}
use Rattle.framing.specs.Stretch.{Listing, entry, ends, stops, list_from, listing}
use Rattle.framing.specs.ListingLaws.{goes_on}
use Rattle.framing.proofs.ListingLaws.{front_case, list_frame, list_stop, listed, list_step}
use Rattle.framing.specs.Joining.{Ends}
use Rattle.framing.specs.Cuts.{between, CutAt}
use Rattle.framing.proofs.CutLaws.{length_whole, cut_whole, cut_end, cut_stop}
use Rattle.framing.specs.declared.Cut.{Cut}
use Rattle.sealing.specs.Trailers.{Measured, extent_from, extent_of, tells, stretch_in, sealed, trailer_bytes, ExtentPut, TrailerPut}
use Rattle.sealing.specs.declared.Extent.{Extent}

-- ---- one frame on

module _ (s : List ℕ) where
  pub extent_start : extent_from 0 0 (listed table_t table_r s 0) ≡ extent_of (listing table_t table_r s)
  unfolding listing
  extent_start = refl

  module _ {p : ℕ} {g : Result (Option Cut) Refusal} (h : p ≤ length s) (c : CutAt s p g) (n b : ℕ) where
    pub extent_on : {x : Cut} → g ≡ Ok (Some x) → extent_from (n + 1) p (listed table_t table_r s x.next) ≡ extent_from n b (listed table_t table_r s p)
    unfolding extent_from
    extent_on {x} f =
        let w = cut_whole s p c f in
        let z = length_whole w in
        let v = w.seven in
        let m : x.next ≡ p + length (between p x.next s) = omega arith in
        ap (λ q. extent_from (n + 1) p (listed table_t table_r s q)) m
        ∙ sym (ap (extent_from n b) (list_step table_t table_r s p h ∙ ap (λ y. goes_on y (listed table_t table_r s)) (sym (w.is table_t table_r))))

    pub extent_end : g ≡ Ok None → Ok (record { bytes = p; frames = n; last = b }) ≡ extent_from n b (listed table_t table_r s p)
    unfolding extent_from
    extent_end f = sym (ap (extent_from n b) (list_step table_t table_r s p h ∙ ap (λ x. goes_on x (listed table_t table_r s)) (sym (cut_end s p c f table_t table_r))))

    pub extent_stop : {k : Refusal} → g ≡ Err k → Err (k, p) ≡ extent_from n b (listed table_t table_r s p)
    unfolding extent_from
    extent_stop f = sym (ap (extent_from n b) (list_step table_t table_r s p h ∙ ap (λ x. goes_on x (listed table_t table_r s)) (sym (cut_stop s p c f table_t table_r))))

-- ---- a trailer that is read

module _ (bytes frames last : ℕ) {m : Measured} where
  pub tells_bytes : {e : Extent} → m ≡ Ok e → (e.bytes ≡ bytes → ⊥) → false ≡ tells bytes frames last m
  tells_bytes {e} f h = rw (f, ne_eqb e.bytes bytes h)

  pub tells_frames : {e : Extent} → m ≡ Ok e → e.bytes ≡ bytes → (e.frames ≡ frames → ⊥) → false ≡ tells bytes frames last m
  tells_frames {e} f g h = rw (f, eq-eqb e.bytes bytes g, ne_eqb e.frames frames h)

  pub tells_last : {e : Extent} → m ≡ Ok e → e.bytes ≡ bytes → e.frames ≡ frames → eqb e.last last ≡ tells bytes frames last m
  tells_last {e} f g h = rw (f, eq-eqb e.bytes bytes g, eq-eqb e.frames frames h)

  pub tells_none : {k : Refusal} {p : ℕ} → m ≡ Err (k, p) → false ≡ tells bytes frames last m
  tells_none f = rw f

module _ (file : List ℕ) where
  pub sealed_short : length file < 12 → false ≡ sealed file
  unfolding sealed
  sealed_short h = rw (lt-ltb (length file) 12 h)

  pub sealed_reads : {a b c : ℕ} {p q r : Place} {m : Measured} {t : Bool} → 12 ≤ length file → NumRead 4 file (Ok (length file - 12)) a p → NumRead 4 file (Ok (length file - 12 + 4)) b q
      → NumRead 4 file (Ok (length file - 12 + 8)) c r → m ≡ extent_of (listing table_t table_r (stretch_in file)) → t ≡ tells a b c m → t ≡ sealed file
  unfolding sealed
  sealed_reads h x y z f e = rw (le-ltb (length file) 12 h, ← x.value, ← y.value, ← z.value, ← f) e

-- a sealed file reads to its end
extent_ends : (bytes frames last n at : ℕ) (l : Listing) → tells bytes frames last (extent_from n at l) ≡ true → Ends l
unfolding extent_from
extent_ends bytes frames last n at (entry p size ty tag a tail l) e = extent_ends bytes frames last (n + 1) p l e
extent_ends bytes frames last n at (ends p) e = tt
extent_ends bytes frames last n at (stops k p) e = absurd (let z : ◌≡◌ {A = ℕ} 0 1 = cc in omega arith)

pub sealed_ends : (file : List ℕ) → sealed file ≡ true → Ends (listing table_t table_r (stretch_in file))
unfolding sealed
sealed_ends file e = go (ltb (length file) 12) e
  where
    go : (t : Bool)
        → cond t false (tells (num_at 4 file (Ok (length file - 12))) (num_at 4 file (Ok (length file - 12 + 4))) (num_at 4 file (Ok (length file - 12 + 8))) (extent_of (listing table_t table_r (stretch_in file)))) ≡ true
        → Ends (listing table_t table_r (stretch_in file))
    go true f = absurd (let z : ◌≡◌ {A = ℕ} 0 1 = cc in omega arith)
    go false f = extent_ends (num_at 4 file (Ok (length file - 12))) (num_at 4 file (Ok (length file - 12 + 4))) (num_at 4 file (Ok (length file - 12 + 8))) 0 0 (listing table_t table_r (stretch_in file)) f

-- ---- a trailer that is written

pub trailer_length : (e : Extent) → length (trailer_bytes e) ≡ 12
trailer_length e = simp (length-append, length_to_le)

module _ (e : Extent) {o : List ℕ} where
  pub put_long : 4294967295 < e.bytes → ExtentPut e o o (Err (R.Trailer, 0))
  put_long h = rw (lt-ltb 4294967295 e.bytes h) (put_stays refl)

  pub put_crowded : e.bytes ≤ 4294967295 → length o < 12 → ExtentPut e o o (Err (R.NoRoom, 0))
  put_crowded h l =
      let w : Within 0 12 (length o) false = record { is = omega arith } in
      rw (le-ltb 4294967295 e.bytes h) (put_full (trailer_length e) refl w refl)

  pub put_three : {o1 o2 o3 : List ℕ} {a b c : Place} → e.bytes ≤ 4294967295 → 12 ≤ length o → Put (to_le 4 e.bytes) o (Ok 0) o1 a → Put (to_le 4 e.frames) o1 a o2 b
      → Put (to_le 4 e.last) o2 b o3 c → ExtentPut e o o3 c
  put_three h l p q r =
      let s = put_then p q refl (simp (length-append, length_to_le) (omega arith)) in
      rw (le-ltb 4294967295 e.bytes h) (put_then s r refl (simp (length-append, length_to_le) (omega arith)))

module _ (bs : List ℕ) {o : List ℕ} {m : Measured} (f : m ≡ extent_of (listing table_t table_r bs)) where
  pub put_whole : {e : Extent} {o' : List ℕ} {r : Place} → m ≡ Ok e → ExtentPut e o o' r → TrailerPut bs o o' r
  put_whole g p = rw (← f, g) p

  pub put_none : {x : Fault} → m ≡ Err x → TrailerPut bs o o (Err x)
  put_none g = rw (← f, g) (put_stays refl)

-- ---- a stretch with its own trailer is sealed

abbrev Bounded : Measured → Type 0
Bounded (Ok e) = (e.frames ≤ e.bytes) × (e.last ≤ e.bytes)
Bounded (Err f) = Unit {0}

-- a frame has a byte at the least
bounded : (xs : List ℕ) (p k n b : ℕ) → k ≤ length xs → n ≤ p → b ≤ p → Bounded (extent_from n b (list_from table_t table_r p k xs))
unfolding list_from extent_from
bounded [] p k n b h u v = (u, v)
bounded (x ∷ xs) p (suc k) n b h u v = bounded xs (suc p) k n b (omega arith) (omega arith) (omega arith)
bounded (x ∷ xs) p zero n b h u v = go (λ k l. bounded xs (suc p) k (n + 1) p l (omega arith) (omega arith))
  where
    go : ((k : ℕ) → k ≤ length xs → Bounded (extent_from (n + 1) p (list_from table_t table_r (suc p) k xs))) → Bounded (extent_from n b (list_from table_t table_r p 0 (x ∷ xs)))
    go ih =
        front_case table_t table_r p (x ∷ xs)
        (λ size f e.
        let m : ℕ = length (take size (x ∷ xs)) in
        let z : m ≡ size = length-take-le size (x ∷ xs) f.held in
        let s = f.seven in
        let w = f.held in
        rw (list_frame table_t table_r p x xs e) (ih (pred m) (omega arith)))
        (λ k e. rw (list_stop table_t table_r p x xs e) tt)

-- a number of four bytes where it was put
num_there : (xs ys : List ℕ) (v n : ℕ) → v < 256 ^ 4 → length xs ≡ n → num_at 4 (xs ++ (to_le 4 v ++ ys)) (Ok n) ≡ v
unfolding num_at
num_there xs ys v n h e = ap (λ (z : List ℕ). number_in (read_num 4 z)) (ap (λ m. drop m (xs ++ (to_le 4 v ++ ys))) (sym e) ∙ drop-append_seam xs (to_le 4 v ++ ys)) ∙ ap number_in ((reads_num 4 v h).back ys)

module _ (bs : List ℕ) (e : Extent) (f : extent_of (listing table_t table_r bs) ≡ Ok e) (h : e.bytes < 256 ^ 4) where
  abbrev file : List ℕ
  file = bs ++ trailer_bytes e

  most : (e.frames ≤ e.bytes) × (e.last ≤ e.bytes)
  unfolding listing
  most = rw f at (bounded bs 0 0 0 0 (omega arith) (omega arith) (omega arith))

  file_length : length file ≡ length bs + 12
  file_length = length-append bs (trailer_bytes e) ∙ ap (λ n. length bs + n) (trailer_length e)

  first : num_at 4 file (Ok (length bs)) ≡ e.bytes
  first =
      let x : file ≡ bs ++ (to_le 4 e.bytes ++ (to_le 4 e.frames ++ to_le 4 e.last)) = simp append_assoc in
      rw x (num_there bs (to_le 4 e.frames ++ to_le 4 e.last) e.bytes (length bs) h refl)

  second : num_at 4 file (Ok (length bs + 4)) ≡ e.frames
  second =
      let x : file ≡ bs ++ to_le 4 e.bytes ++ (to_le 4 e.frames ++ to_le 4 e.last) = simp append_assoc in
      let m = most.0 in
      rw x (num_there (bs ++ to_le 4 e.bytes) (to_le 4 e.last) e.frames (length bs + 4) (omega arith) (simp (length-append, length_to_le)))

  third : num_at 4 file (Ok (length bs + 8)) ≡ e.last
  third =
      let x : file ≡ bs ++ to_le 4 e.bytes ++ to_le 4 e.frames ++ (to_le 4 e.last ++ []) = simp (append_assoc, append-nil) in
      let m = most.1 in
      rw x (num_there (bs ++ to_le 4 e.bytes ++ to_le 4 e.frames) [] e.last (length bs + 8) (omega arith) (simp (length-append, length_to_le) (omega arith)))

  pub sealed_own : sealed file ≡ true
  unfolding sealed
  sealed_own =
      let l = file_length in
      let n : length file - 12 ≡ length bs = omega arith in
      let s : take (length bs) file ≡ bs = take-append_seam bs (trailer_bytes e) in
      rw (le-ltb (length file) 12 (omega arith), n, s, f, first, second, third, eq-eqb e.bytes e.bytes refl, eq-eqb e.frames e.frames refl, eq-eqb e.last e.last refl)
