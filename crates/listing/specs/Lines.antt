-- The lister's text line by line (F8.2), and what two texts have in common whose stretches differ inside one frame (F8.10).
use Rattle.std.specs.Prelude.{ℕ, suc, ◌+◌, ◌≤◌, ◌<◌, ◌≡◌, refl, Bool, true, false, cond, List, [], ◌∷◌, ◌++◌, length, take, drop, ltb}
use Rattle.std.proofs.Common.{arith, sym, ap, ap₂, ◌∙◌, append_assoc, append-nil, lt-ltb, le-ltb}
use Rattle.std.proofs.Math.Seq.{take-append_seam}
use Rattle.numbers.specs.Refusals.{number_of}
use Rattle.layouts.specs.Tables.{Row, table_t, table_r}
use Rattle.framing.specs.Stretch.{Listing, entry, ends, stops, listing}
use Rattle.framing.specs.Damage.{Has, Damaged, EqualBut, there, other}
use Rattle.framing.proofs.DamageLaws.{damaged_listing}
use Rattle.listing.specs.Text.{joined, answer_number, line_pieces, header, end_word, stop_word, last_pieces, lines_from, too_long, report, Reported}

-- ---- lines

-- a frame's line
abbrev pub line : ℕ → ℕ → ℕ → ℕ → ℕ → ℕ → List ℕ
line at size ty tag n tail = joined (line_pieces at size ty tag n tail)

-- one for each frame, and the last one
unfoldable pub lines : ℕ → Listing → List (List ℕ)
lines n (entry at size ty tag a tail l) = line at size ty tag (answer_number a) tail ∷ lines (suc n) l
lines n (ends p) = joined (last_pieces end_word p n) ∷ []
lines n (stops k p) = joined (last_pieces stop_word p (number_of k)) ∷ []

abbrev pub report_lines : List Row → List Row → List ℕ → List (List ℕ)
report_lines ts rs s = cond (ltb 65536 (length s)) (too_long ∷ []) (header ∷ lines 0 (listing ts rs s))

joined_append : (bs cs : List (List ℕ)) → joined (bs ++ cs) ≡ joined bs ++ joined cs
unfolding joined
joined_append [] cs = refl
joined_append (b ∷ bs) cs = ap (λ (x : List ℕ). b ++ x) (joined_append bs cs) ∙ sym (append_assoc b (joined bs) (joined cs))

joined_lines : (n : ℕ) (l : Listing) → joined (lines_from n l) ≡ joined (lines n l)
unfolding lines_from lines joined
joined_lines n (entry at size ty tag a tail l) =
    joined_append (line_pieces at size ty tag (answer_number a) tail) (lines_from (suc n) l) ∙ ap (λ (x : List ℕ). line at size ty tag (answer_number a) tail ++ x) (joined_lines (suc n) l)
joined_lines n (ends p) = sym (append-nil (joined (last_pieces end_word p n)))
joined_lines n (stops k p) = sym (append-nil (joined (last_pieces stop_word p (number_of k))))

-- the text is its lines
pub text_lines : (ts rs : List Row) (s : List ℕ) → joined (report ts rs s) ≡ joined (report_lines ts rs s)
unfolding joined
text_lines ts rs s = go (ltb 65536 (length s))
  where
    go : (t : Bool) → joined (cond t (too_long ∷ []) (header ∷ lines_from 0 (listing ts rs s))) ≡ joined (cond t (too_long ∷ []) (header ∷ lines 0 (listing ts rs s)))
    go true = refl
    go false = ap (λ (x : List ℕ). header ++ x) (joined_lines 0 (listing ts rs s))

-- ---- a damaged frame (F6.11)

-- the same lines, but for one, that of a frame of size n at p
pub data LinesBut (p n : ℕ) : List (List ℕ) → List (List ℕ) → Type 0 where
  damaged : (ty tag a tail ty' tag' a' tail' : ℕ) {ls : List (List ℕ)} → LinesBut p n (line p n ty tag a tail ∷ ls) (line p n ty' tag' a' tail' ∷ ls)
  same : {l : List ℕ} {ks ls : List (List ℕ)} → LinesBut p n ks ls → LinesBut p n (l ∷ ks) (l ∷ ls)

lines_but : {p n : ℕ} {L M : Listing} (k : ℕ) → EqualBut p n L M → LinesBut p n (lines k L) (lines k M)
unfolding lines
lines_but k (there {ty} {tag} {tail} {ty'} {tag'} {tail'} {a} {a'}) = damaged ty tag (answer_number a) tail ty' tag' (answer_number a') tail'
lines_but k (other e) = same (lines_but (suc k) e)

module _ (ts rs : List Row) {p n : ℕ} {s t : List ℕ} (d : Damaged p n s t) where
  -- if the stretch has the frame
  pub damaged_text : length s ≤ 65536 → Has p n (listing ts rs s) → LinesBut p n (report_lines ts rs s) (report_lines ts rs t)
  damaged_text l h = let e = d.long in rw (le-ltb 65536 (length s) l, le-ltb 65536 (length t) (omega arith)) (same (lines_but 0 (damaged_listing ts rs d h)))

  pub too_long_alike : 65536 < length s → report_lines ts rs t ≡ report_lines ts rs s
  too_long_alike l = let e = d.long in rw (lt-ltb 65536 (length s) l, lt-ltb 65536 (length t) (omega arith))

-- what the lister leaves at the front of its room is these lines
pub reported_lines : {s o o' : List ℕ} {k : ℕ} → Reported s o o' k → take k o' ≡ joined (report_lines table_t table_r s)
reported_lines {s} {o} {o'} {k} r =
    let t : List ℕ = joined (report table_t table_r s) in
    ap₂ (λ m x. take m x) r.count r.bytes ∙ take-append_seam t (drop (0 + length t) o) ∙ text_lines table_t table_r s
