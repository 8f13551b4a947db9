-- The laws of pieces: put one after the other they are the text, where there is room.
use Rattle.numbers.specs.Place.{Place}
use Rattle.std.specs.Prelude.{ℕ, zero, suc, ◌+◌, ◌-◌, ◌^◌, ◌≤◌, ◌<◌, ◌≡◌, refl, List, [], ◌∷◌, ◌++◌, length, take, drop, Ok}
use Rattle.std.proofs.Common.{arith, sym, ap, ◌∙◌, length-append, length-take-le, lt-ltb, le-ltb, eq-eqb, ne_eqb}
use Rattle.std.proofs.Math.Nat.{pow-le-pow_right}
use Rattle.std.proofs.Math.Seq.{take-length}
use Rattle.io.specs.Counts.{IsPrefixLen}
use Rattle.io.specs.Digits.{last_digits, IsDigitCount}
use Rattle.numbers.specs.Reading.{ok}
use Rattle.numbers.proofs.ReadingLaws.{or_else}
use Rattle.numbers.specs.Places.{over, put_at, past_put, Put}
use Rattle.numbers.proofs.PlaceLaws.{put_then, length_over, length_put, one_answer}
use Rattle.strings.specs.Spans.{show_span, SpanPut}
use Rattle.strings.proofs.SpanLaws.{shown_in, passing}
use Rattle.layouts.specs.Tables.{table_t, table_r}
use Rattle.framing.proofs.WritingLaws.{put_fits, past_fits, put_over, over_none}
use Rattle.listing.specs.Text.{figures, decimal, put_all, past_all, PiecesPut, joined, space, newline, answer_number, DecimalPut, FieldPut, TailPut, FramePut, LinePut, LastPut, report, Reported}
use Rattle.stretch.specs.Views.{view_body}
use Rattle.stretch.specs.declared.Listed.{Listed}

-- ---- pieces

pub all_none : {o : List ℕ} {p : Place} → PiecesPut [] o p o p
unfolding put_all past_all
all_none = record { bytes = refl; next = refl }

pub all_put : {b : List ℕ} {bs : List (List ℕ)} {o o1 o2 : List ℕ} {p q r : Place} → Put b o p o1 q → PiecesPut bs o1 q o2 r → PiecesPut (b ∷ bs) o p o2 r
unfolding put_all past_all
all_put a c = record { bytes = c.bytes ∙ rw (a.bytes, a.next); next = c.next ∙ rw (a.bytes, a.next) }

put_append : (bs cs : List (List ℕ)) (o : List ℕ) (p : Place) → (put_all (bs ++ cs) o p ≡ put_all cs (put_all bs o p) (past_all bs o p)) × (past_all (bs ++ cs) o p ≡ past_all cs (put_all bs o p) (past_all bs o p))
unfolding put_all past_all
put_append [] cs o p = (refl, refl)
put_append (b ∷ bs) cs o p = put_append bs cs (put_at b o p) (past_put b o p)

pub all_then : {bs cs : List (List ℕ)} {o o1 o2 : List ℕ} {p q r : Place} → PiecesPut bs o p o1 q → PiecesPut cs o1 q o2 r → PiecesPut (bs ++ cs) o p o2 r
all_then {bs} {cs} {o} {p = p} a c =
    let h = put_append bs cs o p in
    record { bytes = c.bytes ∙ rw (a.bytes, a.next) (sym h.0); next = c.next ∙ rw (a.bytes, a.next) (sym h.1) }

-- ---- a text, and a number

pub text_put : {s o o' : List ℕ} {p q : Place} → SpanPut s 0 (length s) o p o' q → Put s o p o' q
text_put {s} {o} {o'} {p} {q} a =
    let e : show_span s 0 (length s) ≡ ok s [] = shown_in s 0 (length s) (omega arith) ∙ ap (λ x. ok x []) (take-length s) in
    rw (passing s [] p) at (rw e at a.put)

powers : (i j : ℕ) → i ≤ j → 10 ^ i ≤ 10 ^ j
powers i j h = pow-le-pow_right (omega arith) h

figures_are : (fuel j k n : ℕ) → j ≤ k → k ≤ j + fuel → n < 10 ^ k → (j < k → 10 ^ (k - 1) ≤ n) → figures fuel j n ≡ k
figures_are zero j k n a b c d = omega arith
figures_are (suc fuel) j k n a b c d =
    or_else k j
    (λ l. let e : j ≡ k = omega arith in rw (e, lt-ltb n (10 ^ k) c))
    (λ l.
    let f = d l in
    let g = powers j (k - 1) (omega arith) in
    rw (le-ltb n (10 ^ j) (omega arith)) (figures_are fuel (suc j) k n (omega arith) (omega arith) c (λ m. f)))

-- a number of eight bytes needs at most 20 figures
few : (n k : ℕ) → IsDigitCount 10 1 n k → n < 18446744073709551616 → k ≤ 20
few n k f h =
    or_else k 20 (λ l. l)
    (λ l. absurd (let a = f.2 (omega arith) in let b = powers 20 (k - 1) (omega arith) in omega arith))

pub decimal_put : (n k : ℕ) (t : List ℕ) {o o' : List ℕ} {p q : Place} → IsDigitCount 10 1 n k → n < 18446744073709551616 → take k t ≡ last_digits 10 k n → Put (take k t) o p o' q → DecimalPut n o p o' q
unfolding decimal
decimal_put n k t f h e a =
    let l = few n k f h in
    let g : figures 19 1 n ≡ k = figures_are 19 1 k n f.0 (omega arith) f.1 f.2 in
    record { is = rw g (rw e at a) }

pub field_put : {n : ℕ} {t o o1 o2 : List ℕ} {p q r : Place} → DecimalPut n o p o1 q → Put t o1 q o2 r → FieldPut n t o p o2 r
field_put a b = record { is = all_put a.is (all_put b all_none) }

-- ---- a line

pub tail_told : {n tail : ℕ} {o o' : List ℕ} {p q : Place} → n ≡ 0 → FieldPut tail newline o p o' q → TailPut n tail o p o' q
tail_told {n} e a = record { is = rw (eq-eqb n 0 e) a.is }

pub tail_none : {n tail : ℕ} {o o' : List ℕ} {p q : Place} → (n ≡ 0 → ⊥) → Put (45 ∷ 10 ∷ []) o p o' q → TailPut n tail o p o' q
tail_none {n} e a = record { is = rw (ne_eqb n 0 e) (all_put a all_none) }

pub last_put : {w o o1 o2 o3 : List ℕ} {x n : ℕ} {p q r t : Place} → Put w o p o1 q → FieldPut x space o1 q o2 r → FieldPut n newline o2 r o3 t → LastPut w x n o p o3 t
last_put a b c = record { is = all_put a (all_then b.is c.is) }

pub frame_put : (l : Listed) {n : ℕ} {o o1 o2 o3 o4 o5 o6 : List ℕ} {p a b c d e q : Place} → FieldPut l.at space o p o1 a → FieldPut l.size space o1 a o2 b
    → FieldPut l.ty space o2 b o3 c → FieldPut l.tag.0 space o3 c o4 d → FieldPut n space o4 d o5 e → TailPut n l.tail o5 e o6 q → FramePut l n o p o6 q
frame_put l f1 f2 f3 f4 f5 f6 = record { is = all_then f1.is (all_then f2.is (all_then f3.is (all_then f4.is (all_then f5.is f6.is)))) }

pub line_put : {l : Listed} {n : ℕ} {o o' : List ℕ} {p q : Place} → n ≡ answer_number (view_body l.body) → FramePut l n o p o' q → LinePut l o p o' q
line_put e f = record { is = rw (← e) f.is }

-- the output keeps its length
length_all : (bs : List (List ℕ)) (o : List ℕ) (p : Place) → length (put_all bs o p) ≡ length o
unfolding put_all
length_all [] o p = refl
length_all (b ∷ bs) o p = length_all bs (put_at b o p) (past_put b o p) ∙ length_put b o p

pub all_length : {bs : List (List ℕ)} {o o' : List ℕ} {p q : Place} → PiecesPut bs o p o' q → length o' ≡ length o
all_length {bs} {o} {p = p} a = ap length a.bytes ∙ length_all bs o p

-- ---- where there is room, the pieces are the text

pub record PiecesFit (bs : List (List ℕ)) (o : List ℕ) (a : ℕ) : Type 0 where
  pub bytes : put_all bs o (Ok a) ≡ over o a (joined bs)
  pub next : past_all bs o (Ok a) ≡ Ok (a + length (joined bs))

pub all_fits : (bs : List (List ℕ)) (o : List ℕ) (a : ℕ) → a + length (joined bs) ≤ length o → PiecesFit bs o a
unfolding put_all past_all joined
all_fits [] o a h = let z : a + 0 ≡ a = omega arith in record { bytes = over_none o a (omega arith); next = ap Ok (sym z) }
all_fits (b ∷ bs) o a h =
    let l = length-append b (joined bs) in
    let m = length_over o a b (omega arith) in
    let i = all_fits bs (over o a b) (a + length b) (omega arith) in
    let t = put_then (put_over o a b (omega arith)) (put_over (over o a b) (a + length b) (joined bs) (omega arith)) refl h in
    record {
      bytes = rw (put_fits b o a (omega arith), past_fits b o a (omega arith)) (i.bytes ∙ t.bytes ∙ put_fits (b ++ joined bs) o a h);
      next = rw (put_fits b o a (omega arith), past_fits b o a (omega arith)) (i.next ∙ ap Ok (omega arith));
    }

-- ---- what the lister promises

-- the text lies within the room, so that it can be lent
pub reported_counts : {s o o' : List ℕ} {n : ℕ} → Reported s o o' n → IsPrefixLen n o'
reported_counts {s} {o} {o'} {n} r =
    let t : List ℕ = joined (report table_t table_r s) in
    let l = ap length r.bytes ∙ length-append t (drop (0 + length t) o) in
    let e = r.count in
    let h : n ≤ length o' = omega arith in
    (h, sym (length-take-le n o' h))

-- one answer
pub reported_one : {s o o1 o2 : List ℕ} {n n' : ℕ} → Reported s o o1 n → Reported s o o2 n' → (o1 ≡ o2) × (n ≡ n')
reported_one a b = (one_answer a.bytes b.bytes, one_answer a.count b.count)
