-- What holds of the definitions in specs/PlaceLaws.antt.
use Rattle.numbers.specs.Place.{Place}
use Rattle.std.specs.Prelude.{ℕ, ◌+◌, ◌-◌, ◌^◌, ◌≤◌, ◌<◌, ◌≡◌, refl, Bool, true, false, cond, List, ◌++◌, length, take, drop, leb, Ok, Err}
use Rattle.std.proofs.Common.{arith, sym, ap, ◌∙◌, subst, append_assoc, length-append, length-drop, take-append-drop, length-take-le, take_at, drop_at, drop-drop, lit<, le-leb, leb-true}
use Rattle.std.proofs.Math.Nat.{one-le-pow}
use Rattle.std.proofs.Math.Seq.{drop-append-add, drop-append_seam}
use Rattle.std.proofs.lemmas.Bool.{lt-leb}
use Rattle.numbers.specs.Numbers.{Bytes, from_le}
use Rattle.numbers.proofs.Numbers.{from_bound, bytes_take, bytes_drop}
use Rattle.numbers.specs.Reading.{Reading, ok, bad, after, raw, read_num}
use Rattle.numbers.specs.ReadingLaws.{Reads, Took}
use Rattle.numbers.proofs.ReadingLaws.{or_else, raw_short}
use Rattle.numbers.specs.Places.{Tells, Within, read_at, rest_at, number_in, num_at, past_num, NumRead, over, put_at, past_put, Put}
use Rattle.numbers.specs.declared.Fault.{Fault}
use Rattle.numbers.specs.declared.Refusal.{Refusal}
use Rattle.numbers.specs.declared.Refusal.TheVariants.{Short, NoRoom}
use Rattle.numbers.specs.PlaceLaws.{Held, Refuses}

-- ---- within

tells_true : (P Q : Type 0) (t : Bool) → Tells t P Q → t ≡ true → P
tells_true P Q true p e = p
tells_true P Q false p e = absurd (let z : ◌≡◌ {A = ℕ} 0 1 = cc in omega arith)

tells_false : (P Q : Type 0) (t : Bool) → Tells t P Q → t ≡ false → Q
tells_false P Q true p e = absurd (let z : ◌≡◌ {A = ℕ} 0 1 = cc in omega arith)
tells_false P Q false p e = p

pub inside : {a n l : ℕ} {t : Bool} → Within a n l t → t ≡ true → a + n ≤ l
inside {a} {n} {l} {t} i h = tells_true (a + n ≤ l) (l < a + n) t i.is h

pub outside : {a n l : ℕ} {t : Bool} → Within a n l t → t ≡ false → l < a + n
outside {a} {n} {l} {t} i h = tells_false (a + n ≤ l) (l < a + n) t i.is h

-- as an equation
pub within_is : {a n l : ℕ} {t : Bool} → Within a n l t → t ≡ leb (a + n) l
within_is {a} {n} {l} {t = true} i = sym (le-leb (a + n) l i.is)
within_is {a} {n} {l} {t = false} i = sym (lt-leb (a + n) l i.is)

-- ---- one answer

-- A promise gives each part of its answer by an equation, so any two answers that it allows are equal. Each instance is of this law.
pub one_answer : {A : Type 0} {x y v : A} → x ≡ v → y ≡ v → x ≡ y
one_answer p q = p ∙ sym q

pub within_one : {a n l : ℕ} {r r' : Bool} → Within a n l r → Within a n l r' → r ≡ r'
within_one a b = one_answer (within_is a) (within_is b)

pub num_one : {w x x' : ℕ} {s : List ℕ} {p q q' : Place} → NumRead w s p x q → NumRead w s p x' q' → (x ≡ x') × (q ≡ q')
num_one a b = (one_answer a.value b.value, one_answer a.next b.next)

pub put_one : {bs o o1 o2 : List ℕ} {p q q' : Place} → Put bs o p o1 q → Put bs o p o2 q' → (o1 ≡ o2) × (q ≡ q')
put_one a b = (one_answer a.bytes b.bytes, one_answer a.next b.next)

-- ---- the ways that a number's reading goes

pub num_stays : {w : ℕ} {s : List ℕ} {p : Place} {k : Refusal} {j : ℕ} → p ≡ Err (k, j) → NumRead w s p 0 p
unfolding num_at past_num
num_stays e = record { value = rw e; next = rw e }

pub short_num : (w a : ℕ) (s : List ℕ) → 0 < w → length s < a + w → read_num w (drop a s) ≡ bad Short 0
unfolding read_num
short_num w a s o h = rw (raw_short w (drop a s) (simp length-drop (omega arith)))

pub held_num : (w a : ℕ) (s : List ℕ) → a + w ≤ length s → read_num w (drop a s) ≡ ok (from_le (take w (drop a s))) (drop (a + w) s)
unfolding read_num raw
held_num w a s h = rw (le-leb w (length (drop a s)) (simp length-drop (omega arith)), drop-drop)

pub num_short : {w a : ℕ} {s : List ℕ} {p : Place} {t : Bool} → 0 < w → p ≡ Ok a → Within a w (length s) t → t ≡ false → NumRead w s p 0 (Err (Short, 0))
unfolding num_at past_num
num_short {w} {a} {s} o e i h = let f = short_num w a s o (outside i h) in record { value = rw (e, f); next = rw (e, f) }

pub num_held : {w a x : ℕ} {s : List ℕ} {p : Place} {t : Bool} → p ≡ Ok a → Within a w (length s) t → t ≡ true → x ≡ from_le (take w (drop a s))
    → NumRead w s p x (Ok (a + w))
unfolding num_at past_num
num_held {w} {a} {x} {s} e i h v =
    let l = inside i h in
    let f = held_num w a s l in
    record { value = rw (e, f) v; next = rw (e, f) (ap Ok (let d = length-drop (a + w) s in omega arith)) }

pub num_holds : {w x e : ℕ} {s : List ℕ} {p q : Place} → 0 < w → NumRead w s p x q → q ≡ Ok e → Held w s p x e
unfolding num_at past_num
num_holds {w} {x} {e} {s} {p} o r h = go p refl r.value (sym r.next ∙ h)
  where
    go : (p' : Place) → p ≡ p' → x ≡ number_in (read_at (read_num w) s p') → rest_at (length s) (read_at (read_num w) s p') ≡ Ok e → Held w s p x e
    go (Err e) f v n = absurd (let z : ◌≡◌ {A = ℕ} 0 1 = cc n in omega arith)
    go (Ok a) f v n =
        or_else (a + w) (length s)
        (λ l.
        let g = held_num w a s l in
        let m : length s - length (drop (a + w) s) ≡ e = (let u = rw g at n in cc u) in
        let d = length-drop (a + w) s in
        let i : e ≡ a + w = omega arith in
        record { at = a; place = f; fits = l; ends = i; reads = rw (i, rw g at v) g })
        (λ l. absurd (let u = rw (short_num w a s o l) at n in let z : ◌≡◌ {A = ℕ} 0 1 = cc u in omega arith))

-- two refused places that are one have one refusal and one number
pub refused_one : {j k : Refusal} {m n : ℕ} → ◌≡◌ {A = Place} (Err (j, m)) (Err (k, n)) → (j ≡ k) × (m ≡ n)
refused_one {j} {k} {m} {n} e =
    let f : ◌≡◌ {A = Fault} (j, m) (k, n) = cc e in (ap (λ (f : Fault). f.0) f, ap (λ (f : Fault). f.1) f)

-- a refused number is refused as the reader refuses it
pub num_refused : {w x : ℕ} {s : List ℕ} {p q : Place} {k : Refusal} {j : ℕ} → NumRead w s p x q → q ≡ Err (k, j) → Refuses w s p k j
unfolding past_num
num_refused {w} {x} {s} {p} {q} {k} {j} r h = record { reads = go (read_at (read_num w) s p) (sym r.next ∙ h) }
  where
    go : (m : Reading ℕ) → rest_at (length s) m ≡ Err (k, j) → m ≡ bad k j
    go (ok a r) e = absurd (let z : ◌≡◌ {A = ℕ} 0 1 = cc e in omega arith)
    go (bad i n) e = let f = refused_one e in rw (f.0, f.1) refl

-- a number that is read fits its width
fits_num : (w : ℕ) (xs : List ℕ) → Bytes xs → number_in (read_num w xs) < 256 ^ w
unfolding read_num raw
fits_num w xs h = go (leb w (length xs)) refl
  where
    go : (t : Bool) → leb w (length xs) ≡ t → number_in (after (cond t (ok (take w xs) (drop w xs)) (bad Short 0)) (λ bs r. ok (from_le bs) r)) < 256 ^ w
    go true e = subst (λ (n : ℕ). from_le (take w xs) < 256 ^ n) (length-take-le w xs (leb-true w (length xs) e)) (from_bound (take w xs) (bytes_take w xs h))
    go false e = one-le-pow w 256 (lit< tt)

fits_at : (w : ℕ) (s : List ℕ) (p : Place) → Bytes s → num_at w s p < 256 ^ w
unfolding num_at
fits_at w s (Ok a) h = fits_num w (drop a s) (bytes_drop a s h)
fits_at w s (Err f) h = one-le-pow w 256 (lit< tt)

pub num_fits : {w x : ℕ} {s : List ℕ} {p q : Place} → Bytes s → NumRead w s p x q → x < 256 ^ w
num_fits {w} {x} {s} {p} h a = rw a.value (fits_at w s p h)

-- ---- the ways that a put goes

pub put_refuses : {bs o : List ℕ} {p : Place} {f : Fault} → p ≡ Err f → Put bs o p o (Err f)
unfolding put_at past_put
put_refuses e = record { bytes = rw e; next = rw e }

pub put_stays : {bs o : List ℕ} {p : Place} {f : Fault} → p ≡ Err f → Put bs o p o p
put_stays e = rw e (put_refuses refl)

pub put_full : {bs o : List ℕ} {n a : ℕ} {p : Place} {t : Bool} → length bs ≡ n → p ≡ Ok a → Within a n (length o) t → t ≡ false → Put bs o p o (Err (NoRoom, 0))
unfolding put_at past_put
put_full {bs} {o} {n} {a} l e i h = let f = lt-leb (a + length bs) (length o) (let k = outside i h in omega arith) in record { bytes = rw (e, f); next = rw (e, f) }

pub put_done : {bs o o' : List ℕ} {n a : ℕ} {p : Place} {t : Bool} → length bs ≡ n → p ≡ Ok a → Within a n (length o) t → t ≡ true → o' ≡ over o a bs
    → Put bs o p o' (Ok (a + n))
unfolding put_at past_put
put_done {bs} {o} {o'} {n} {a} l e i h g = let f = le-leb (a + length bs) (length o) (let k = inside i h in omega arith) in record { bytes = rw (e, f) g; next = rw (e, f, l) }

-- ---- the output keeps its length

pub length_over : (o : List ℕ) (a : ℕ) (bs : List ℕ) → a + length bs ≤ length o → length (over o a bs) ≡ length o
length_over o a bs h =
    let t = length-take-le a o (omega arith) in simp (length-append, length-drop) (omega arith)

put_same : (t : Bool) (o : List ℕ) (a : ℕ) (bs : List ℕ) → leb (a + length bs) (length o) ≡ t → length (cond t (over o a bs) o) ≡ length o
put_same true o a bs e = length_over o a bs (leb-true (a + length bs) (length o) e)
put_same false o a bs e = refl

pub length_put : (bs o : List ℕ) (p : Place) → length (put_at bs o p) ≡ length o
unfolding put_at
length_put bs o (Ok a) = put_same (leb (a + length bs) (length o)) o a bs refl
length_put bs o (Err f) = refl

pub put_length : {bs o o' : List ℕ} {p q : Place} → Put bs o p o' q → length o' ≡ length o
put_length {bs} {o} {o'} {p} a = ap length a.bytes ∙ length_put bs o p

-- ---- one put after another, where there is room for both

pub over_then : (o : List ℕ) (a : ℕ) (bs cs : List ℕ) → a + length (bs ++ cs) ≤ length o → over (over o a bs) (a + length bs) cs ≡ over o a (bs ++ cs)
over_then o a bs cs h =
    let l = length-append bs cs in
    let t : length (take a o ++ bs) ≡ a + length bs = length-append (take a o) bs ∙ (let k = length-take-le a o (omega arith) in omega arith) in
    let n : a + length bs + length cs ≡ a + length (bs ++ cs) = omega arith in
    let d : drop (a + length bs + length cs) (over o a bs) ≡ drop (a + length (bs ++ cs)) o
    = ap (λ n. drop (n + length cs) (over o a bs)) (sym t) ∙ drop-append-add (take a o ++ bs) (drop (a + length bs) o) (length cs)
    ∙ drop-drop (length cs) (a + length bs) o ∙ ap (λ n. drop n o) n in
    ap (λ (x : List ℕ). x ++ cs ++ drop (a + length bs + length cs) (over o a bs)) (take_at (take a o ++ bs) (drop (a + length bs) o) (a + length bs) t)
    ∙ ap (λ (y : List ℕ). take a o ++ bs ++ cs ++ y) d ∙ ap (λ (x : List ℕ). x ++ drop (a + length (bs ++ cs)) o) (append_assoc (take a o) bs cs)

pub put_then : {bs cs o o1 o2 : List ℕ} {a : ℕ} {p q r : Place} → Put bs o p o1 q → Put cs o1 q o2 r → p ≡ Ok a → a + length (bs ++ cs) ≤ length o
    → Put (bs ++ cs) o p o2 r
unfolding put_at past_put
put_then {bs} {cs} {o} {o1} {o2} {a} {p} {q} {r} f g e h =
    let l = length-append bs cs in
    let u = le-leb (a + length bs) (length o) (omega arith) in
    let x : o1 ≡ over o a bs = rw (e, u) at f.bytes in
    let y : q ≡ Ok (a + length bs) = rw (e, u) at f.next in
    let m : length o1 ≡ length o = ap length x ∙ length_over o a bs (omega arith) in
    let v = le-leb (a + length bs + length cs) (length o1) (omega arith) in
    let w = le-leb (a + length (bs ++ cs)) (length o) h in
    record {
      bytes = (rw (y, v) at g.bytes) ∙ ap (λ (l : List ℕ). over l (a + length bs) cs) x ∙ over_then o a bs cs h ∙ rw (e, w);
      next = (rw (y, v) at g.next) ∙ rw (e, w) (ap Ok (omega arith));
    }

-- ---- put, then read; read, then put

drop_over : (o : List ℕ) (a : ℕ) (bs : List ℕ) → a + length bs ≤ length o → drop a (over o a bs) ≡ bs ++ drop (a + length bs) o
drop_over o a bs h = rw append_assoc (drop_at (take a o) (bs ++ drop (a + length bs) o) a (length-take-le a o (omega arith)))

-- whatever reader takes exactly bs reads it back where it was put, and leaves what stood after
pub put_read : {A : Type 0} {d : List ℕ → Reading A} {bs : List ℕ} {v : A} → Reads d bs v → (o : List ℕ) (a : ℕ) → a + length bs ≤ length o
    → d (drop a (over o a bs)) ≡ ok v (drop (a + length bs) o)
put_read {bs = bs} R o a h = rw (drop_over o a bs h) (R.back (drop (a + length bs) o))

-- what was taken at a, put back there, changes nothing
pub read_put : {Q : Type 0} {x r : List ℕ} (s : List ℕ) (a : ℕ) → Took (drop a s) x r Q → over s a x ≡ s
read_put {x = x} {r = r} s a t =
    append_assoc (take a s) x (drop (a + length x) s)
    ∙ ap (λ (y : List ℕ). take a s ++ (x ++ y)) (sym (drop-drop (length x) a s) ∙ ap (drop (length x)) t.whole ∙ drop-append_seam x r)
    ∙ ap (λ (y : List ℕ). take a s ++ y) (sym t.whole) ∙ take-append-drop a s
