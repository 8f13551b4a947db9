-- What import and export answer on each way, and leave of what was lent.
use Rattle.numbers.specs.Place.{Place}
use Rattle.std.specs.Prelude.{ℕ, ◌+◌, ◌*◌, ◌≤◌, ◌<◌, Bool, ltb, eqb, Ok, Err, Option, Some, None}
use native.Mathlib.Omega.{arith}
use Rattle.std.proofs.Common.{zero-add, sym, ◌∙◌, length-append}
use Rattle.std.proofs.Math.Path.{◌≡◌, refl, ap}
use Rattle.std.proofs.Math.Bool.{true, false, cond}
use mathlib.Core.List.{List, ◌++◌}
use Rattle.std.proofs.Math.Option.{none, some}
use Rattle.std.proofs.Math.ListN.{length, drop}
use borrow.Author.Tests.{lt-ltb, le-ltb, ltb-false}
use Rattle.numbers.specs.Places.{over}
use Rattle.numbers.proofs.PlaceLaws.{over_then}
use Rattle.numbers.specs.declared.Fault.{Fault}
use Rattle.numbers.specs.declared.Refusal.{Refusal}
use Rattle.numbers.specs.declared.Refusal.TheVariants as R
use Rattle.captures.specs.declared.Order.{Order}
use Rattle.captures.specs.declared.Imported.{Imported}
use Rattle.captures.specs.Captures.{num_in, headed, order_of, Packets, packet, complete, broken, packets_of, bytes_in, times_in, Import, Held, tallied, within, imported, Imports, frames_in, counted, fits, unless, cut_up, header, exported_file, exported, Exports}
use Rattle.captures.specs.Steps.{is_big, OrderIs, from, Roomy, countable, RoomFor, records, Ready}
use Rattle.captures.proofs.StretchLaws.{starts}
use Rattle.captures.proofs.PutLaws.{head_length, records_length}
use Rattle.captures.specs.FrameLaws.{Whole}
use Rattle.captures.proofs.FrameLaws.{whole}

-- laid over the front
pub over_front : (o bs : List ℕ) → over o 0 bs ≡ bs ++ drop (length bs) o
over_front o bs = ap (λ n. bs ++ drop n o) (zero-add (length bs))

-- ---- the order

head_inv : (big : Bool) (s : List ℕ) → headed big s ≡ true → 24 ≤ length s
unfolding headed
head_inv big s = go (ltb (length s) 24) refl
  where
    go : (b : Bool) → ltb (length s) 24 ≡ b
        → cond b false (cond (eqb (num_in big 4 0 s) 2712847316) (cond (eqb (num_in big 2 4 s) 2) (cond (eqb (num_in big 2 6 s) 4) (eqb (num_in big 4 20 s) 147) false) false) false) ≡ true → 24 ≤ length s
    go true e f = absurd (let z : ◌≡◌ {A = ℕ} 0 1 = cc in omega arith)
    go false e f = ltb-false (length s) 24 e

module _ (s : List ℕ) where
  pub order_little : {b : Bool} → b ≡ headed false s → b ≡ true → order_of s ≡ some false
  unfolding order_of
  order_little e f = rw (← e, f)

  pub order_big : {b c : Bool} → b ≡ headed false s → b ≡ false → c ≡ headed true s → c ≡ true → order_of s ≡ some true
  unfolding order_of
  order_big e f g h = rw (← e, f, ← g, h)

  pub order_none : {b c : Bool} → b ≡ headed false s → b ≡ false → c ≡ headed true s → c ≡ false → order_of s ≡ none
  unfolding order_of
  order_none e f g h = rw (← e, f, ← g, h)

  pub some_order : {r : Option Order} {x : Order} → OrderIs s r → r ≡ Some x → order_of s ≡ some (is_big x)
  some_order i e = rw e at i

  pub no_order : {r : Option Order} → OrderIs s r → r ≡ None → order_of s ≡ none
  no_order i e = rw e at i

  -- it is that of the header
  pub order_inv : {big : Bool} → order_of s ≡ some big → headed big s ≡ true
  unfolding order_of
  order_inv {big} = go (headed false s) (headed true s) refl refl
    where
      go : (a b : Bool) → headed false s ≡ a → headed true s ≡ b → cond a (some false) (cond b (some true) none) ≡ some big → headed big s ≡ true
      go true b e f g = let k : false ≡ big = cc g in rw (← k) e
      go false true e f g = let k : true ≡ big = cc g in rw (← k) f
      go false false e f g = absurd (let z : ◌≡◌ {A = ℕ} 0 1 = cc g in omega arith)

  pub order_long : {big : Bool} → order_of s ≡ some big → 24 ≤ length s
  order_long {big} e = head_inv big s (order_inv e)

-- ---- import

pub held_one : {b n b' n' : ℕ} → Held b n ≡ Held b' n' → (b ≡ b') × (n ≡ n')
held_one {b} {n} {b'} {n'} e =
    let f : ◌≡◌ {A = Imported} (record { bytes = b; frames = n }) (record { bytes = b'; frames = n' }) = cc e in
    (ap (λ (t : Imported). t.bytes) f, ap (λ (t : Imported). t.frames) f)

-- how many there are
pub tallied_held : (r : Packets) (b n : ℕ) {b' n' : ℕ} → tallied b n r ≡ Held b' n' → (b' ≡ b + length (bytes_in r)) × (n' ≡ n + length (times_in r))
unfolding tallied bytes_in times_in
tallied_held (packet t f r) b n {b'} {n'} e =
    let i = tallied_held r (b + length f) (n + 1) e in
    let x = i.0 in
    let y = i.1 in
    let l = length-append f (bytes_in r) in
    (omega arith, omega arith)
tallied_held complete b n {b'} {n'} e =
    let x = held_one e in
    let y = x.0 in
    let z = x.1 in
    (omega arith, omega arith)
tallied_held (broken p) b n e = absurd (let z : ◌≡◌ {A = ℕ} 0 1 = cc e in omega arith)

module _ (file o : List ℕ) (t : List (List ℕ)) where
  pub import_none : order_of file ≡ none → Imports file o t o t (Err (R.Capture, 0))
  unfolding imported packets_of tallied
  import_none e = record { answer = rw e; bytes = rw e; times = rw e }

  module _ {big : Bool} (e : order_of file ≡ some big) where
    in_order : packets_of file ≡ from big file 24
    unfolding packets_of
    in_order = rw e

    module _ {r : Import} (f : r ≡ tallied 0 0 (from big file 24)) where
      told : imported (length o) (length t) file ≡ within (length o) (length t) r
      unfolding imported
      told = rw (in_order, f)

      pub import_refused : {x : Fault} → r ≡ Err x → Imports file o t o t (Err x)
      import_refused g = record { answer = rw (told, g); bytes = rw (told, g); times = rw (told, g) }

      module _ {x : Imported} (g : r ≡ Ok x) where
        pub import_rows : length t < x.frames → Imports file o t o t (Err (R.TableFull, 0))
        import_rows h = let u = lt-ltb (length t) x.frames h in record { answer = rw (told, g, u); bytes = rw (told, g, u); times = rw (told, g, u) }

        module _ (h : x.frames ≤ length t) where
          pub import_room : length o < x.bytes → Imports file o t o t (Err (R.NoRoom, 0))
          import_room k =
              let u = le-ltb (length t) x.frames h in
              let v = lt-ltb (length o) x.bytes k in
              record { answer = rw (told, g, u, v); bytes = rw (told, g, u, v); times = rw (told, g, u, v) }

          pub import_ready : x.bytes ≤ length o → Roomy file (from big file 24) o t
          import_ready k =
              let i = tallied_held (from big file 24) 0 0 {b' = x.bytes} {n' = x.frames} (sym f ∙ g) in
              let y = i.0 in
              let z = i.1 in
              record { head = order_long file e; room = omega arith; rows = omega arith }

          pub import_held : {o' : List ℕ} {t' : List (List ℕ)} → x.bytes ≤ length o
              → (o' ≡ over o 0 (bytes_in (from big file 24))) × (t' ≡ times_in (from big file 24) ++ drop (length (times_in (from big file 24))) t) → Imports file o t o' t' (Ok x)
          import_held k (y, z) =
              let u = le-ltb (length t) x.frames h in
              let v = le-ltb (length o) x.bytes k in
              record {
                answer = rw (told, g, u, v);
                bytes = rw (told, g, u, v, in_order) (y ∙ over_front o (bytes_in (from big file 24)));
                times = rw (told, g, u, v, in_order) z;
              }

-- ---- export

module _ {room len n : ℕ} {b : Bool} (x : RoomFor room len n b) where
  pub room_yes : b ≡ true → 24 + len + 16 * n ≤ room
  room_yes e = rw e at x.is

  pub room_no : b ≡ false → room < 24 + len + 16 * n
  room_no e = rw e at x.is

-- the first refusal is that of both
unless_err : (a b q : Place) {x : Fault} → unless a (unless b a) ≡ Err x → unless a (unless b q) ≡ Err x
unless_err (Err f) b q e = e
unless_err (Ok n) (Err f) q e = e
unless_err (Ok n) (Ok m) q e = absurd (let z : ◌≡◌ {A = ℕ} 0 1 = cc e in omega arith)

unless_ok : (a b : Place) {n : ℕ} → unless a (unless b a) ≡ Ok n → (a ≡ Ok n) × (j : ℕ) × (b ≡ Ok j)
unless_ok (Err f) b e = absurd (let z : ◌≡◌ {A = ℕ} 0 1 = cc e in omega arith)
unless_ok (Ok n) (Err f) e = absurd (let z : ◌≡◌ {A = ℕ} 0 1 = cc e in omega arith)
unless_ok (Ok n) (Ok m) e = (e, m, refl)

-- it is cut to its end, and a frame is too long for a record
module _ (s : List ℕ) (ts : List (List ℕ)) (o : List ℕ) {p : Place} (c : p ≡ counted 0 (cut_up s)) {n : ℕ} {q : Place} (e : p ≡ Ok n) (f : q ≡ fits (cut_up s)) where
  pub export_long : {k : Refusal} {j : ℕ} → q ≡ Err (k, j) → Exports s ts o o q
  unfolding exported
  export_long g = record { answer = rw (← c, e, ← f, g); bytes = rw (← c, e, ← f, g) }

module _ (s : List ℕ) (ts : List (List ℕ)) (o : List ℕ) {p : Place} (c : p ≡ countable (cut_up s)) where
  pub export_cut : {x : Fault} → p ≡ Err x → Exports s ts o o (Err x)
  unfolding exported
  export_cut e = let f = unless_err (counted 0 (cut_up s)) (fits (cut_up s)) _ (sym c ∙ e) in record { answer = sym f; bytes = rw f }

  module _ {n : ℕ} (e : p ≡ Ok n) where
    both_pass : (counted 0 (cut_up s) ≡ Ok n) × (j : ℕ) × (fits (cut_up s) ≡ Ok j)
    both_pass = unless_ok (counted 0 (cut_up s)) (fits (cut_up s)) (sym c ∙ e)

    cut : counted 0 (cut_up s) ≡ Ok n
    cut = both_pass.0

    fit : fits (cut_up s) ≡ Ok both_pass.1
    fit = both_pass.2

    all : Whole s (cut_up s) 0 0 n
    all = whole s (cut_up s) 0 (omega arith) (sym (starts s)) cut fit

    pub frames_many : length (frames_in s (cut_up s)) ≡ n
    frames_many = let h = all.count in omega arith

    pub export_rows : length ts < n → Exports s ts o o (Err (R.TableFull, 0))
    unfolding exported
    export_rows h =
        let u = lt-ltb (length ts) n h in
        record { answer = rw (cut, fit, frames_many, u); bytes = rw (cut, fit, frames_many, u) }

    module _ (h : n ≤ length ts) where
      records_long : length (records s ts) ≡ length s + 16 * n
      records_long =
          let m = frames_many in
          let j = ap length all.joins in
          let l = records_length ts (frames_in s (cut_up s)) (omega arith) in
          omega arith

      file_long : length (exported_file s ts) ≡ 24 + length s + 16 * n
      file_long =
          let a = length-append header (records s ts) in
          let l = head_length in
          let m = records_long in
          omega arith

      pub export_room : length o < 24 + length s + 16 * n → Exports s ts o o (Err (R.NoRoom, 0))
      unfolding exported
      export_room k =
          let u = le-ltb (length ts) n h in
          let v = lt-ltb (length o) (24 + length s + 16 * n) k in
          record { answer = rw (cut, fit, frames_many, u, file_long, v); bytes = rw (cut, fit, frames_many, u, file_long, v) }

      module _ (k : 24 + length s + 16 * n ≤ length o) where
        pub export_ready : {o1 : List ℕ} → o1 ≡ over o 0 header → length o1 ≡ length o → Ready s ts o1
        export_ready i l =
            let m = frames_many in
            let r = records_long in
            record { rows = omega arith; room = omega arith }

        pub export_held : {o1 o2 : List ℕ} {m : ℕ} → o1 ≡ over o 0 header → o2 ≡ over o1 24 (records s ts) → m ≡ 24 + length s + 16 * n → Exports s ts o o2 (Ok m)
        unfolding exported
        export_held {o1} {o2} {m} x y z =
            let u = le-ltb (length ts) n h in
            let v = le-ltb (length o) (24 + length s + 16 * n) k in
            let l = head_length in
            let w : 24 ≡ 0 + length header = omega arith in
            let r = file_long in
            let both : o2 ≡ exported_file s ts ++ drop (length (exported_file s ts)) o
            = y ∙ ap (λ (a : List ℕ). over a 24 (records s ts)) x ∙ ap (λ i. over (over o 0 header) i (records s ts)) w
            ∙ over_then o 0 header (records s ts) (omega arith) ∙ over_front o (exported_file s ts) in
            record {
              answer = rw (cut, fit, frames_many, u, file_long, v, z);
              bytes = rw (cut, fit, frames_many, u, file_long, v) (both ∙ rw file_long);
            }
