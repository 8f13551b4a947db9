-- The lines that are put one after another are those of the listing.
use Rattle.numbers.specs.Place.{Place}
use Prim.Native.Nat.{ℕ, suc, ◌+◌, ◌≤◌, ◌<◌}
use native.Mathlib.Omega.{arith}
use Rattle.std.specs.Prelude.{◌≡◌, List, length, Ok, Err, Some, None}
use Rattle.numbers.specs.declared.Fault.{Fault}
use Rattle.std.proofs.Common.{sym, ◌∙◌, lt-ltb, le-ltb}
use Rattle.std.proofs.Math.Path.{ap}
use Rattle.numbers.specs.Refusals.{number_of}
use Rattle.numbers.specs.Places.{Put}
use Rattle.numbers.specs.declared.Refusal.{Refusal}
use Rattle.layouts.specs.Tables.{table_t, table_r}
use Rattle.framing.specs.Stretch.{listing}
use Rattle.framing.specs.ListingLaws.{goes_on}
use Rattle.framing.proofs.ListingLaws.{listed, Moved, moves_on}
use Rattle.stretch.specs.Functions.{answered}
use Rattle.stretch.specs.Views.{Answered, view_step, Asked}
use Rattle.stretch.specs.declared.Listed.{Listed}
use Rattle.listing.specs.Text.{PiecesPut, header, end_word, stop_word, lines_from, too_long, LinePut, LastPut, LinesPut, ReportPut}
use Rattle.listing.specs.TextLaws.{all_none, all_put, all_then}

-- the lines before position `at` are put, n of them: whatever puts those from there on has put the whole
pub record Upto (s o : List ℕ) (p₀ : Place) (at n : ℕ) (o1 : List ℕ) (p : Place) : Type 0 where
  pub on : (o2 : List ℕ) (e : Place) → PiecesPut (lines_from n (listed table_t table_r s at)) o1 p o2 e → LinesPut s o p₀ o2 e

pub moved : {s : List ℕ} {at : ℕ} {r : Answered} (l : Listed) → Asked s at r → r ≡ Ok (Some l) → Moved table_t table_r s at l.size l.next
unfolding view_step
moved {s} {at} l a e = moves_on table_t table_r s (sym a.is ∙ ap (view_step at) e)

module _ {s o : List ℕ} {p₀ : Place} where
  pub upto_none : Upto s o p₀ 0 0 o p₀
  unfolding listing
  upto_none = record { on = λ o2 e l. record { is = l } }

  pub upto_next : {at n : ℕ} {r : Answered} (l : Listed) {o1 o2 : List ℕ} {p q : Place} → at ≤ length s → Asked s at r → r ≡ Ok (Some l) → Upto s o p₀ at n o1 p → LinePut l o1 p o2 q
      → Upto s o p₀ l.next (n + 1) o2 q
  unfolding view_step lines_from
  upto_next {at} {n} {r} l h a e u f =
      let g = answered s at r h a ∙ ap (λ x. goes_on (view_step at x) (listed table_t table_r s)) e in
      let m : n + 1 ≡ suc n = omega arith in
      record { on = λ o3 t w. u.on o3 t (rw g (all_then f.is (rw m at w))) }

  pub upto_end : {at n : ℕ} {r : Answered} {o1 o2 : List ℕ} {p t : Place} → at ≤ length s → Asked s at r → r ≡ Ok None → Upto s o p₀ at n o1 p → LastPut end_word at n o1 p o2 t → LinesPut s o p₀ o2 t
  unfolding view_step lines_from
  upto_end {at} {n} {r} {o1} {o2} {p} {t} h a e u f =
      let g = answered s at r h a ∙ ap (λ x. goes_on (view_step at x) (listed table_t table_r s)) e in u.on o2 t (rw g f.is)

  pub upto_stop : {at n : ℕ} {e : Fault} {r : Answered} {o1 o2 : List ℕ} {p t : Place} → at ≤ length s → Asked s at r → r ≡ Err e → Upto s o p₀ at n o1 p
      → LastPut stop_word e.1 (number_of e.0) o1 p o2 t → LinesPut s o p₀ o2 t
  unfolding view_step lines_from
  upto_stop {at} {n} {r = r} {o2 = o2} {t = t} h a e u f =
      let g = answered s at r h a ∙ ap (λ x. goes_on (view_step at x) (listed table_t table_r s)) e in u.on o2 t (rw g f.is)

-- ---- the report

pub too_long_lem : {s o o1 : List ℕ} {p : Place} → 65536 < length s → Put too_long o (Ok 0) o1 p → ReportPut s o o1 p
too_long_lem {s} h a = record { is = rw (lt-ltb 65536 (length s) h) (all_put a all_none) }

pub all_listed : {s o o1 o2 : List ℕ} {p q : Place} → length s ≤ 65536 → Put header o (Ok 0) o1 p → LinesPut s o1 p o2 q → ReportPut s o o2 q
all_listed {s} h a l = record { is = rw (le-ltb 65536 (length s) h) (all_put a l.is) }
