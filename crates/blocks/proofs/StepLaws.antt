-- What holds of the definitions in specs/StepLaws.antt.
use Rattle.numbers.specs.Place.{Place}
use Rattle.std.specs.Prelude.{ℕ, ◌<◌, ◌≡◌, refl, false, length, drop, Ok, Err, Some, None}
use Rattle.std.proofs.Common.{arith, ◌∙◌}
use Rattle.std.proofs.Math.Path.{sym, ap, ap₂}
use mathlib.Core.List.{List, [], ◌∷◌}
use borrow.Author.Tests.{lt-ltb, le-ltb, eq-eqb, ne_eqb}
use Rattle.numbers.specs.Numbers.{Bytes}
use Rattle.numbers.specs.Reading.{Reading, ok, bad}
use Rattle.numbers.proofs.ReadingLaws.{or_else}
use Rattle.numbers.proofs.PlaceLaws.{num_short}
use Rattle.numbers.specs.declared.Fault.{Fault}
use Rattle.numbers.specs.declared.Refusal.TheVariants as R
use Rattle.fields.specs.Layouts.{num, str, Item, read_fields}
use Rattle.fields.specs.Values.{Value}
use Rattle.fields.specs.Fields.{past_field, past_fields, Fields}
use Rattle.fields.proofs.FieldLaws.{number_field, fields_accepted, fields_refused, stays}
use Rattle.layouts.specs.Tables.{layout_dirent}
use Rattle.layouts.specs.declared.dirents.Dirent.{Dirent}
use Rattle.layouts.specs.Records.{dirent}
use Rattle.blocks.specs.Blocks.{entry_of, front, entry_at}
use Rattle.blocks.specs.Views.{Asked}
use Rattle.blocks.specs.StepLaws.{found_at}

module _ (s : List ℕ) (p : ℕ) where
  byte_short : length s < p → past_field (num 1) s (Ok p) ≡ Err (R.Short, 0)
  byte_short h = sym (number_field (num_short {w = 1} {s = s} {p = Ok p} {t = false} (omega arith) refl (record { is = omega arith }) refl)).next

  past_short : length s < p → past_fields layout_dirent s (Ok p) ≡ Err (R.Short, 0)
  unfolding past_fields
  past_short h = rw (byte_short h) (stays (num 4 ∷ num 8 ∷ num 8 ∷ num 1 ∷ str ∷ []) s R.Short 0)

  module _ (b : Bytes s) {vs : List Value} {e : Place} (f : Fields layout_dirent s (Ok p) vs e) where
    in_block : p < length s → found_at p vs e ≡ entry_at s p
    unfolding entry_at front
    in_block h = rw (le-ltb (length s) p (omega arith), ne_eqb (length s) p (λ z. omega arith)) (go (read_fields layout_dirent p (drop p s)) refl)
      where
        go : (m : Reading (List Item)) → read_fields layout_dirent p (drop p s) ≡ m → found_at p vs e ≡ entry_of p m
        go (ok is r) d = let a = fields_accepted layout_dirent s p b (omega arith) d in ap₂ (λ (w : List Value) q. found_at p w q) (f.values ∙ a.values) (f.next ∙ a.next)
        go (bad k at) d = ap (found_at p vs) (f.next ∙ fields_refused layout_dirent s p b (omega arith) d)

    past_block : length s < p → found_at p vs e ≡ entry_at s p
    unfolding entry_at
    past_block h = ap (found_at p vs) (f.next ∙ past_short h) ∙ sym (rw (lt-ltb (length s) p h))

    found : (p ≡ length s → ⊥) → found_at p vs e ≡ entry_at s p
    found n = or_else p (length s) (λ l. in_block (or_else (length s) p (λ m. absurd (n (omega arith))) (λ m. m))) (λ l. past_block l)

  pub asked_end : p ≡ length s → Asked s p (Ok None)
  unfolding entry_at
  asked_end e = record { is = rw (le-ltb (length s) p (omega arith), eq-eqb (length s) p (sym e)) }

  pub asked_entry : {d : Dirent} {e : Place} {n : ℕ} → Bytes s → (p ≡ length s → ⊥) → Fields layout_dirent s (Ok p) (dirent d) e → e ≡ Ok n → Asked s p (Ok (Some (record { at = p; entry = d; next = n })))
  asked_entry {d} b h f g = record { is = ap (found_at p (dirent d)) (sym g) ∙ found b f h }

  pub asked_stop : {vs : List Value} {e : Place} {x : Fault} → Bytes s → (p ≡ length s → ⊥) → Fields layout_dirent s (Ok p) vs e → e ≡ Err x → Asked s p (Err (record { fault = x; position = p }))
  asked_stop {vs} b h f g = record { is = ap (found_at p vs) (sym g) ∙ found b f h }
