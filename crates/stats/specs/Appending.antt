-- Fields after fields: read, measured, put and counted. A stat of 9P2000.u is one of 9P2000 and the fields after it (F16.2).
use Rattle.numbers.specs.Place.{Place}
use Rattle.std.specs.Prelude.{ℕ, ◌≡◌, refl, List, [], ◌∷◌, ◌++◌, length}
use Rattle.std.proofs.Common.{arith, sym, ap, ap₂, ◌∙◌}
use Rattle.fields.specs.Layouts.{Shape, Layout}
use Rattle.fields.specs.Values.{Slot, Value}
use Rattle.fields.specs.Fields.{value_at, values_at, past_field, past_fields, Fields}
use Rattle.laying.specs.Laying.{check_field, check_fields, put_cell, past_put_cell, put_cells, past_put_cells, Measured, CellsPut}

values_then : (l m : Layout) (s : List ℕ) (p : Place) → values_at (l ++ m) s p ≡ values_at l s p ++ values_at m s (past_fields l s p)
unfolding values_at past_fields
values_then [] m s p = refl
values_then (f ∷ l) m s p = ap (λ (z : List Value). value_at f s p ∷ z) (values_then l m s (past_field f s p))

past_then : (l m : Layout) (s : List ℕ) (p : Place) → past_fields (l ++ m) s p ≡ past_fields m s (past_fields l s p)
unfolding past_fields
past_then [] m s p = refl
past_then (f ∷ l) m s p = past_then l m s (past_field f s p)

pub fields_then : {l m : Layout} {s : List ℕ} {p q e : Place} {vs ws : List Value} → Fields l s p vs q → Fields m s q ws e → Fields (l ++ m) s p (vs ++ ws) e
fields_then {l} {m} {s} {p} a b = record {
  values = ap₂ (λ (x y : List Value). x ++ y) a.values (b.values ∙ ap (values_at m s) a.next) ∙ sym (values_then l m s p);
  next = b.next ∙ ap (past_fields m s) a.next ∙ sym (past_then l m s p);
}

-- ---- written: as many values as fields, so that what follows them goes to the fields that follow

checks_then : (l m : Layout) (lent : List ℕ) (vs ws : List Value) (p : Place) → length vs ≡ length l → check_fields (l ++ m) lent (vs ++ ws) p ≡ check_fields m lent ws (check_fields l lent vs p)
unfolding check_fields
checks_then [] m lent [] ws p e = refl
checks_then [] m lent (v ∷ vs) ws p e = absurd (omega arith)
checks_then (f ∷ l) m lent [] ws p e = absurd (omega arith)
checks_then (f ∷ l) m lent (v ∷ vs) ws p e = checks_then l m lent vs ws (check_field f lent v p) (omega arith)

pub measured_then : {l m : Layout} {lent : List ℕ} {vs ws : List Value} {p q e : Place} → length vs ≡ length l → Measured l lent vs p q → Measured m lent ws q e → Measured (l ++ m) lent (vs ++ ws) p e
measured_then {l} {m} {lent} {vs} {ws} {p} h a b = record { is = b.is ∙ ap (check_fields m lent ws) a.is ∙ sym (checks_then l m lent vs ws p h) }

record Twice (fs gs : List Shape) (lent : List ℕ) (vs ws : List Slot) (o : List ℕ) (p : Place) : Type 0 where
  pub bytes : put_cells (fs ++ gs) lent (vs ++ ws) o p ≡ put_cells gs lent ws (put_cells fs lent vs o p) (past_put_cells fs lent vs o p)
  pub next : past_put_cells (fs ++ gs) lent (vs ++ ws) o p ≡ past_put_cells gs lent ws (put_cells fs lent vs o p) (past_put_cells fs lent vs o p)

puts_then : (fs gs : List Shape) (lent : List ℕ) (vs ws : List Slot) (o : List ℕ) (p : Place) → length vs ≡ length fs → Twice fs gs lent vs ws o p
unfolding put_cells past_put_cells
puts_then [] gs lent [] ws o p e = record { bytes = refl; next = refl }
puts_then [] gs lent (v ∷ vs) ws o p e = absurd (omega arith)
puts_then (f ∷ fs) gs lent [] ws o p e = absurd (omega arith)
puts_then (f ∷ fs) gs lent (v ∷ vs) ws o p e =
    let t = puts_then fs gs lent vs ws (put_cell f lent v o p) (past_put_cell f lent v o p) (omega arith) in
    record { bytes = t.bytes; next = t.next }

pub put_then : {fs gs : List Shape} {lent : List ℕ} {vs ws : List Slot} {o o1 o2 : List ℕ} {p q e : Place} → length vs ≡ length fs → CellsPut fs lent vs o p o1 q → CellsPut gs lent ws o1 q o2 e
    → CellsPut (fs ++ gs) lent (vs ++ ws) o p o2 e
put_then {fs} {gs} {lent} {vs} {ws} {o} {p = p} h a b =
    let t = puts_then fs gs lent vs ws o p h in
    record {
      bytes = b.bytes ∙ ap₂ (put_cells gs lent ws) a.bytes a.next ∙ sym t.bytes;
      next = b.next ∙ ap₂ (past_put_cells gs lent ws) a.bytes a.next ∙ sym t.next;
    }
