-- What holds of the definitions in specs/PairLaws.antt.
use Rattle.std.specs.Prelude.{ℕ, ◌+◌, ◌≡◌, refl, Bool, true, false, List, [], ◌∷◌, eqb}
use Rattle.std.proofs.Common.{sym, ap, ◌∙◌, inl, inr, eq-eqb, ne_eqb}
use types.Run.{OneOf}
use Rattle.fields.specs.Layouts.{Layout}
use Rattle.layouts.specs.Tables.{Row, row, lookup}
use Rattle.pairs.specs.Pairs.{knows, paired, pairs}
use Rattle.pairs.specs.PairLaws.{keys}

-- ---- an arm of a match over all the keys, and the rest

here : (rs : List Row) (k ty : ℕ) (l : Layout) → eqb k ty ≡ true → true ≡ knows (row k l ∷ rs) ty
here rs k ty l e = rw (e, lookup)

later : (rs : List Row) (k ty : ℕ) (l : Layout) (b : Bool) → eqb k ty ≡ b → true ≡ knows rs ty → true ≡ knows (row k l ∷ rs) ty
later rs k ty l true e h = rw (e, lookup)
later rs k ty l false e h = rw (e, lookup) h

pub known : (rs : List Row) (ty : ℕ) → OneOf (keys rs) ty → true ≡ knows rs ty
known [] ty h = absurd h
known (row k l ∷ []) ty h = here [] k ty l (eq-eqb k ty (sym h))
known (row k l ∷ row j m ∷ rs) ty (inl e) = here (row j m ∷ rs) k ty l (eq-eqb k ty (sym e))
known (row k l ∷ row j m ∷ rs) ty (inr h) = later (row j m ∷ rs) k ty l (eqb k ty) refl (known (row j m ∷ rs) ty h)

pub unknown : (rs : List Row) (ty : ℕ) → (OneOf (keys rs) ty → ⊥) → false ≡ knows rs ty
unknown [] ty h = refl
unknown (row k l ∷ []) ty h = rw (ne_eqb k ty (λ e. h (sym e)), lookup)
unknown (row k l ∷ row j m ∷ rs) ty h = rw (ne_eqb k ty (λ e. h (inl (sym e))), lookup) (unknown (row j m ∷ rs) ty (λ e. h (inr e)))

-- ---- the ways of the rule

module _ (known : Bool) (error ty tag ty' tag' : ℕ) where
  pub other_tag : (tag ≡ tag' → ⊥) → false ≡ paired known error ty tag ty' tag'
  other_tag h = rw (ne_eqb tag tag' h)

  pub an_error : tag ≡ tag' → known ≡ true → ty' ≡ error → true ≡ paired known error ty tag ty' tag'
  an_error e k h = rw (eq-eqb tag tag' e, k, eq-eqb ty' error h)

  pub by_number : tag ≡ tag' → known ≡ true → (ty' ≡ error → ⊥) → eqb ty' (ty + 1) ≡ paired known error ty tag ty' tag'
  by_number e k h = rw (eq-eqb tag tag' e, k, ne_eqb ty' error h)

  pub no_request : tag ≡ tag' → known ≡ false → false ≡ paired known error ty tag ty' tag'
  no_request e k = rw (eq-eqb tag tag' e, k)

-- by the table's word on the request
pub by_table : (rs : List Row) (error ty tag ty' tag' : ℕ) {known r : Bool} → known ≡ knows rs ty → r ≡ paired known error ty tag ty' tag' → r ≡ pairs rs error ty tag ty' tag'
by_table rs error ty tag ty' tag' k e = e ∙ ap (λ z. paired z error ty tag ty' tag') k
