-- What holds of the places of any session: each older place is not above its own, and all are below the used ones. What is kept of them.
use Rattle.std.specs.Prelude.{ℕ, ◌<◌, ◌≤◌, ◌≡◌, length, get_or, Result, Ok, Err}
use Rattle.numbers.specs.declared.Refusal.{Refusal}
use Rattle.places.specs.declared.Places.{Places}
use Rattle.places.specs.declared.Reached.{Reached}

pub record Sound (p : Places) : Type 0 where
  pub olders : length p.older ≡ 256
  pub firsts : length p.starts ≡ 256
  pub counts : length p.lens ≡ 256
  pub most : p.used ≤ 256
  pub falls : (i : ℕ) → i < p.used → get_or p.older i 0 ≤ i

-- a place below the used ones
abbrev pub Inside : Places → Result ℕ Refusal → Type 0
Inside p (Ok i) = i < p.used
Inside p (Err k) = Unit {0}

-- the places of p are those of q too, with the rows that they had
pub record Kept (p q : Places) : Type 0 where
  pub more : p.used ≤ q.used
  pub older : (i : ℕ) → i < p.used → get_or q.older i 0 ≡ get_or p.older i 0
  pub start : (i : ℕ) → i < p.used → get_or q.starts i 0 ≡ get_or p.starts i 0
  pub len : (i : ℕ) → i < p.used → get_or q.lens i 0 ≡ get_or p.lens i 0

pub record Grown (p : Places) (r : Reached) : Type 0 where
  pub sound : Sound r.places
  pub inside : Inside r.places r.at
  pub kept : Kept p r.places
