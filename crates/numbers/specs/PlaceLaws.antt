-- The laws of places: one answer for each question, what was put is read back, what was read is put back.
use Rattle.numbers.specs.Place.{Place}
use Rattle.std.specs.Prelude.{ℕ, ◌+◌, ◌≤◌, ◌≡◌, List, length, drop, Ok}
use Rattle.numbers.specs.Reading.{ok, bad, read_num}
use Rattle.numbers.specs.Places.{read_at}
use Rattle.numbers.specs.declared.Refusal.{Refusal}

-- what is known of a number that was read at p of s, and after which the place is e
pub record Held (w : ℕ) (s : List ℕ) (p : Place) (x e : ℕ) : Type 0 where
  pub at : ℕ
  pub place : p ≡ Ok at
  pub fits : at + w ≤ length s
  pub ends : e ≡ at + w
  pub reads : read_num w (drop at s) ≡ ok x (drop e s)

-- and of one that was refused
pub record Refuses (w : ℕ) (s : List ℕ) (p : Place) (k : Refusal) (j : ℕ) : Type 0 where
  pub reads : read_at (read_num w) s p ≡ bad k j
