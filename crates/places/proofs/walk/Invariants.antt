-- The steps that are left, from where the walk stands, end where all of them do.
use Rattle.places.specs.Places.{walked}
use mathlib.Core.Path.{◌≡◌}
use Prim.Native.Nat.{◌-◌}
use Rattle.places.proofs.walk.Given as goal

abbrev pub invariant-loop : goal.invariant-loop
invariant-loop l = walked l.stretch (l.count - l.counter) l.place l.r ≡ walked l.stretch l.count l.initial.place l.initial.r
