-- What holds of the definitions in specs/Views.antt.
use Rattle.std.specs.Prelude.{ℕ, ◌≡◌, List}
use Rattle.numbers.proofs.PlaceLaws.{one_answer}
use Rattle.blocks.specs.Views.{Step, Packing, view_step, Asked, PackedInto}

-- ---- any two answers that a promise allows are equal

pub packed_one : {count : ℕ} {names : List ℕ} {rows : List (List ℕ)} {o o1 o2 : List ℕ} {r r' : Packing} → PackedInto count names rows o o1 r → PackedInto count names rows o o2 r' → (o1 ≡ o2) × (r ≡ r')
packed_one a b = (one_answer a.left b.left, one_answer a.answer b.answer)

pub asked_one : {s : List ℕ} {p : ℕ} {r r' : Step} → Asked s p r → Asked s p r' → view_step p r ≡ view_step p r'
asked_one a b = one_answer a.is b.is
