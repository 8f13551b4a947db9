-- Reading: a reader takes the bytes that are left and answers a value with the rest of them, or a refusal with its place, which is 0 but where
-- a text is refused (F2.7).
use Rattle.std.specs.Prelude.{ℕ, cond, List, length, take, drop, leb}
use Rattle.numbers.specs.Numbers.{from_le}
use Rattle.numbers.specs.declared.Refusal.{Refusal}
use Rattle.numbers.specs.declared.Refusal.TheVariants as R

pub data Reading (A : Type 0) : Type 0 where
  ok : A → List ℕ → Reading A
  bad : Refusal → ℕ → Reading A

-- the first step that fails answers (F4.2): the next reader goes on with the rest, unless the first is refused
abbrev pub after : {A B : Type 0} → Reading A → (A → List ℕ → Reading B) → Reading B
after (ok a r) k = k a r
after (bad n m) k = bad n m

-- n bytes as they stand; 1 where there are fewer (F9.1)
unfoldable pub raw : ℕ → List ℕ → Reading (List ℕ)
raw n xs = cond (leb n (length xs)) (ok (take n xs) (drop n xs)) (bad R.Short 0)

-- a number of w bytes
unfoldable pub read_num : ℕ → List ℕ → Reading ℕ
read_num w xs = after (raw w xs) (λ bs r. ok (from_le bs) r)
