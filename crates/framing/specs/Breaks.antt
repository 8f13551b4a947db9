-- What the place of a refused text says of its bytes (F2.7): of a 5, that the bytes before it are UTF-8 and that no longer start is; of a 6, that
-- a zero byte stands there and none before it.
use Rattle.std.specs.Prelude.{ℕ, ◌+◌, ◌-◌, ◌≤◌, ◌<◌, ◌≡◌, true, false, List, length, take, get_or}
use Rattle.utf8.specs.Utf8.{utf8}

-- the text bs begins at a and breaks at n
pub record NotUtf8At (a : ℕ) (bs : List ℕ) (n : ℕ) : Type 0 where
  pub from : a ≤ n
  pub to : n ≤ a + length bs
  pub before : utf8 (take (n - a) bs) ≡ true
  pub longest : (m : ℕ) → n - a < m → m ≤ length bs → utf8 (take m bs) ≡ false

pub record ZeroAt (a : ℕ) (bs : List ℕ) (n : ℕ) : Type 0 where
  pub from : a ≤ n
  pub to : n ≤ a + length bs
  pub there : get_or bs (n - a) 1 ≡ 0
  pub first : (i : ℕ) → i < n - a → get_or bs i 1 ≡ 0 → ⊥
