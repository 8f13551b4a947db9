-- Where a frame is refused with 5 or 6, a text among its bytes breaks at that place, counted from the frame's first byte (F2.7).
use Prim.Native.Nat.{ℕ, ◌+◌, ◌≤◌}
use Rattle.std.specs.Prelude.{◌≡◌, take, drop}
use mathlib.Core.List.{List, []}
use Rattle.std.proofs.Math.ListN.{length}
use Rattle.numbers.specs.Reading.{bad}
use Rattle.numbers.specs.Refusals.{number_of}
use Rattle.numbers.specs.declared.Refusal.{Refusal}
use Rattle.strings.specs.Strings.{ok_text}
use Rattle.framing.specs.Breaks.{NotUtf8At, ZeroAt}

-- a refusal of a text
pub record OfText (k : Refusal) : Type 0 where
  pub low : 5 ≤ number_of k
  pub high : number_of k ≤ 6

-- of the bytes xs, which begin at a, some are a text that is refused so
pub record Text (k : Refusal) (n a : ℕ) (xs : List ℕ) : Type 0 where
  pub off : ℕ
  pub len : ℕ
  pub lies : off + len ≤ length xs
  pub is : ok_text (a + off) (take len (drop off xs)) [] ≡ bad k n

-- ---- told of the text's bytes

-- some bytes of s are a text that breaks at n
pub record NotUtf8In (s : List ℕ) (n : ℕ) : Type 0 where
  pub start : ℕ
  pub len : ℕ
  pub lies : start + len ≤ length s
  pub breaks : NotUtf8At start (take len (drop start s)) n

pub record ZeroIn (s : List ℕ) (n : ℕ) : Type 0 where
  pub start : ℕ
  pub len : ℕ
  pub lies : start + len ≤ length s
  pub breaks : ZeroAt start (take len (drop start s)) n
