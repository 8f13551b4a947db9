-- Of a stretch: where its frames end, one by one, and what is listed from there on.
use Rattle.std.specs.Prelude.{ℕ, ◌+◌, ◌≤◌, ◌≡◌, List, length, take, drop}
use Rattle.layouts.specs.Bodies.{Answer}
use Rattle.framing.specs.Local.{size_in}
use Rattle.framing.specs.Stretch.{entry}
use Rattle.captures.specs.Steps.{rest}

-- ---- one frame on

-- a frame stands from p to e, and what is listed from p on is it and what is listed from e on
pub record Next (s : List ℕ) (p e : ℕ) : Type 0 where
  pub ty : ℕ
  pub tag : ℕ
  pub tail : ℕ
  pub answer : Answer
  pub n : ℕ
  pub seven : 7 ≤ n
  pub on : e ≡ p + n
  pub held : e ≤ length s
  pub size : size_in (take n (drop p s)) ≡ n
  pub is : rest s p ≡ entry p n ty tag answer tail (rest s e)
