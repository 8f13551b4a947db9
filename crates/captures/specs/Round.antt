-- The theorems of capture files (F13): there and back again both ways, what an imported stretch is, what a refusal leaves, and that there is one answer.
use Rattle.std.specs.Prelude.{ℕ, ◌≤◌, ◌≡◌, List, ◌++◌, length, drop}
use Rattle.captures.specs.Captures.{Held, packets_of, bytes_in, times_in, tallied, frames_in, cut_up, exported_file}
use Rattle.captures.specs.Steps.{joined, Goods}

-- ---- what is known where it is not refused

-- of an import: the records stand to the end of the file, and what is lent holds them and then what it held
pub record Took (file o : List ℕ) (t : List (List ℕ)) (o' : List ℕ) (t' : List (List ℕ)) (b n : ℕ) : Type 0 where
  pub told : tallied 0 0 (packets_of file) ≡ Held b n
  pub rows : n ≤ length t
  pub room : b ≤ length o
  pub bytes : o' ≡ bytes_in (packets_of file) ++ drop b o
  pub times : t' ≡ times_in (packets_of file) ++ drop n t

-- of an export: the stretch is its frames, each with a row, and what is lent holds the file and then what it held
pub record Wrote (s : List ℕ) (ts : List (List ℕ)) (o o' : List ℕ) (n : ℕ) : Type 0 where
  pub joins : joined (frames_in s (cut_up s)) ≡ s
  pub goods : Goods (frames_in s (cut_up s))
  pub rows : length (frames_in s (cut_up s)) ≤ length ts
  pub long : length (exported_file s ts) ≡ n
  pub room : n ≤ length o
  pub bytes : o' ≡ exported_file s ts ++ drop n o
