-- Plain bytes one after the other: each is a character of its own, and none is zero.
use Rattle.std.specs.Prelude.{ℕ, ◌+◌, ◌≤◌, ◌<◌, ◌≡◌, true, List, length, drop, get_or, Ok, Err}
use Rattle.numbers.specs.Place.{Place}
use Rattle.numbers.specs.Reading.{ok, bad}
use Rattle.numbers.specs.declared.Fault.{Fault}
use Rattle.strings.specs.Strings.{read_string, string_bytes}
use Rattle.utf8.specs.Utf8.{◌to◌, in_range}

-- those from i to before e
pub record Plains (s : List ℕ) (i e : ℕ) : Type 0 where
  pub each : (j : ℕ) → i ≤ j → j < e → in_range (1 to 127) (get_or s j 0) ≡ true

-- so many from i on, which are there
pub record Run (s : List ℕ) (i n : ℕ) : Type 0 where
  pub held : i + n ≤ length s
  pub plain : Plains s i (i + n)

-- the string at a is sound and ends at e
pub record Passed (s : List ℕ) (a e : ℕ) : Type 0 where
  pub name : List ℕ
  pub reads : read_string a (drop a s) ≡ ok name (drop e s)
  pub ends : a + length (string_bytes name) ≡ e
  pub lies : e ≤ length s

-- or it is refused
pub record NotPassed (s : List ℕ) (a : ℕ) (f : Fault) : Type 0 where
  pub reads : read_string a (drop a s) ≡ bad f.0 f.1

abbrev pub NamePassed : List ℕ → ℕ → Place → Type 0
NamePassed s a (Ok e) = Passed s a e
NamePassed s a (Err f) = NotPassed s a f
