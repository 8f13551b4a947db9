-- Strings (F1.3): n[2] and n bytes of text.
use Rattle.std.specs.Prelude.{ℕ, ◌+◌, ◌<◌, ◌≡◌, true, cond, List, ◌++◌, length}
use Rattle.numbers.specs.Numbers.{to_le}
use Rattle.numbers.specs.Reading.{Reading, ok, bad, after, raw, read_num}
use Rattle.numbers.specs.declared.Refusal.TheVariants as R
use Rattle.utf8.specs.Utf8.{utf8, sound_start, no_zero, zero_at}

-- the check of a text that begins at a: UTF-8 over all of it first (5), then the zero byte (6) (F2.5), each with its place (F2.7)
abbrev pub ok_text : ℕ → List ℕ → List ℕ → Reading (List ℕ)
ok_text a bs r = cond (utf8 bs) (cond (no_zero bs) (ok bs r) (bad R.ZeroByte (a + zero_at bs))) (bad R.NotUtf8 (a + sound_start bs))

-- count, bytes, UTF-8, zero byte (F4.9), of bytes that begin at a
unfoldable pub read_string : ℕ → List ℕ → Reading (List ℕ)
read_string a xs = after (read_num 2 xs) (λ n r. after (raw n r) (ok_text (a + 2)))

-- a string as it is written
unfoldable pub string_bytes : List ℕ → List ℕ
string_bytes bs = to_le 2 (length bs) ++ bs

-- what can stand in a string
pub record GoodText (bs : List ℕ) : Type 0 where
  pub short : length bs < 65536
  pub form : utf8 bs ≡ true
  pub full : no_zero bs ≡ true
