-- Strings by spans: what a span shows of the lent bytes, the writer's checks, and a string read at a place. What the contracts cite.
use Rattle.numbers.specs.Place.{Place}
use Rattle.std.specs.Prelude.{ℕ, ◌+◌, ◌≡◌, cond, List, [], length, take, drop, leb, Ok, Err}
use Rattle.numbers.specs.Reading.{Reading, ok, bad, after}
use Rattle.numbers.specs.Places.{read_from, rest_at, Put}
use Rattle.numbers.specs.declared.Refusal.TheVariants as R
use Rattle.strings.specs.Strings.{ok_text, read_string, string_bytes}

-- the bytes, none where they are refused
abbrev pub bytes_in : Reading (List ℕ) → List ℕ
bytes_in (ok bs r) = bs
bytes_in (bad k at) = []

-- ---- lent bytes. The rest of an `ok` is not used here, and is []

-- what a span shows; 9 where it lies outside the lent bytes (F5.4)
unfoldable pub show_span : List ℕ → ℕ → ℕ → Reading (List ℕ)
show_span lent x y = cond (leb (x + y) (length lent)) (ok (take y (drop x lent)) []) (bad R.SpanOutside 0)

-- a string that is to be written: 9, 7, 5, 6 (F5.5)
unfoldable pub show_string : List ℕ → ℕ → ℕ → Reading (List ℕ)
show_string lent x y = after (show_span lent x y) (λ bs r. cond (leb y 65535) (ok_text x bs r) (bad R.StringTooLong 0))

-- a check at a place: the place itself where it is passed, else the refusal. A refused place stays refused
abbrev pub check_at : {A : Type 0} → Reading A → Place → Place
check_at m (Err f) = Err f
check_at (ok a r) (Ok n) = Ok n
check_at (bad k at) (Ok n) = Err (k, at)

-- the bytes that are shown: none where the span lies outside
pub record Shown (lent : List ℕ) (x y : ℕ) (bs : List ℕ) : Type 0 where
  pub is : bs ≡ bytes_in (show_span lent x y)

-- what the checks of a string's bytes, of a span, and of a lent string answer at p
pub record TextCheck (s : List ℕ) (x y : ℕ) (p q : Place) : Type 0 where
  pub is : q ≡ check_at (ok_text x (take y (drop x s)) []) p

pub record SpanCheck (lent : List ℕ) (x y : ℕ) (p q : Place) : Type 0 where
  pub is : q ≡ check_at (show_span lent x y) p

pub record StrCheck (lent : List ℕ) (x y : ℕ) (p q : Place) : Type 0 where
  pub is : q ≡ check_at (show_string lent x y) p

-- ---- reading at a place

-- where the bytes of an accepted field stand: after its count of w bytes
abbrev pub start_in : ℕ → Place → Reading (List ℕ) → ℕ
start_in w (Ok a) (ok bs r) = a + w
start_in w (Ok a) (bad k at) = 0
start_in w (Err f) m = 0

unfoldable pub str_start : List ℕ → Place → ℕ
str_start s p = start_in 2 p (read_from read_string s p)

unfoldable pub str_len : List ℕ → Place → ℕ
str_len s p = length (bytes_in (read_from read_string s p))

unfoldable pub past_str : List ℕ → Place → Place
past_str s p = rest_at (length s) (read_from read_string s p)

-- what the reader of a string answers at p of s: where its bytes start, how many they are, and the place after it
pub record StrRead (s : List ℕ) (p : Place) (x y : ℕ) (q : Place) : Type 0 where
  pub start : x ≡ str_start s p
  pub len : y ≡ str_len s p
  pub next : q ≡ past_str s p

-- ---- putting at a place

-- the bytes that a span shows: 9, 11
pub record SpanPut (lent : List ℕ) (x y : ℕ) (o : List ℕ) (p : Place) (o' : List ℕ) (q : Place) : Type 0 where
  pub put : Put (bytes_in (show_span lent x y)) o (check_at (show_span lent x y) p) o' q

-- a lent string, n[2] and its bytes: 9, 7, 5, 6, 11
pub record StrPut (lent : List ℕ) (x y : ℕ) (o : List ℕ) (p : Place) (o' : List ℕ) (q : Place) : Type 0 where
  pub put : Put (string_bytes (bytes_in (show_string lent x y))) o (check_at (show_string lent x y) p) o' q
