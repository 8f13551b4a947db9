-- What a line asks: a letter, decimal numbers, a slash and bytes by their hexadecimal digits.
use Rattle.std.specs.Prelude.{◌≡◌, ℕ, zero, suc, ◌+◌, ◌-◌, ◌*◌, ◌%◌, min, Bool, cond, ◌&&◌, ◌||◌, List, [], ◌∷◌, ◌++◌, length, take, drop, replicate, ◌==◌, nat_le, nat_lt, slice_index, slice_index_or, slice_set}
use Rattle.questions.specs.Parts.{part_of}
use Rattle.questions.specs.declared.Question.{Question}

abbrev pub is_digit : ℕ → Bool
is_digit c = nat_le 48 c && nat_le c 57

-- ---- the numbers

-- the characters of numbers: digits, the space (32), the mark of a place that is refused (33), and the star before the last two (42)
unfoldable pub is_figure : ℕ → Bool
is_figure c = c == 32 || c == 33 || c == 42 || is_digit c

-- how many of them stand at the front
unfoldable pub run : List ℕ → ℕ
run [] = 0
run (c ∷ cs) = cond (is_figure c) (suc (run cs)) 0

-- where the numbers end that stand after the letter; T (84) and R (82) have none
unfoldable pub ends : List ℕ → ℕ
ends line = cond (slice_index line 0 == 84 || slice_index line 0 == 82) 1 (1 + run (drop 1 line))

-- which of sixteen numbers a character belongs to, after one of number k: a space steps on, from the last to the first, and a star to
-- the last two
unfoldable pub next_at : ℕ → ℕ → ℕ
next_at k c = cond (c == 32) ((k + 1) % 16) (cond (c == 42) 14 k)

-- a number and one digit more; what is too great is the greatest
unfoldable pub tens : ℕ → ℕ → ℕ
tens n c = cond (is_digit c) (min (n * 10 + (c - 48)) 18446744073709551615) n

-- the numbers ns with more characters read in, after one of number k
unfoldable pub figures_in : ℕ → List ℕ → List ℕ → List ℕ
figures_in k ns [] = ns
figures_in k ns (c ∷ cs) = figures_in (next_at k c) (slice_set ns (next_at k c) (tens (slice_index ns (next_at k c)) c)) cs

-- the space before the first number steps on from the last
unfoldable pub figures_of : List ℕ → List ℕ
figures_of line = figures_in 15 (replicate 16 0) (part_of line 1 (ends line))

-- ---- the bytes

-- a digit's value; 256, which no byte holds, for any other character
unfoldable pub value : ℕ → ℕ
value c = cond (is_digit c) (c - 48) (cond (nat_le 97 c && nat_le c 102) (c - 97 + 10) 256)

-- the bytes that pairs of digits spell, up to a pair that spells none
unfoldable pub spelt : List ℕ → List ℕ
spelt (a ∷ b ∷ cs) = cond (nat_lt 255 (value a * 16 + value b)) [] ((value a * 16 + value b) ∷ spelt cs)
spelt (a ∷ []) = []
spelt [] = []

-- n bytes more, each of them what stands k bytes before it; 0 where nothing does
unfoldable pub grown : ℕ → ℕ → List ℕ → List ℕ
grown zero k bs = bs
grown (suc n) k bs = grown n k (bs ++ (slice_index bs (length bs - k) ∷ []))

-- what stands after the slash
unfoldable pub digits_of : List ℕ → List ℕ
digits_of line = drop (ends line + 1) line

-- the bytes that are given, as many as fit
unfoldable pub given_in : ℕ → List ℕ → List ℕ
given_in size line = take size (spelt (digits_of line))

-- and with those that *N K adds, the last two numbers
unfoldable pub bytes_spelt : ℕ → List ℕ → List ℕ
bytes_spelt size line =
    grown (min (slice_index (figures_of line) 14) size - length (given_in size line)) (slice_index (figures_of line) 15) (given_in size line)

-- whether a slash (47), or the space of T and R, ends the numbers, and all the digits spell bytes. The line's end counts as a slash
unfoldable pub sound_at : ℕ → ℕ → ℕ → Bool
sound_at c given digits = (c == 47 || c == 32) && given * 2 == digits

-- ---- the whole

-- what is answered, where the room has so many bytes. The mark stands before the first number, after the letter and a space
unfoldable pub question_in : ℕ → List ℕ → Question
question_in size line = record {
  numbers = figures_of line;
  marked = (slice_index line 2 == 33);
  held = length (bytes_spelt size line);
  sound = sound_at (slice_index_or line (ends line) 47) (length (given_in size line)) (length (digits_of line));
}

-- bytes at the front of an output, and how many they are; after them it is as it was
pub record Laid (bs o o' : List ℕ) (n : ℕ) : Type 0 where
  pub out : o' ≡ bs ++ drop (length bs) o
  pub count : n ≡ length bs

-- a line taken apart: the answer, and the bytes in the room
pub record Taken (line o : List ℕ) (q : Question) (o' : List ℕ) : Type 0 where
  pub answer : q ≡ question_in (length o) line
  pub bytes : Laid (bytes_spelt (length o) line) o o' q.held
