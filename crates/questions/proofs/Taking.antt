-- A line is taken apart by its parts: where the numbers end, the numbers, the digits, the bytes that they spell, and those that are added.
use Rattle.std.proofs.Common.{◌≡◌, ℕ, ◌+◌, ◌-◌, min, Bool, eqb, List, length, get_or, take, drop, replicate}
use Rattle.questions.specs.Parts.{part_of}
use Rattle.questions.specs.Questions.{ends, figures_in, figures_of, spelt, grown, digits_of, given_in, bytes_spelt, sound_at, question_in, Laid, Taken}
use Rattle.questions.proofs.Loops.{spelt_fits, laid_then}

module _ (line : List ℕ) {fs ns hex : List ℕ} {end : ℕ}
    (e : end ≡ ends line) (f : fs ≡ part_of line 1 end) (n : ns ≡ figures_in 15 (replicate 16 0) fs) (h : hex ≡ drop (end + 1) line) where
  numbers_are : ns ≡ figures_of line
  unfolding figures_of
  numbers_are = rw (← e, ← f) n

  digits_are : hex ≡ digits_of line
  unfolding digits_of
  digits_are = rw (← e) h

  module _ {o o1 o2 : List ℕ} {given held : ℕ} (g : Laid (take (length o) (spelt hex)) o o1 given)
      (r : Laid (grown (min (get_or ns 14 0) (length o1) - given) (get_or ns 15 0) (take given o1)) o1 o2 held) where
    bytes_are : Laid (bytes_spelt (length o) line) o o2 held
    unfolding bytes_spelt given_in
    bytes_are =
        rw (← numbers_are, ← digits_are) (laid_then o o1 o2 (take (length o) (spelt hex)) given held (get_or ns 14 0) (get_or ns 15 0) (spelt_fits (length o) hex) g r)

    pub taken : {mark slash : ℕ} {sound : Bool} → mark ≡ get_or line 2 0 → slash ≡ get_or line end 47 → sound ≡ sound_at slash given (length hex)
        → Taken line o (record { numbers = ns; marked = eqb mark 33; held = held; sound = sound }) o2
    unfolding question_in given_in
    taken {sound = sound} m z s =
        let d = digits_are in
        let n = numbers_are in
        let t : sound ≡ sound_at (get_or line (ends line) 47) (length (take (length o) (spelt (digits_of line)))) (length (digits_of line)) = rw (← d, ← g.count, ← e, ← z) s in
        record { answer = rw (n, m, bytes_are.count, t); bytes = bytes_are }
