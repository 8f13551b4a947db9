-- What holds of the definitions in specs/Breaks.antt.
use Rattle.std.specs.Prelude.{ℕ, ◌+◌, ◌-◌, ◌≡◌, refl, Bool, true, false, cond, List}
use Rattle.std.proofs.Common.{arith}
use Rattle.numbers.specs.Reading.{ok, bad}
use Rattle.numbers.specs.declared.Refusal.TheVariants as R
use Rattle.utf8.specs.Utf8.{utf8, sound_start, no_zero, zero_at}
use Rattle.utf8.proofs.StartLaws.{sound_in, zero_in}
use Rattle.utf8.proofs.Longest.{sound_start_lem, longest, zero_there, zero_first}
use Rattle.strings.specs.Strings.{ok_text}
use Rattle.framing.specs.Breaks.{NotUtf8At, ZeroAt}

module _ (a : ℕ) (bs r : List ℕ) {n : ℕ} where
  pub five : ok_text a bs r ≡ bad R.NotUtf8 n → NotUtf8At a bs n
  five e =
      let d : n ≡ a + sound_start bs = go (utf8 bs) (no_zero bs) e in
      let h : n - a ≡ sound_start bs = omega arith in
      let l = sound_in bs refl in
      record {
        from = omega arith;
        to = omega arith;
        before = rw h (sound_start_lem bs);
        longest = λ m i j. longest bs m (omega arith) j;
      }
    where
      go : (u z : Bool) → cond u (cond z (ok bs r) (bad R.ZeroByte (a + zero_at bs))) (bad R.NotUtf8 (a + sound_start bs)) ≡ bad R.NotUtf8 n → n ≡ a + sound_start bs
      go true true f = absurd (let z : ◌≡◌ {A = ℕ} 0 1 = cc f in omega arith)
      go true false f = absurd (let z : ◌≡◌ {A = ℕ} 0 1 = cc f in omega arith)
      go false z f = cc f

  pub six : ok_text a bs r ≡ bad R.ZeroByte n → ZeroAt a bs n
  six e =
      let g = go (utf8 bs) (no_zero bs) refl e in
      let d = g.0 in
      let h : n - a ≡ zero_at bs = omega arith in
      let l = zero_in bs refl in
      record {
        from = omega arith;
        to = omega arith;
        there = rw h (zero_there bs g.1);
        first = λ i j. zero_first bs i (omega arith);
      }
    where
      go : (u z : Bool) → no_zero bs ≡ z → cond u (cond z (ok bs r) (bad R.ZeroByte (a + zero_at bs))) (bad R.NotUtf8 (a + sound_start bs)) ≡ bad R.ZeroByte n
          → (n ≡ a + zero_at bs) × (no_zero bs ≡ false)
      go true true h f = absurd (let z : ◌≡◌ {A = ℕ} 0 1 = cc f in omega arith)
      go true false h f = (cc f, h)
      go false z h f = absurd (let z : ◌≡◌ {A = ℕ} 0 1 = cc f in omega arith)
