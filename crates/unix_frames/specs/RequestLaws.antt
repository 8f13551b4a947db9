-- Written by tools/messages from crates/frames/specs/RequestLaws.antt.
-- A request written: its message, or 16 where it holds a refusal.
use Rattle.numbers.specs.Place.{Place}
use Rattle.std.specs.Prelude.{ℕ, ◌≡◌, refl, List, Err, Ok}
use Rattle.numbers.specs.declared.Fault.{Fault}
use Rattle.numbers.specs.declared.Refusal.TheVariants as R
use Rattle.unix_requests.specs.Views.{type_t, layout_t, values_t, Tbody}
use Rattle.unix_requests.specs.declared.Tmessage.{Tmessage}
use Rattle.framing.specs.Writing.{FrameWritten}
use Rattle.unix_frames.specs.Views.{TbodyWritten}

pub request_written : (lent : List ℕ) (tag : ℕ) (b : Tbody) {n : ℕ} {m : Tmessage} {o o' : List ℕ} {q : Place} → b ≡ Ok (m, n)
    → FrameWritten (layout_t m) (type_t m) tag lent (values_t m) o o' q → TbodyWritten lent tag b o o' q
unfolding TbodyWritten
request_written lent tag b e w = rw e w

pub request_refused : (lent : List ℕ) (tag : ℕ) (b : Tbody) (o : List ℕ) {f : Fault} → b ≡ Err f → TbodyWritten lent tag b o o (Err (R.HoldsRefusal, 0))
unfolding TbodyWritten
request_refused lent tag b o e = rw e (refl, refl)
