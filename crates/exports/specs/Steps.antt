-- A stretch asked at a position, as Rust has the answer (F6.2).
use Rattle.std.specs.Prelude.{ℕ, ◌+◌, ◌-◌, ◌≡◌, refl, true, false, List, length, take, Ok}
use Rattle.std.proofs.Common.{arith, sym, ap, ap₂, ◌∙◌}
use Rattle.numbers.specs.Numbers.{Bytes}
use Rattle.numbers.specs.Refusals.{number_of}
use Rattle.numbers.specs.declared.Refusal.{Refusal}
use Rattle.layouts.specs.Tables.{table_t, table_r}
use Rattle.layouts.specs.Bodies.{Answer}
use Rattle.framing.specs.Raising.{raise, body_from}
use Rattle.framing.specs.Stretch.{table_for, answer_of, tail_in, Step, frame, end, stop, frame_at}
use Rattle.framing.specs.Cuts.{between, WholeAt}
use Rattle.framing.proofs.CutLaws.{length_whole, answer_there, tail_raised, frame_same}
use Rattle.exports.specs.Answers.{outcome_of, ended}
use Rattle.exports.specs.declared.Outcome.{Outcome}

-- a refusal of a stretch stands beside the position (F6.2)
abbrev pub stopped : Refusal → ℕ → Outcome
stopped k at = record { refusal = number_of k; ty = 0; tag = 0; held = false; place = at }

-- a frame is told by its type, its tag and the place after it; the end by its own place, and no frame
abbrev pub step_outcome : Step → Outcome
step_outcome (frame at size ty tag a tail next) = outcome_of ty tag true (Ok next)
step_outcome (end at) = ended (Ok at)
step_outcome (stop k at) = stopped k at

-- ---- a whole frame

module _ {s : List ℕ} {p ty tag e : ℕ} (w : WholeAt s p ty tag e) where
  pub step_there : outcome_of ty tag true (Ok e) ≡ step_outcome (frame_at table_t table_r s p)
  step_there =
      let h = w.seven in
      let z = length_whole w in
      let n : e ≡ p + length (between p e s) = omega arith in
      let f : outcome_of ty tag true (Ok (p + length (between p e s))) ≡ step_outcome (frame_at table_t table_r s p) = rw (w.ty, w.tag) (ap step_outcome (w.is table_t table_r)) in
      ap (λ m. outcome_of ty tag true (Ok m)) n ∙ f

  -- what the reader of its direction answers, lent the bytes to its end
  abbrev said : Answer
  said = body_from (table_for table_t table_r ty) ty (take e s) p

  -- what is listed of a frame (F6.3 to F6.5, F6.9)
  pub listed_there : Bytes s → frame p (e - p) ty tag said (tail_in (e - p) said) e ≡ frame_at table_t table_r s p
  listed_there b =
      let h = w.seven in
      let z = length_whole w in
      let a : said ≡ raise p (answer_of table_t table_r (between p e s)) = answer_there table_t table_r b w in
      frame_same refl (sym z) w.ty w.tag a (ap₂ tail_in (sym z) a ∙ tail_raised p (length (between p e s)) (answer_of table_t table_r (between p e s))) (omega arith) ∙ w.is table_t table_r
