-- The number that a body's answer is listed with, case by case.
use Rattle.std.specs.Prelude.{ℕ, ◌≡◌, Ok, Err}
use Rattle.numbers.specs.Refusals.{number_of}
use Rattle.numbers.specs.declared.Fault.{Fault}
use Rattle.requests.specs.Views.{view_t, Tbody}
use Rattle.requests.specs.declared.Tmessage.{Tmessage}
use Rattle.replies.specs.Views.{view_r, Rbody}
use Rattle.replies.specs.declared.Rmessage.{Rmessage}
use Rattle.stretch.specs.Views.{view_body}
use Rattle.stretch.specs.declared.Body.{Body}
use Rattle.stretch.specs.declared.Body.TheVariants as B
use Rattle.listing.specs.Text.{answer_number}

module _ {c : Body} where
  pub number_of_request : {b : Tbody} {m : Tmessage} {n : ℕ} → c ≡ B.Request b → b ≡ Ok (m, n) → 0 ≡ answer_number (view_body c)
  unfolding view_body view_t
  number_of_request e f = rw (e, f)

  pub number_of_no_request : {b : Tbody} {f : Fault} {x : ℕ} → c ≡ B.Request b → b ≡ Err f → x ≡ number_of f.0 → x ≡ answer_number (view_body c)
  unfolding view_body view_t
  number_of_no_request e f h = rw (e, f) h

  pub number_of_reply : {b : Rbody} {m : Rmessage} {n : ℕ} → c ≡ B.Reply b → b ≡ Ok (m, n) → 0 ≡ answer_number (view_body c)
  unfolding view_body view_r
  number_of_reply e f = rw (e, f)

  pub number_of_no_reply : {b : Rbody} {f : Fault} {x : ℕ} → c ≡ B.Reply b → b ≡ Err f → x ≡ number_of f.0 → x ≡ answer_number (view_body c)
  unfolding view_body view_r
  number_of_no_reply e f h = rw (e, f) h
