-- Written by tools/messages from crates/frames/specs/One.antt.
-- Any two answers that the frame readers' promises allow are equal: an answer is determined by its view.
use Rattle.std.specs.Prelude.{ℕ, ◌≡◌, Result, Ok, Err}
use Rattle.std.proofs.Common.{arith, ap, ap₂, ◌∙◌}
use Rattle.plain_requests.specs.Views.{view_t, Tbody}
use Rattle.plain_requests.specs.Built.{one_body}
use Rattle.plain_replies.specs.Views.{type_r, values_r}
use Rattle.plain_replies.specs.Built.{one_message}
use Rattle.plain_replies.specs.declared.Rmessage.{Rmessage}
use Rattle.plain_frames.specs.declared.Tframe.{Tframe}
use Rattle.plain_frames.specs.declared.Rframe.{Rframe}
use Rattle.numbers.specs.declared.Fault.{Fault}
use Rattle.numbers.specs.declared.Refusal.{Refusal}
use Rattle.plain_frames.specs.Views.{view_tframe, view_rframe}

abbrev tframe : ℕ → ℕ → Tbody → Tframe
tframe at tag b = record { at = at; tag = record { 0 = tag }; msg = b }

abbrev rframe : ℕ → ℕ → Rmessage → Rframe
rframe at tag m = record { at = at; tag = record { 0 = tag }; msg = m }

pub one_tframe : (r r' : Result Tframe Refusal) → view_tframe r ≡ view_tframe r' → r ≡ r'
unfolding view_tframe
one_tframe (Ok f) (Ok g) e =
    let a : f.tag.0 ≡ g.tag.0 = cc e in
    let b : view_t f.msg ≡ view_t g.msg = cc e in
    let p : f.at ≡ g.at = cc e in
    ap Ok (ap₂ (tframe f.at) a (one_body f.msg g.msg b) ∙ ap (λ x. tframe x g.tag.0 g.msg) p)
one_tframe (Err j) (Err k) e = let a : j ≡ k = cc e in ap Err a
one_tframe (Ok f) (Err k) e = absurd (let z : ◌≡◌ {A = ℕ} 0 1 = cc e in omega arith)
one_tframe (Err k) (Ok f) e = absurd (let z : ◌≡◌ {A = ℕ} 0 1 = cc e in omega arith)

pub one_rframe : (r r' : Result (Rframe × ℕ) Fault) → view_rframe r ≡ view_rframe r' → r ≡ r'
unfolding view_rframe
one_rframe (Ok (f, m)) (Ok (g, n)) e =
    let a : f.tag.0 ≡ g.tag.0 = cc e in
    let b : type_r f.msg ≡ type_r g.msg = cc e in
    let c : values_r f.msg ≡ values_r g.msg = cc e in
    let d : m ≡ n = cc e in
    let p : f.at ≡ g.at = cc e in
    let q : f ≡ g = ap₂ (λ t x. rframe f.at t x) a (one_message f.msg g.msg b c) ∙ ap (λ x. rframe x g.tag.0 g.msg) p in
    ap₂ {C = Result (Rframe × ℕ) Fault} (λ x y. Ok (x, y)) q d
one_rframe (Err f) (Err g) e =
    let a : f.0 ≡ g.0 = cc e in
    let b : f.1 ≡ g.1 = cc e in
    ap Err (ap₂ {C = Fault} (λ k n. (k, n)) a b)
one_rframe (Ok (f, n)) (Err g) e = absurd (let z : ◌≡◌ {A = ℕ} 0 1 = cc e in omega arith)
one_rframe (Err g) (Ok (f, n)) e = absurd (let z : ◌≡◌ {A = ℕ} 0 1 = cc e in omega arith)
