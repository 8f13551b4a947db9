-- Written by tools/messages from crates/stretch/specs/One.antt.
-- Any two answers that the promises of this crate allow are equal.
use Rattle.std.specs.Prelude.{ℕ, ◌≡◌, List, refl, Ok, Err, Some, None}
use Rattle.std.proofs.Common.{arith, ap, ap₂}
use Rattle.numbers.specs.declared.Fault.{Fault}
use Rattle.numbers.proofs.PlaceLaws.{one_answer}
use Rattle.plain_requests.specs.Built.{one_body}
use Rattle.plain_replies.specs.Built.{one_body as one-reply}
use Rattle.plain_stretch.specs.Views.{view_body, Way, Answered, view_step, StepWay, Asked}
use Rattle.plain_stretch.specs.declared.Body.{Body}
use Rattle.plain_stretch.specs.declared.Body.TheVariants as B
use Rattle.plain_stretch.specs.declared.Listed.{Listed}

same_body : (ty : ℕ) (b c : Body) → view_body b ≡ view_body c → Way ty b → Way ty c → b ≡ c
unfolding view_body
same_body ty (B.Request b) (B.Request c) e v w = ap B.Request (one_body b c e)
same_body ty (B.Reply b) (B.Reply c) e v w = ap B.Reply (one-reply b c e)
same_body ty (B.Request b) (B.Reply c) e v w = absurd (w v)
same_body ty (B.Reply b) (B.Request c) e v w = absurd (v w)

abbrev made : ℕ → ℕ → ℕ → ℕ → Body → ℕ → ℕ → Listed
made at size ty tag b tail next = record { at = at; size = size; ty = ty; tag = record { 0 = tag }; body = b; tail = tail; next = next }

same : {a a' n n' y y' g g' t t' e e' : ℕ} {b b' : Body} → a ≡ a' → n ≡ n' → y ≡ y' → g ≡ g' → b ≡ b' → t ≡ t' → e ≡ e' → made a n y g b t e ≡ made a' n' y' g' b' t' e'
same e1 e2 e3 e4 e5 e6 e7 = rw (e1, e2, e3, e4, e5, e6, e7)

same_step : (p : ℕ) (r r' : Answered) → view_step p r ≡ view_step p r' → StepWay r → StepWay r' → r ≡ r'
unfolding view_step
same_step p (Ok (Some l)) (Ok (Some m)) e v w =
    let a : l.at ≡ m.at = cc e in
    let n : l.size ≡ m.size = cc e in
    let y : l.ty ≡ m.ty = cc e in
    let g : l.tag.0 ≡ m.tag.0 = cc e in
    let b : view_body l.body ≡ view_body m.body = cc e in
    let t : l.tail ≡ m.tail = cc e in
    let x : l.next ≡ m.next = cc e in
    ap (λ (i : Listed). Ok (Some i)) (same a n y g (same_body m.ty l.body m.body b (rw y at v) w) t x)
same_step p (Ok None) (Ok None) e v w = refl
same_step p (Err f) (Err g) e v w = let a : f.0 ≡ g.0 = cc e in let b : f.1 ≡ g.1 = cc e in ap Err (ap₂ {C = Fault} (λ k n. (k, n)) a b)
same_step p (Ok (Some l)) (Ok None) e v w = absurd (let z : ◌≡◌ {A = ℕ} 0 1 = cc e in omega arith)
same_step p (Ok (Some l)) (Err f) e v w = absurd (let z : ◌≡◌ {A = ℕ} 0 1 = cc e in omega arith)
same_step p (Ok None) (Ok (Some l)) e v w = absurd (let z : ◌≡◌ {A = ℕ} 0 1 = cc e in omega arith)
same_step p (Ok None) (Err f) e v w = absurd (let z : ◌≡◌ {A = ℕ} 0 1 = cc e in omega arith)
same_step p (Err f) (Ok (Some l)) e v w = absurd (let z : ◌≡◌ {A = ℕ} 0 1 = cc e in omega arith)
same_step p (Err f) (Ok None) e v w = absurd (let z : ◌≡◌ {A = ℕ} 0 1 = cc e in omega arith)

pub step_one : {s : List ℕ} {p : ℕ} (r r' : Answered) → Asked s p r → Asked s p r' → r ≡ r'
step_one {p = p} r r' a b = same_step p r r' (one_answer a.is b.is) a.way b.way
