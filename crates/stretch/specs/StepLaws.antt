-- What each way of asking at a position answers, over plain variables.
use Rattle.std.specs.Prelude.{ℕ, ◌-◌, ◌%◌, ◌≡◌, List, length, take, Ok, Err, Some, None}
use Rattle.std.proofs.Common.{arith, ap₂, ◌∙◌, length-take-le, ne_eqb, eq-eqb}
use Rattle.numbers.specs.Numbers.{Bytes}
use Rattle.numbers.specs.declared.Fault.{Fault}
use Rattle.numbers.specs.declared.Refusal.{Refusal}
use Rattle.layouts.specs.Tables.{table_t, table_r}
use Rattle.framing.specs.Raising.{raise, body_from}
use Rattle.framing.specs.Stretch.{answer_of, tail_in, end, stop, frame_at}
use Rattle.framing.specs.Cuts.{between, WholeAt}
use Rattle.framing.proofs.CutLaws.{answer_there, tail_raised, frame_same, length_whole}
use Rattle.stretch.specs.Views.{view_body, BodyOf, Leaves, ListedAs, view_step, Asked}
use Rattle.requests.specs.Views.{view_t, Tbody}
use Rattle.requests.specs.declared.Tmessage.{Tmessage}
use Rattle.replies.specs.Views.{view_r, Rbody}
use Rattle.replies.specs.declared.Rmessage.{Rmessage}
use Rattle.stretch.specs.declared.Body.{Body}
use Rattle.stretch.specs.declared.Body.TheVariants as B
use Rattle.stretch.specs.declared.Listed.{Listed}

pub at_frame : {s : List ℕ} {p ty tag e : ℕ} (l : Listed) → Bytes s → WholeAt s p ty tag e → ListedAs (take e s) ty tag p l → Asked s p (Ok (Some l))
unfolding view_step
at_frame {s} {p} {ty} {tag} {e} l b w k =
    let f : List ℕ = between p e s in
    let h = w.seven in
    let z : length f ≡ e - p = length_whole w in
    let n : length (take e s) ≡ e = length-take-le e s w.held in
    let size : l.size ≡ length f = k.size ∙ (omega arith) in
    let ea : view_body l.body ≡ raise p (answer_of table_t table_r f) = (rw k.ty at k.body) ∙ answer_there table_t table_r b w in
    let tail : l.tail ≡ tail_in (length f) (answer_of table_t table_r f) = k.tail ∙ ap₂ tail_in size ea ∙ tail_raised p (length f) (answer_of table_t table_r f) in
    record {
      is = frame_same k.at size (k.ty ∙ w.ty) (k.tag ∙ w.tag) ea tail (k.next ∙ (let y = z in omega arith)) ∙ w.is table_t table_r;
      way = k.way;
    }

-- ---- bodies

pub request_body : {s : List ℕ} {ty p : ℕ} (b : Tbody) → ty % 2 ≡ 0 → view_t b ≡ body_from table_t ty s p → BodyOf s ty p (B.Request b)
unfolding view_body
request_body {ty = ty} b e h = record { is = rw (eq-eqb (ty % 2) 0 e) h; way = e }

pub reply_body : {s : List ℕ} {ty p : ℕ} (b : Rbody) → (ty % 2 ≡ 0 → ⊥) → view_r b ≡ body_from table_r ty s p → BodyOf s ty p (B.Reply b)
unfolding view_body
reply_body {ty = ty} b e h = record { is = rw (ne_eqb (ty % 2) 0 e) h; way = e }

module _ {size : ℕ} {c : Body} where
  pub leaves_request : {b : Tbody} {m : Tmessage} {n : ℕ} → c ≡ B.Request b → b ≡ Ok (m, n) → Leaves size (view_body c) n
  unfolding view_body view_t
  leaves_request e f = record { is = rw (e, f) }

  pub leaves_no_request : {b : Tbody} {f : Fault} → c ≡ B.Request b → b ≡ Err f → Leaves size (view_body c) size
  unfolding view_body view_t
  leaves_no_request e f = record { is = rw (e, f) (omega arith) }

  pub leaves_reply : {b : Rbody} {m : Rmessage} {n : ℕ} → c ≡ B.Reply b → b ≡ Ok (m, n) → Leaves size (view_body c) n
  unfolding view_body view_r
  leaves_reply e f = record { is = rw (e, f) }

  pub leaves_no_reply : {b : Rbody} {f : Fault} → c ≡ B.Reply b → b ≡ Err f → Leaves size (view_body c) size
  unfolding view_body view_r
  leaves_no_reply e f = record { is = rw (e, f) (omega arith) }

-- ---- what is answered where there is no frame

pub asked_end : {s : List ℕ} {p : ℕ} → end p ≡ frame_at table_t table_r s p → Asked s p (Ok None)
unfolding view_step
asked_end e = record { is = e; way = tt }

pub asked_stop : {s : List ℕ} {p : ℕ} {k : Refusal} → stop k p ≡ frame_at table_t table_r s p → Asked s p (Err (k, p))
unfolding view_step
asked_stop e = record { is = e; way = tt }
