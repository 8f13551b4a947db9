-- Written by tools/messages from crates/stretch/specs/Views.antt.
-- What the answers of the stretch's functions say.
use Rattle.std.specs.Prelude.{ℕ, ◌-◌, ◌%◌, ◌≡◌, List, length, Result, Ok, Err, Option, Some, None}
use Rattle.numbers.specs.declared.Fault.{Fault}
use Rattle.layouts.specs.Plain.{table_t, table_r}
use Rattle.layouts.specs.Bodies.{Answer}
use Rattle.plain_requests.specs.Views.{view_t}
use Rattle.plain_replies.specs.Views.{view_r}
use Rattle.framing.specs.Raising.{body_from}
use Rattle.framing.specs.Stretch.{table_for, tail_in, Step, frame, end, stop, frame_at}
use Rattle.plain_stretch.specs.declared.Body.{Body}
use Rattle.plain_stretch.specs.declared.Body.TheVariants as B
use Rattle.plain_stretch.specs.declared.Listed.{Listed}

unfoldable pub view_body : Body → Answer
view_body (B.Request b) = view_t b
view_body (B.Reply b) = view_r b

-- an even type is a request's, an odd one a reply's
abbrev pub Way : ℕ → Body → Type 0
Way ty (B.Request b) = ty % 2 ≡ 0
Way ty (B.Reply b) = ty % 2 ≡ 0 → ⊥

-- the body of a frame that stands from p to the end of s, by its type
pub record BodyOf (s : List ℕ) (ty p : ℕ) (b : Body) : Type 0 where
  pub is : view_body b ≡ body_from (table_for table_t table_r ty) ty s p
  pub way : Way ty b

-- where the fields end, so far that what is left of the size is the tail
pub record Leaves (size : ℕ) (a : Answer) (used : ℕ) : Type 0 where
  pub is : size - used ≡ tail_in size a

-- a frame of the type k and the tag g, that stands from p to the end of s
pub record ListedAs (s : List ℕ) (k g p : ℕ) (l : Listed) : Type 0 where
  pub at : l.at ≡ p
  pub size : l.size ≡ length s - p
  pub ty : l.ty ≡ k
  pub tag : l.tag.0 ≡ g
  pub body : view_body l.body ≡ body_from (table_for table_t table_r l.ty) l.ty s p
  pub way : Way l.ty l.body
  pub tail : l.tail ≡ tail_in l.size (view_body l.body)
  pub next : l.next ≡ length s

-- what is answered at a position: a frame, none at the end, or a refusal
abbrev pub Answered : Type 0
Answered = Result (Option Listed) Fault

unfoldable pub view_step : ℕ → Answered → Step
view_step p (Ok (Some l)) = frame l.at l.size l.ty l.tag.0 (view_body l.body) l.tail l.next
view_step p (Ok None) = end p
view_step p (Err f) = stop f.0 f.1

abbrev pub StepWay : Answered → Type 0
StepWay (Ok (Some l)) = Way l.ty l.body
StepWay (Ok None) = Unit {0}
StepWay (Err f) = Unit {0}

-- what is answered at a position of a stretch
pub record Asked (s : List ℕ) (p : ℕ) (r : Answered) : Type 0 where
  pub is : view_step p r ≡ frame_at table_t table_r s p
  pub way : StepWay r
