-- What Rust is told of a frame that a session follows, and of a path and a trailer that are written (F15.2, F15.8, F15.10, F15.12).
use Rattle.numbers.specs.Place.{Place}
use Rattle.std.specs.Prelude.{ℕ, ◌≡◌, true, false, List, Result, Ok, Err, Some, None}
use Rattle.numbers.specs.declared.Fault.{Fault}
use Rattle.std.proofs.Common.{sym, ◌∙◌}
use Rattle.std.proofs.Math.Path.{ap}
use Rattle.numbers.proofs.PlaceLaws.{one_answer, put_one}
use Rattle.numbers.specs.Refusals.{number_of}
use Rattle.numbers.specs.declared.Refusal.{Refusal}
use Rattle.layouts.specs.Tables.{table_t, table_r}
use Rattle.layouts.specs.Bodies.{Answer}
use Rattle.framing.specs.Stretch.{Step, frame, end, stop, frame_at}
use Rattle.stretch.specs.Views.{view_body, Answered, view_step, Asked}
use Rattle.stretch.specs.declared.Listed.{Listed}
use Rattle.sealing.specs.Trailers.{TrailerPut}
use Rattle.session.specs.Rules.{none, stepped, FidPath}
use Rattle.session.specs.About.{fid_of}
use Rattle.session.specs.declared.Session.{Session}
use Rattle.session.specs.declared.Event.{Event}
use Rattle.session.specs.declared.Stepped.{Stepped}
use Rattle.events.specs.Events.{event_of}
use Rattle.exports.specs.Answers.{ended}
use Rattle.exports.specs.declared.Outcome.{Outcome}
use Rattle.session_exports.specs.declared.Told.{Told}
use Rattle.session_exports.specs.declared.Followed.{Followed}

-- ---- a frame that is followed

abbrev pub told_of : ℕ → ℕ → ℕ → ℕ → ℕ → Result (Unit {0}) Refusal → Told
told_of ty tag next tail fid (Ok u) = record { refusal = 0; ty = ty; tag = tag; held = true; place = next; tail = tail; fid = fid }
told_of ty tag next tail fid (Err k) = record { refusal = number_of k; ty = ty; tag = tag; held = true; place = next; tail = 0; fid = none }

abbrev pub passed : ℕ → ℕ → Told
passed refusal p = record { refusal = refusal; ty = 0; tag = 0; held = false; place = p; tail = 0; fid = none }

-- by the session's step (F15.8); bs is the stretch
unfoldable pub followed_by : List ℕ → Session → ℕ → ℕ → Answer → ℕ → ℕ → Followed
followed_by bs s ty tag a tail next =
    record { session = (stepped bs s (event_of ty tag a)).session; told = told_of ty tag next tail (fid_of s (event_of ty tag a)) (stepped bs s (event_of ty tag a)).answer }

unfoldable pub followed_at : List ℕ → Session → Step → Followed
followed_at bs s (frame at size ty tag a tail next) = followed_by bs s ty tag a tail next
followed_at bs s (end p) = record { session = s; told = passed 0 p }
followed_at bs s (stop k p) = record { session = s; told = passed (number_of k) p }

-- ---- what is written, and how it ended

pub record PathMade (bs : List ℕ) (s : Session) (fid : ℕ) (o o' : List ℕ) (r : Outcome) : Type 0 where
  pub place : Place
  pub is : FidPath bs s fid o o' place
  pub answer : r ≡ ended place

pub record TrailerMade (bs o o' : List ℕ) (r : Outcome) : Type 0 where
  pub place : Place
  pub is : TrailerPut bs o o' place
  pub answer : r ≡ ended place

-- ---- the ways through a step

module _ (ty tag next tail fid : ℕ) {a : Result (Unit {0}) Refusal} where
  pub told_accepted : {u : Unit {0}} → a ≡ Ok u → told_of ty tag next tail fid (Ok u) ≡ told_of ty tag next tail fid a
  told_accepted e = rw e

  pub told_refused : {k : Refusal} {n : ℕ} → a ≡ Err k → n ≡ number_of k
      → ◌≡◌ {A = Told} (record { refusal = n; ty = ty; tag = tag; held = true; place = next; tail = 0; fid = none }) (told_of ty tag next tail fid a)
  told_refused e f = rw (e, f)

pub followed_by_lem : (bs : List ℕ) (s : Session) (ty tag tail next : ℕ) (a : Answer) {e : Event} {fid : ℕ} {d : Stepped} {t : Told} → e ≡ event_of ty tag a → fid ≡ fid_of s e → d ≡ stepped bs s e
    → t ≡ told_of ty tag next tail fid d.answer → ◌≡◌ {A = Followed} (record { session = d.session; told = t }) (followed_by bs s ty tag a tail next)
unfolding followed_by
followed_by_lem bs s ty tag tail next a e f g h = rw (h, f, g, e)

module _ (bs : List ℕ) (s : Session) (p : ℕ) {r : Answered} (a : Asked bs p r) where
  pub followed_frame : {l : Listed} {f : Followed} → r ≡ Ok (Some l) → f ≡ followed_by bs s l.ty l.tag.0 (view_body l.body) l.tail l.next → f ≡ followed_at bs s (frame_at table_t table_r bs p)
  unfolding view_step followed_at
  followed_frame e f = f ∙ ap (followed_at bs s) (sym (ap (view_step p) e) ∙ a.is)

  pub followed_end : {t : Told} → r ≡ Ok None → t ≡ passed 0 p → ◌≡◌ {A = Followed} (record { session = s; told = t }) (followed_at bs s (frame_at table_t table_r bs p))
  unfolding view_step followed_at
  followed_end e f = ap (λ (x : Told). record { session = s; told = x }) f ∙ ap (followed_at bs s) (sym (ap (view_step p) e) ∙ a.is)

  pub followed_stop : {x : Fault} {n : ℕ} {t : Told} → r ≡ Err x → n ≡ number_of x.0 → t ≡ passed n x.1
      → ◌≡◌ {A = Followed} (record { session = s; told = t }) (followed_at bs s (frame_at table_t table_r bs p))
  unfolding view_step followed_at
  followed_stop {x = x} e g f = ap (λ (x : Told). record { session = s; told = x }) (f ∙ ap (λ m. passed m x.1) g) ∙ ap (followed_at bs s) (sym (ap (view_step p) e) ∙ a.is)

-- ---- any two answers that a promise allows are equal

pub path_one : {bs o a b : List ℕ} {s : Session} {fid : ℕ} {r q : Outcome} → PathMade bs s fid o a r → PathMade bs s fid o b q → (a ≡ b) × (r ≡ q)
path_one x y = let e = put_one x.is y.is in (e.0, x.answer ∙ one_answer (ap ended e.1) y.answer)

pub trailer_one : {bs o a b : List ℕ} {r q : Outcome} → TrailerMade bs o a r → TrailerMade bs o b q → (a ≡ b) × (r ≡ q)
trailer_one x y = let e = put_one x.is y.is in (e.0, x.answer ∙ one_answer (ap ended e.1) y.answer)
