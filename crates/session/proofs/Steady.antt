-- A frame that is refused changes nothing (F15.8).
use Rattle.std.specs.Prelude.{◌≡◌, refl, ℕ, Bool, true, false, cond, List, get_or, eqb, Result, Ok, Err}
use Rattle.std.proofs.Common.{arith}
use Rattle.numbers.specs.declared.Refusal.{Refusal}
use Rattle.numbers.specs.declared.Refusal.TheVariants as R
use Rattle.layouts.specs.Tables.{table_t}
use Rattle.pairs.specs.Pairs.{rlerror, pairs}
use Rattle.session.specs.declared.Request.{Request}
use Rattle.session.specs.declared.Session.{Session}
use Rattle.session.specs.declared.Stepped.{Stepped}
use Rattle.session.specs.declared.What.{What}
use Rattle.session.specs.declared.What.TheVariants as W
use Rattle.session.specs.declared.Event.{Event}
use Rattle.session.specs.Rows.{row_of, has}
use Rattle.session.specs.Rules.{free, blank, accepts, refuses, unless, unfit, opened, asked, effect_of, closed, done, closing, finished, replied, answered, happened, stepped}

abbrev Steady : Session → Stepped → Type 0
Steady s t = (k : Refusal) → t.answer ≡ Err k → t.session ≡ s

taken : (s t : Session) → Steady s (accepts t)
taken s t k e = absurd (let z : ◌≡◌ {A = ℕ} 0 1 = cc in omega arith)

kept : (s : Session) (k : Refusal) → Steady s (refuses s k)
kept s k j e = refl

either : (s : Session) (b : Bool) {t u : Stepped} → Steady s t → Steady s u → Steady s (cond b t u)
either s true a b = a
either s false a b = b

fitting : (s : Session) (a : Result (Unit {0}) Refusal) {t : Stepped} → Steady s t → Steady s (unless a s t)
fitting s (Ok u) h = h
fitting s (Err k) h = kept s k

asked_steady : (s : Session) (tag : ℕ) (r : Request) → Steady s (asked s tag r)
unfolding asked
asked_steady s tag r =
    either s (has tag s.tags) (kept s R.TagOpen) (fitting s (unfit s.fids r) (either s (has free s.tags) (taken s (opened s tag r)) (kept s R.TableFull)))

closing_steady : (s : Session) (tag : ℕ) (t : Session) (a : Result (Unit {0}) Refusal) → Steady s (closing s tag t a)
closing_steady s tag t (Ok u) = taken s (closed t tag)
closing_steady s tag t (Err k) = kept s k

answered_steady : (bs : List ℕ) (s : Session) (tag ty n : ℕ) → Steady s (answered bs s tag ty n)
unfolding answered replied finished
answered_steady bs s tag ty n =
    let r = get_or s.requests (row_of tag s.tags) blank in
    let d = done bs s (effect_of r.ty ty (eqb n r.count)) r in
    either s (has tag s.tags) (either s (pairs table_t rlerror r.ty tag ty tag) (closing_steady s tag d.session d.answer) (kept s R.NoRequest)) (kept s R.NoRequest)

happened_steady : (bs : List ℕ) (s : Session) (ty tag : ℕ) (w : What) → Steady s (happened bs s ty tag w)
happened_steady bs s ty tag (W.Asks r) = asked_steady s tag r
happened_steady bs s ty tag (W.Answers n) = answered_steady bs s tag ty n
happened_steady bs s ty tag (W.Refused k) = kept s k

pub refused_same : (bs : List ℕ) (s : Session) (e : Event) {k : Refusal} → (stepped bs s e).answer ≡ Err k → (stepped bs s e).session ≡ s
unfolding stepped
refused_same bs s e {k} h = happened_steady bs s e.ty e.tag e.what k h
