-- What holds of the definitions in specs/Own.antt.
use Rattle.std.specs.Prelude.{ℕ, ◌<◌, ◌≡◌, refl, Bool, true, false, cond, List, eqb, Result, Ok, Err}
use Rattle.std.proofs.Common.{arith, sym, ◌∙◌}
use Rattle.numbers.specs.declared.Refusal.{Refusal}
use Rattle.numbers.specs.declared.Refusal.TheVariants as R
use Rattle.layouts.specs.Tables.{table_t}
use Rattle.pairs.specs.Pairs.{rlerror, pairs}
use Rattle.places.specs.declared.Places.{Places}
use Rattle.places.specs.Reads.{OnlyFull}
use Rattle.places.proofs.ReadLaws.{added_only_full, walked_only_full}
use Rattle.session.specs.declared.Request.{Request}
use Rattle.session.specs.declared.Session.{Session}
use Rattle.session.specs.declared.Stepped.{Stepped}
use Rattle.session.specs.declared.Effect.{Effect}
use Rattle.session.specs.declared.Effect.TheVariants as E
use Rattle.session.specs.declared.Way.{Way}
use Rattle.session.specs.declared.Way.TheVariants as Y
use Rattle.session.specs.declared.What.{What}
use Rattle.session.specs.declared.What.TheVariants as W
use Rattle.session.specs.declared.Event.{Event}
use Rattle.session.specs.Rows.{row_of, has}
use Rattle.session.specs.Rules.{free, none, accepts, refuses, unless, unfit, opened, asked, effect_of, dropped, place_of, reached, held, given_at, given, done, closing, finished, request_of, replied, answered, happened, stepped}
use Rattle.session.proofs.Keys.{has_row, has_key}
use Rattle.session.specs.Sound.{FitFor, FitEffect, Sound}
use Rattle.session.proofs.Sound.{effect_fit, not_free}
use Rattle.session.specs.Own.{Own, OwnOf}

either : (b : Bool) (t u : Stepped) → Own t.answer → Own u.answer → Own (cond b t u).answer
either true t u f g = f
either false t u f g = g

unfit_own : (fids : List ℕ) (r : Request) → Own (unfit fids r)
unfolding unfit
unfit_own fids r = go (has r.new fids) (eqb r.known none) (has r.known fids)
  where
    go : (x y z : Bool) → Own (cond x (Err R.FidInUse) (cond y (Ok tt) (cond z (Ok tt) (Err R.FidUnknown))))
    go true y z = (omega arith, omega arith)
    go false true z = tt
    go false false true = tt
    go false false false = (omega arith, omega arith)

unless_own : (a : Result (Unit {0}) Refusal) (s : Session) (t : Stepped) → Own a → Own t.answer → Own (unless a s t).answer
unless_own (Ok u) s t f g = g
unless_own (Err k) s t f g = f

asked_own : (s : Session) (tag : ℕ) (r : Request) → Own (asked s tag r).answer
unfolding asked
asked_own s tag r =
    let t : Stepped = cond (has free s.tags) (accepts (opened s tag r)) (refuses s R.TableFull) in
    either (has tag s.tags) (refuses s R.TagOpen) (unless (unfit s.fids r) s t) (omega arith, omega arith)
    (unless_own (unfit s.fids r) s t (unfit_own s.fids r) (either (has free s.tags) (accepts (opened s tag r)) (refuses s R.TableFull) tt (omega arith, omega arith)))

given_own : (s : Session) (fid : ℕ) (p : Places) (t : Result ℕ Refusal) → OnlyFull t → Own (given_at s fid p t).answer
given_own s fid p (Err k) f = rw f (omega arith, omega arith)
given_own s fid p (Ok i) f =
    let a : Stepped = accepts (held s (row_of fid s.fids) fid i p) in
    let b : Stepped = accepts (held s (row_of free s.fids) fid i p) in
    let c : Stepped = refuses s R.TableFull in
    either (has fid s.fids) a (cond (has free s.fids) b c) tt (either (has free s.fids) b c tt (omega arith, omega arith))

reached_full : (bs : List ℕ) (s : Session) (w : Way) (r : Request) → FitFor bs r w → OnlyFull (reached bs s w r).at
unfolding reached
reached_full bs s Y.Root r f = added_only_full s.places s.places.used 0 0
reached_full bs s Y.Walk r f = walked_only_full bs r.count (Ok r.start) (record { places = s.places; at = Ok (place_of s r.known) }) f.1 tt
reached_full bs s Y.Child r f = added_only_full s.places (place_of s r.known) r.start r.len
reached_full bs s Y.Copy r f = tt

done_own : (bs : List ℕ) (s : Session) (e : Effect) (r : Request) → FitEffect bs r e → Own (done bs s e r).answer
unfolding done given
done_own bs s E.Nothing r f = tt
done_own bs s E.Empties r f = tt
done_own bs s E.Flushes r f = tt
done_own bs s E.Drops r f = unless_own (unfit s.fids r) s (accepts (dropped s r.to)) (unfit_own s.fids r) tt
done_own bs s (E.Gives w) r f =
    unless_own (unfit s.fids r) s (given s r.to (reached bs s w r)) (unfit_own s.fids r) (given_own s r.to (reached bs s w r).places (reached bs s w r).at (reached_full bs s w r f))

closing_own : (s : Session) (tag : ℕ) (t : Session) (a : Result (Unit {0}) Refusal) → Own a → Own (closing s tag t a).answer
closing_own s tag t (Ok u) f = tt
closing_own s tag t (Err k) f = f

answered_own : {bs : List ℕ} {s : Session} → Sound bs s → (tag ty n : ℕ) → tag < free → Own (answered bs s tag ty n).answer
unfolding answered replied finished
answered_own {bs} {s} d tag ty n l = go (has tag s.tags) refl
  where
    r : Request
    r = request_of s tag

    e : Effect
    e = effect_of r.ty ty (eqb n r.count)

    go : (t : Bool) → has tag s.tags ≡ t
        → Own (cond {A = Stepped} t (cond (pairs table_t rlerror r.ty tag ty tag) (closing s tag (done bs s e r).session (done bs s e r).answer) (refuses s R.NoRequest)) (refuses s R.NoRequest)).answer
    go false h = (omega arith, omega arith)
    go true h =
        let f = d.fair (row_of tag s.tags) (has_row tag s.tags h) (λ z. not_free l (sym (has_key tag s.tags h) ∙ z)) in
        either (pairs table_t rlerror r.ty tag ty tag) (closing s tag (done bs s e r).session (done bs s e r).answer) (refuses s R.NoRequest) (closing_own s tag (done bs s e r).session (done bs s e r).answer (done_own bs s e r (effect_fit f ty (eqb n r.count)).is)) (omega arith, omega arith)

happened_own : {bs : List ℕ} {s : Session} → Sound bs s → (ty tag : ℕ) (w : What) → tag < free → OwnOf w (happened bs s ty tag w).answer
happened_own {bs} {s} d ty tag (W.Asks r) l = asked_own s tag r
happened_own {bs} {s} d ty tag (W.Answers n) l = answered_own d tag ty n l
happened_own {bs} {s} d ty tag (W.Refused k) l = refl

pub own_answers : {bs : List ℕ} {s : Session} → Sound bs s → (e : Event) → e.tag < free → OwnOf e.what (stepped bs s e).answer
unfolding stepped
own_answers d e l = happened_own d e.ty e.tag e.what l
