-- For some ways through the code: what the definition says there.
use Rattle.std.specs.Prelude.{Result, Err}
use Prim.Native.Nat.{ℕ, ◌<◌, ◌≤◌}
use mathlib.Core.Path.{◌≡◌, refl, sym, ap, ◌∙◌}
use mathlib.Core.Bool.{Bool, true, false, cond}
use mathlib.Core.List.{List}
use lib.ListN.{get_or, set}
use lib.Dec.{eqb}
use borrow.Author.Tests.{lt-ltb, le-ltb}
use Rattle.numbers.proofs.PlaceLaws.{put_stays}
use Rattle.numbers.specs.declared.Refusal.{Refusal}
use Rattle.numbers.specs.declared.Refusal.TheVariants as R
use Rattle.layouts.specs.Tables.{table_t}
use Rattle.pairs.specs.Pairs.{rlerror, pairs}
use Rattle.session.specs.declared.Request.{Request}
use Rattle.session.specs.declared.Session.{Session}
use Rattle.session.specs.declared.Stepped.{Stepped}
use Rattle.session.specs.declared.Effect.{Effect}
use Rattle.session.specs.declared.Effect.TheVariants as E
use Rattle.session.specs.declared.Way.{Way}
use Rattle.session.specs.Rows.{row_of}
use Rattle.session.specs.Rules.{free, blank, fresh, accepts, refuses, unless, unfit, asked, effect_of, nothing_else, only_closes, closed, reached, given, done, finished, replied, answered, FidPath}

-- ---- a request

pub unfit_used : (fids : List ℕ) (r : Request) {i : ℕ} → i ≡ row_of r.new fids → i < 64 → Err R.FidInUse ≡ unfit fids r
unfolding unfit
unfit_used fids r {i} e h = rw (← e, lt-ltb i 64 h)

module _ (s : Session) (tag : ℕ) (r : Request) {i : ℕ} (e : i ≡ row_of tag s.tags) (h : 64 ≤ i) {a : Result (Unit {0}) Refusal} (f : a ≡ unfit s.fids r) where
  pub asked_unfit : {k : Refusal} → a ≡ Err k → ◌≡◌ {A = Stepped} (record { session = s; answer = a }) (asked s tag r)
  unfolding asked
  asked_unfit g = rw (← e, le-ltb i 64 h, ← f, g)

-- ---- what a reply does

module _ (bs : List ℕ) (s : Session) {e : Effect} (r : Request) {t : Stepped} where
  pub done_empties : {u : Session} → e ≡ E.Empties → u ≡ fresh → t ≡ accepts u → t ≡ done bs s e r
  unfolding done
  done_empties h g f = rw h (f ∙ ap accepts g)

  pub done_gives : {w : Way} → e ≡ E.Gives w → t ≡ unless (unfit s.fids r) s (given s r.to (reached bs s w r)) → t ≡ done bs s e r
  unfolding done
  done_gives h f = rw h f

-- ---- a reply

module _ (s : Session) (tag : ℕ) (d : Stepped) {t : Stepped} where
  pub finish_refused : {k : Refusal} → d.answer ≡ Err k → t ≡ refuses s k → t ≡ finished s tag d
  unfolding finished
  finish_refused h f = rw h f

-- where it does nothing but close its tag

no : false ≡ true → ⊥
no e = cc

closes_when : (b : Bool) (e : Effect) → cond b (nothing_else e) false ≡ true → (b ≡ true) × (e ≡ E.Nothing)
closes_when true E.Nothing h = (refl, refl)
closes_when true E.Empties h = absurd (no h)
closes_when true E.Flushes h = absurd (no h)
closes_when true E.Drops h = absurd (no h)
closes_when true (E.Gives w) h = absurd (no h)
closes_when false e h = absurd (no h)

only_when : (asked tag ty : ℕ) (whole : Bool) → only_closes asked tag ty whole ≡ true → (pairs table_t rlerror asked tag ty tag ≡ true) × (effect_of asked ty whole ≡ E.Nothing)
unfolding only_closes
only_when asked tag ty whole h = closes_when (pairs table_t rlerror asked tag ty tag) (effect_of asked ty whole) h

module _ (bs : List ℕ) (s : Session) (tag ty n : ℕ) {i : ℕ} (e : i ≡ row_of tag s.tags) (h : i < 64) where
  closes_tag : ◌≡◌ {A = Session} (record { tags = set s.tags i free; requests = s.requests; fids = s.fids; at = s.at; places = s.places }) (closed s tag)
  unfolding closed
  closes_tag = rw (← e, lt-ltb i 64 h)

  pub reply_closes : {b : Bool} {t : Stepped} (r : Request) → r ≡ get_or s.requests i blank → b ≡ only_closes r.ty tag ty (eqb n r.count) → b ≡ true
      → t ≡ accepts (record { tags = set s.tags i free; requests = s.requests; fids = s.fids; at = s.at; places = s.places }) → t ≡ answered bs s tag ty n
  unfolding answered replied done finished
  reply_closes {t = t} r q g k f =
      let y = only_when r.ty tag ty (eqb n r.count) (sym g ∙ k) in
      let z : t ≡ replied bs s tag ty n r = rw (y.0, y.1) (f ∙ ap accepts closes_tag) in
      rw (← e, lt-ltb i 64 h, ← q) z

-- ---- a path

pub path_unknown : (bs : List ℕ) (s : Session) (fid : ℕ) (o : List ℕ) → 64 ≤ row_of fid s.fids → FidPath bs s fid o o (Err (R.FidUnknown, 0))
path_unknown bs s fid o h = rw (le-ltb (row_of fid s.fids) 64 h) (put_stays refl)
