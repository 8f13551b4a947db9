-- What holds of the definitions in specs/Sound.antt.
use Rattle.std.specs.Prelude.{ℕ, ◌<◌, ◌≡◌, Bool, cond, List, eqb, Result, Ok, Err}
use Rattle.std.proofs.Common.{arith, ◌∙◌, inl, inr, length-set, get_or-set_other, eqb-true}
use Rattle.std.proofs.Math.Path.{refl, sym}
use Rattle.std.proofs.Math.Bool.{true, false}
use Rattle.std.proofs.Math.ListN.{get_or, set}
use Rattle.std.proofs.lemmas.List.{length-replicate, get_or-replicate}
use Rattle.std.proofs.Math.Seq.{get_or-set_same}
use Rattle.std.proofs.lemmas.Bool.{eqb-false}
use Rattle.numbers.specs.Numbers.{Bytes}
use Rattle.numbers.specs.declared.Refusal.{Refusal}
use Rattle.numbers.specs.declared.Refusal.TheVariants as R
use Rattle.layouts.specs.Tables.{table_t}
use Rattle.pairs.specs.Pairs.{rlerror, pairs}
use Rattle.places.specs.declared.Reached.{Reached}
use Rattle.places.specs.Sound.{Inside, Grown}
use Rattle.places.proofs.Sound.{unused_sound, kept_same, added_grown, walked_grown}
use Rattle.places.specs.Paths.{Named}
use Rattle.places.proofs.Names.{added_named, walked_named}
use Rattle.session.specs.declared.Request.{Request}
use Rattle.session.specs.declared.Session.{Session}
use Rattle.session.specs.declared.Stepped.{Stepped}
use Rattle.session.specs.declared.Effect.{Effect}
use Rattle.session.specs.declared.Effect.TheVariants as E
use Rattle.session.specs.declared.Way.{Way}
use Rattle.session.specs.declared.Way.TheVariants as Y
use Rattle.session.specs.declared.What.{What}
use Rattle.session.specs.declared.What.TheVariants as W
use Rattle.session.specs.declared.Event.{Event}
use Rattle.session.specs.Rows.{row_of, has}
use Rattle.session.specs.Rules.{free, none, blank, fresh, accepts, refuses, unless, unfit, opened, asked, on_clunk, effect_of, closed, dropped, place_of, reached, held, given_at, given, done, closing, finished, replied, answered, happened, stepped}
use Rattle.session.proofs.Keys.{has_row, has_key, has_not, free_distinct, set_distinct}
use Rattle.session.specs.Sound.{Fair, FairEvent, Sound, FitFor, FitEffect, Fitting}

pub fresh_sound : (bs : List ℕ) → Sound bs fresh
fresh_sound bs = record {
  tags = free_distinct;
  fids = free_distinct;
  asks = length-replicate {A = Request} 64 blank;
  ats = length-replicate {A = ℕ} 64 0;
  fair = λ i h f. absurd (f (get_or-replicate 64 i free 0 h));
  inside = λ i h f. absurd (f (get_or-replicate 64 i free 0 h));
  places = unused_sound;
  names = λ i h. absurd (nothing i h);
}
  where
    nothing : (i : ℕ) → i < 0 → ⊥
    nothing i h = omega arith

pub not_free : {k : ℕ} → k < free → k ≡ free → ⊥
not_free l e = omega arith

-- ---- rows that are set

pub differ : (i j : ℕ) {X : Type 0} → (i ≡ j → X) → ((i ≡ j → ⊥) → X) → X
differ i j {X} f g = go (eqb i j) refl
  where
    go : (b : Bool) → eqb i j ≡ b → X
    go true e = f (eqb-true i j e)
    go false e = g (eqb-false i j e)

module _ {bs : List ℕ} {s : Session} (d : Sound bs s) where
  opened_sound : (tag : ℕ) (r : Request) → Fair bs r → has tag s.tags ≡ false → has free s.tags ≡ true → Sound bs (opened s tag r)
  opened_sound tag r f n h =
      let i = row_of free s.tags in
      let l : row_of free s.tags < 64 = has_row free s.tags h in
      let m = d.asks in
      let o = d.tags.rows in
      record {
        tags = set_distinct d.tags (row_of free s.tags) tag l (λ j a b e. absurd (has_not tag s.tags n j a e));
        fids = d.fids;
        asks = length-set s.requests (row_of free s.tags) r ∙ d.asks;
        ats = d.ats;
        fair = λ j a b. differ j (row_of free s.tags)
            (λ e. rw (e, get_or-set_same s.requests (row_of free s.tags) r blank (omega arith)) f)
            (λ e. rw (get_or-set_other s.requests (row_of free s.tags) j r blank e) (d.fair j a (λ z. b (get_or-set_other s.tags (row_of free s.tags) j tag 0 e ∙ z))));
        inside = d.inside;
        places = d.places;
        names = d.names;
      }

  pub closed_sound : (tag : ℕ) → Sound bs (closed s tag)
  unfolding closed
  closed_sound tag = go (has tag s.tags) refl
    where
      go : (b : Bool) → has tag s.tags ≡ b → Sound bs (cond b (record { tags = set s.tags (row_of tag s.tags) free; requests = s.requests; fids = s.fids; at = s.at; places = s.places }) s)
      go false h = d
      go true h =
          let l = has_row tag s.tags h in
          let o = d.tags.rows in
          record {
            tags = set_distinct d.tags (row_of tag s.tags) free l (λ j a b e. refl);
            fids = d.fids;
            asks = d.asks;
            ats = d.ats;
            fair = λ j a b. differ j (row_of tag s.tags)
                (λ e. absurd (b (rw (e, get_or-set_same s.tags (row_of tag s.tags) free 0 (omega arith)))))
                (λ e. d.fair j a (λ z. b (get_or-set_other s.tags (row_of tag s.tags) j free 0 e ∙ z)));
            inside = d.inside;
            places = d.places;
            names = d.names;
          }

  dropped_sound : (fid : ℕ) → Sound bs (dropped s fid)
  unfolding dropped
  dropped_sound fid = go (has fid s.fids) refl
    where
      go : (b : Bool) → has fid s.fids ≡ b → Sound bs (cond b (record { tags = s.tags; requests = s.requests; fids = set s.fids (row_of fid s.fids) free; at = s.at; places = s.places }) s)
      go false h = d
      go true h =
          let l = has_row fid s.fids h in
          let o = d.fids.rows in
          record {
            tags = d.tags;
            fids = set_distinct d.fids (row_of fid s.fids) free l (λ j a b e. refl);
            asks = d.asks;
            ats = d.ats;
            fair = d.fair;
            inside = λ j a b. differ j (row_of fid s.fids)
                (λ e. absurd (b (rw (e, get_or-set_same s.fids (row_of fid s.fids) free 0 (omega arith)))))
                (λ e. d.inside j a (λ z. b (get_or-set_other s.fids (row_of fid s.fids) j free 0 e ∙ z)));
            places = d.places;
            names = d.names;
          }

  -- ---- a fid that is given a place

  module _ {r : Reached} (g : Grown s.places r) (n : Named bs r.places) where
    held_sound : (row fid i : ℕ) → row < 64 → r.at ≡ Ok i → ((j : ℕ) → j < 64 → (j ≡ row → ⊥) → get_or s.fids j 0 ≡ fid → fid ≡ free) → Sound bs (held s row fid i r.places)
    held_sound row fid i l e f =
        let q : Inside r.places (Ok i) = rw e at g.inside in
        let k = g.kept.more in
        let o = d.ats in
        record {
          tags = d.tags;
          fids = set_distinct d.fids row fid l f;
          asks = d.asks;
          ats = length-set s.at row i ∙ d.ats;
          fair = d.fair;
          inside = λ j a b. differ j row
              (λ z. rw (z, get_or-set_same s.at row i 0 (omega arith)) q)
              (λ z. let w = d.inside j a (λ y. b (get_or-set_other s.fids row j fid 0 z ∙ y)) in rw (get_or-set_other s.at row j i 0 z) (omega arith));
          places = g.sound;
          names = n;
        }

    given_sound : (fid : ℕ) → Sound bs (given s fid r).session
    unfolding given
    given_sound fid = go r.at refl
      where
        row : (i : ℕ) → r.at ≡ Ok i → (b c : Bool) → has fid s.fids ≡ b → has free s.fids ≡ c
            → Sound bs (cond {A = Stepped} b (accepts (held s (row_of fid s.fids) fid i r.places)) (cond c (accepts (held s (row_of free s.fids) fid i r.places)) (refuses s R.TableFull))).session
        row i e true c h k =
            held_sound (row_of fid s.fids) fid i (has_row fid s.fids h) e
            (λ j a b f. differ fid free (λ z. z) (λ z. absurd (b (d.fids.one j (row_of fid s.fids) a (has_row fid s.fids h) (f ∙ sym (has_key fid s.fids h)) (λ y. z (sym f ∙ y))))))
        row i e false true h k = held_sound (row_of free s.fids) fid i (has_row free s.fids k) e (λ j a b f. absurd (has_not fid s.fids h j a f))
        row i e false false h k = d

        go : (t : Result ℕ Refusal) → r.at ≡ t → Sound bs (given_at s fid r.places t).session
        go (Err k) e = d
        go (Ok i) e = row i e (has fid s.fids) (has free s.fids) refl refl

  -- ---- the place that is given

  pub place_inside : (fid : ℕ) → has fid s.fids ≡ true → fid < free → place_of s fid < s.places.used
  unfolding place_of
  place_inside fid h l = rw h (d.inside (row_of fid s.fids) (has_row fid s.fids h) (λ z. let k = has_key fid s.fids h in not_free l (sym k ∙ z)))

-- an accepted request's fid is known, if it asks for one
fit_known : (fids : List ℕ) (r : Request) → unfit fids r ≡ Ok tt → r.known < free → has r.known fids ≡ true
unfolding unfit
fit_known fids r e l = go (has r.new fids) (eqb r.known none) (has r.known fids) refl e
  where
    go : (x y z : Bool) → eqb r.known none ≡ y → ◌≡◌ {A = Result (Unit {0}) Refusal} (cond x (Err R.FidInUse) (cond y (Ok tt) (cond z (Ok tt) (Err R.FidUnknown)))) (Ok tt) → z ≡ true
    go true y z h f = absurd (let q : ◌≡◌ {A = ℕ} 0 1 = cc in omega arith)
    go false true z h f = absurd (let q = eqb-true r.known none h in omega arith)
    go false false true h f = refl
    go false false false h f = absurd (let q : ◌≡◌ {A = ℕ} 0 1 = cc in omega arith)

module _ {bs : List ℕ} (b : Bytes bs) {s : Session} (d : Sound bs s) (r : Request) where
  stays : r.known < free → has r.known s.fids ≡ true → Grown s.places (record { places = s.places; at = Ok (place_of s r.known) })
  stays l h = record { sound = d.places; inside = place_inside d r.known h l; kept = kept_same s.places }

  reached_grown : (w : Way) → FitFor bs r w → (r.known < free → has r.known s.fids ≡ true) → Grown s.places (reached bs s w r) × Named bs (reached bs s w r).places
  unfolding reached
  reached_grown Y.Root f k = (added_grown d.places s.places.used 0 0 (omega arith), added_named bs d.places d.names s.places.used 0 0 (omega arith))
  reached_grown Y.Walk f k =
      (walked_grown bs r.count (Ok r.start) (stays f.0 (k f.0)), walked_named bs b r.count (Ok r.start) (stays f.0 (k f.0)) d.names)
  reached_grown Y.Child f k =
      let i = place_inside d r.known (k f.0) f.0 in
      (added_grown d.places (place_of s r.known) r.start r.len (omega arith), added_named bs d.places d.names (place_of s r.known) r.start r.len f.1)
  reached_grown Y.Copy f k = (stays f (k f), d.names)

  -- ---- a reply

  unless_sound : (a : Result (Unit {0}) Refusal) (t : Stepped) → (a ≡ Ok tt → Sound bs t.session) → Sound bs (unless a s t).session
  unless_sound (Ok u) t f = f refl
  unless_sound (Err k) t f = d

  done_sound : (e : Effect) → FitEffect bs r e → Sound bs (done bs s e r).session
  unfolding done
  done_sound E.Nothing f = d
  done_sound E.Empties f = fresh_sound bs
  done_sound E.Flushes f = closed_sound d r.old
  done_sound E.Drops f = unless_sound (unfit s.fids r) (accepts (dropped s r.to)) (λ e. dropped_sound d r.to)
  done_sound (E.Gives w) f =
      unless_sound (unfit s.fids r) (given s r.to (reached bs s w r))
      (λ e. let g = reached_grown w f (λ l. fit_known s.fids r e l) in given_sound d g.0 g.1 r.to)

fit_cond : {bs : List ℕ} {r : Request} {x y : Effect} (t : Bool) → (t ≡ true → Fitting bs r x) → (t ≡ false → Fitting bs r y) → Fitting bs r (cond t x y)
fit_cond true f g = f refl
fit_cond false f g = g refl

module _ {bs : List ℕ} {r : Request} (f : Fair bs r) where
  clunk_fit : Fitting bs r (on_clunk r.ty E.Nothing)
  clunk_fit = fit_cond (eqb r.ty 120) (λ e. record { is = tt }) (λ e. fit_cond (eqb r.ty 122) (λ e. record { is = tt }) (λ e. record { is = tt }))

  pub effect_fit : (reply : ℕ) (whole : Bool) → Fitting bs r (effect_of r.ty reply whole)
  unfolding effect_of
  effect_fit reply whole =
      fit_cond (eqb reply rlerror) (λ e. clunk_fit)
      (λ e. fit_cond (eqb r.ty 100) (λ e. record { is = tt })
      (λ e. fit_cond (eqb r.ty 108) (λ e. record { is = tt })
      (λ e. fit_cond (eqb r.ty 102) (λ e. record { is = tt })
      (λ e. fit_cond (eqb r.ty 104) (λ e. record { is = tt })
      (λ e. fit_cond (eqb r.ty 110) (λ e. fit_cond whole (λ w. record { is = (f.begins (inl (eqb-true r.ty 110 e)), f.reads (eqb-true r.ty 110 e)) }) (λ w. record { is = tt }))
      (λ e. fit_cond (eqb r.ty 14) (λ e. record { is = (f.begins (inr (inl (eqb-true r.ty 14 e))), f.lies (eqb-true r.ty 14 e)) })
      (λ e. fit_cond (eqb r.ty 30) (λ e. record { is = f.begins (inr (inr (eqb-true r.ty 30 e))) }) (λ e. clunk_fit))))))))

-- ---- a frame, and any trace

module _ {bs : List ℕ} (b : Bytes bs) {s : Session} (d : Sound bs s) where
  asked_sound : (tag : ℕ) (r : Request) → Fair bs r → Sound bs (asked s tag r).session
  unfolding asked
  asked_sound tag r f = go (has tag s.tags) (has free s.tags) refl refl
    where
      go : (t u : Bool) → has tag s.tags ≡ t → has free s.tags ≡ u
          → Sound bs (cond {A = Stepped} t (refuses s R.TagOpen) (unless (unfit s.fids r) s (cond u (accepts (opened s tag r)) (refuses s R.TableFull)))).session
      go true u x y = d
      go false true x y = unless_sound b d r (unfit s.fids r) (accepts (opened s tag r)) (λ e. opened_sound d tag r f x y)
      go false false x y = unless_sound b d r (unfit s.fids r) (refuses s R.TableFull) (λ e. d)

  finished_sound : (tag : ℕ) (t : Stepped) → Sound bs t.session → Sound bs (finished s tag t).session
  unfolding finished
  finished_sound tag t e = go t.answer
    where
      go : (a : Result (Unit {0}) Refusal) → Sound bs (closing s tag t.session a).session
      go (Ok u) = closed_sound e tag
      go (Err k) = d

  answered_sound : (tag ty n : ℕ) → tag < free → Sound bs (answered bs s tag ty n).session
  unfolding answered replied
  answered_sound tag ty n l = go (has tag s.tags) refl
    where
      r : Request
      r = get_or s.requests (row_of tag s.tags) blank

      known : (t : Bool) → Fair bs r → Sound bs (cond {A = Stepped} t (finished s tag (done bs s (effect_of r.ty ty (eqb n r.count)) r)) (refuses s R.NoRequest)).session
      known true f = finished_sound tag (done bs s (effect_of r.ty ty (eqb n r.count)) r) (done_sound b d r (effect_of r.ty ty (eqb n r.count)) (effect_fit f ty (eqb n r.count)).is)
      known false f = d

      go : (t : Bool) → has tag s.tags ≡ t → Sound bs (cond {A = Stepped} t (cond (pairs table_t rlerror r.ty tag ty tag) (finished s tag (done bs s (effect_of r.ty ty (eqb n r.count)) r)) (refuses s R.NoRequest)) (refuses s R.NoRequest)).session
      go false e = d
      go true e = known (pairs table_t rlerror r.ty tag ty tag) (d.fair (row_of tag s.tags) (has_row tag s.tags e) (λ z. not_free l (sym (has_key tag s.tags e) ∙ z)))

  happened_sound : (ty tag : ℕ) (w : What) → tag < free → FairEvent bs w → Sound bs (happened bs s ty tag w).session
  happened_sound ty tag (W.Asks r) l f = asked_sound tag r f
  happened_sound ty tag (W.Answers n) l f = answered_sound tag ty n l
  happened_sound ty tag (W.Refused k) l f = d

  pub step_sound : (e : Event) → e.tag < free → FairEvent bs e.what → Sound bs (stepped bs s e).session
  unfolding stepped
  step_sound e l f = happened_sound e.ty e.tag e.what l f
