-- What holds of the definitions in specs/Words.antt.
use Rattle.std.specs.Prelude.{ℕ, ◌<◌, ◌≡◌, Bool, List, ◌⊎◌, Ok, Err}
use Rattle.std.proofs.Common.{arith, ◌∙◌, inl, inr, ⊎_elim, get_or-set_same}
use Rattle.std.proofs.Math.Path.{refl, sym, ap}
use Rattle.std.proofs.Math.Bool.{true, false, cond}
use Rattle.std.proofs.Math.ListN.{get_or, set}
use Rattle.std.proofs.Math.Seq.{get_or-set_other}
use borrow.Author.Tests.{lt-ltb}
use Rattle.numbers.specs.declared.Refusal.{Refusal}
use Rattle.numbers.specs.declared.Refusal.TheVariants as R
use Rattle.places.specs.declared.Reached.{Reached}
use Rattle.places.specs.Places.{path}
use Rattle.places.specs.Sound.{Grown}
use Rattle.places.proofs.Paths.{path_kept}
use Rattle.session.specs.declared.Request.{Request}
use Rattle.session.specs.declared.Session.{Session}
use Rattle.session.specs.declared.Effect.TheVariants as E
use Rattle.session.specs.Rows.{row_of, has}
use Rattle.session.specs.Rules.{free, blank, fresh, accepts, refuses, unfit, opened, asked, closed, dropped, place_of, held, given, done}
use Rattle.session.specs.Keys.{Distinct}
use Rattle.session.proofs.Keys.{has_row, has_key, has_not, none_has, row_other, row_new}
use Rattle.session.specs.Sound.{Sound}
use Rattle.session.proofs.Sound.{not_free, differ, place_inside}
use Rattle.session.specs.Words.{Opens, Gives}

-- ---- a request: 20, then 22 or 23, then 24, and else it is opened

module _ (s : Session) (tag : ℕ) (r : Request) where
  pub asked_tag_open : has tag s.tags ≡ true → asked s tag r ≡ refuses s R.TagOpen
  unfolding asked
  asked_tag_open h = rw h

  module _ (h : has tag s.tags ≡ false) where
    pub asked_not_fit : {k : Refusal} → unfit s.fids r ≡ Err k → asked s tag r ≡ refuses s k
    unfolding asked
    asked_not_fit f = rw (h, f)

    module _ (f : unfit s.fids r ≡ Ok tt) where
      -- exactly where no row is free
      pub asked_no_row : has free s.tags ≡ false → asked s tag r ≡ refuses s R.TableFull
      unfolding asked
      asked_no_row g = rw (h, f, g)

      pub asked_a_row : has free s.tags ≡ true → asked s tag r ≡ accepts (opened s tag r)
      unfolding asked
      asked_a_row g = rw (h, f, g)

module _ {bs : List ℕ} {s : Session} (d : Sound bs s) where
  pub opens : (tag : ℕ) (r : Request) → has tag s.tags ≡ false → has free s.tags ≡ true → Opens s tag r (opened s tag r)
  opens tag r n h = record {
    is_open = lt_has;
    request = rw new (get_or-set_same s.requests (row_of free s.tags) r blank (let m = d.asks in let q = has_row free s.tags h in omega arith));
    others = λ k a b. keeps k a b;
    other_requests = λ k a b c. rw (keeps k a b) (get_or-set_other s.requests (row_of free s.tags) (row_of k s.tags) r blank (apart k b c));
    fids = refl;
    at = refl;
    places = refl;
  }
    where
      new : row_of tag (set s.tags (row_of free s.tags) tag) ≡ row_of free s.tags
      new = row_new s.tags (row_of free s.tags) tag (has_row free s.tags h) d.tags.rows (λ j a b e. has_not tag s.tags n j a e)

      lt_has : has tag (set s.tags (row_of free s.tags) tag) ≡ true
      lt_has = rw (row_new s.tags (row_of free s.tags) tag (has_row free s.tags h) d.tags.rows (λ j a b e. has_not tag s.tags n j a e)) h

      keeps : (k : ℕ) → (k ≡ tag → ⊥) → (k ≡ free → ⊥) → row_of k (set s.tags (row_of free s.tags) tag) ≡ row_of k s.tags
      keeps k a b =
          row_other k s.tags (row_of free s.tags) tag (λ e. b (sym e ∙ has_key free s.tags h)) (λ e. a (sym e)) (let m = d.tags.rows in let q = has_row free s.tags h in omega arith)

      apart : (k : ℕ) → (k ≡ free → ⊥) → has k s.tags ≡ true → row_of k s.tags ≡ row_of free s.tags → ⊥
      apart k b c e = b (sym (has_key k s.tags c) ∙ ap (λ (i : ℕ). get_or s.tags i 0) e ∙ has_key free s.tags h)

-- ---- the tag is closed, the fid dropped; all else is as it was

gone : {xs : List ℕ} → Distinct xs → (k : ℕ) → k < free → has k xs ≡ true → has k (set xs (row_of k xs) free) ≡ false
gone {xs} d k l h =
    none_has k (set xs (row_of k xs) free) (λ j a e. differ j (row_of k xs)
    (λ z. not_free l (sym e ∙ ap (λ (i : ℕ). get_or (set xs (row_of k xs) free) i 0) z ∙ get_or-set_same xs (row_of k xs) free 0 (let m = d.rows in let q = has_row k xs h in omega arith)))
    (λ z. let f : get_or xs j 0 ≡ k = sym (get_or-set_other xs (row_of k xs) j free 0 z) ∙ e in z (d.one j (row_of k xs) a (has_row k xs h) (f ∙ sym (has_key k xs h)) (λ y. not_free l (sym f ∙ y)))))

stay : {xs : List ℕ} → Distinct xs → (k j : ℕ) → has k xs ≡ true → (j ≡ k → ⊥) → (j ≡ free → ⊥) → row_of j (set xs (row_of k xs) free) ≡ row_of j xs
stay {xs} d k j h a b = row_other j xs (row_of k xs) free (λ e. a (sym e ∙ has_key k xs h)) (λ e. b (sym e)) (let m = d.rows in let q = has_row k xs h in omega arith)

module _ {bs : List ℕ} {s : Session} (d : Sound bs s) (k : ℕ) where
  pub closes : k < free → has k (closed s k).tags ≡ false
  unfolding closed
  closes l = go (has k s.tags) refl
    where
      go : (b : Bool) → has k s.tags ≡ b → has k (cond {A = Session} b (record { tags = set s.tags (row_of k s.tags) free; requests = s.requests; fids = s.fids; at = s.at; places = s.places }) s).tags ≡ false
      go true h = gone d.tags k l h
      go false h = h

  pub closes_no_other : (j : ℕ) → (j ≡ k → ⊥) → (j ≡ free → ⊥) → row_of j (closed s k).tags ≡ row_of j s.tags
  unfolding closed
  closes_no_other j a b = go (has k s.tags) refl
    where
      go : (b' : Bool) → has k s.tags ≡ b' → row_of j (cond {A = Session} b' (record { tags = set s.tags (row_of k s.tags) free; requests = s.requests; fids = s.fids; at = s.at; places = s.places }) s).tags ≡ row_of j s.tags
      go true h = stay d.tags k j h a b
      go false h = refl

  pub drops : k < free → has k (dropped s k).fids ≡ false
  unfolding dropped
  drops l = go (has k s.fids) refl
    where
      go : (b : Bool) → has k s.fids ≡ b → has k (cond {A = Session} b (record { tags = s.tags; requests = s.requests; fids = set s.fids (row_of k s.fids) free; at = s.at; places = s.places }) s).fids ≡ false
      go true h = gone d.fids k l h
      go false h = h

  pub drops_no_other : (j : ℕ) → (j ≡ k → ⊥) → (j ≡ free → ⊥) → place_of (dropped s k) j ≡ place_of s j
  unfolding dropped place_of
  drops_no_other j a b = go (has k s.fids) refl
    where
      go : (b' : Bool) → has k s.fids ≡ b' → place_of (cond b' (record { tags = s.tags; requests = s.requests; fids = set s.fids (row_of k s.fids) free; at = s.at; places = s.places }) s) j ≡ place_of s j
      go true h = rw (stay d.fids k j h a b)
      go false h = refl

module _ {bs : List ℕ} {s : Session} (d : Sound bs s) {r : Reached} (g : Grown s.places r) (fid i row : ℕ) (l : row < 64)
    (alone : (j : ℕ) → j < 64 → (j ≡ row → ⊥) → get_or s.fids j 0 ≡ fid → ⊥) (was : (get_or s.fids row 0 ≡ fid) ⊎ (get_or s.fids row 0 ≡ free)) where
  new_row : row_of fid (set s.fids row fid) ≡ row
  new_row = row_new s.fids row fid l d.fids.rows alone

  not_there : (k : ℕ) → (k ≡ fid → ⊥) → (k ≡ free → ⊥) → get_or s.fids row 0 ≡ k → ⊥
  not_there k a b e = ⊎_elim (λ w. a (sym e ∙ w)) (λ w. b (sym e ∙ w)) was

  old_row : (k : ℕ) → (k ≡ fid → ⊥) → (k ≡ free → ⊥) → row_of k (set s.fids row fid) ≡ row_of k s.fids
  old_row k a b = row_other k s.fids row fid (not_there k a b) (λ e. a (sym e)) (let m = d.fids.rows in omega arith)

  same_place : (k : ℕ) → (k ≡ fid → ⊥) → (k ≡ free → ⊥) → place_of (held s row fid i r.places) k ≡ place_of s k
  unfolding place_of
  same_place k a b = rw (old_row k a b) (go (has k s.fids) refl)
    where
      go : (t : Bool) → has k s.fids ≡ t → cond t (get_or (set s.at row i) (row_of k s.fids) 0) 0 ≡ cond t (get_or s.at (row_of k s.fids) 0) 0
      go false h = refl
      go true h = get_or-set_other s.at row (row_of k s.fids) i 0 (λ e. not_there k a b (ap (λ (j : ℕ). get_or s.fids j 0) (sym e) ∙ has_key k s.fids h))

  held_gives : Gives bs s fid i (held s row fid i r.places)
  unfolding place_of
  held_gives = record {
    known = rw new_row (lt-ltb row 64 l);
    place = rw (new_row, lt-ltb row 64 l) (get_or-set_same s.at row i 0 (let m = d.ats in omega arith));
    others = same_place;
    tags = refl;
    requests = refl;
    paths = λ k a b h. ap (path bs r.places) (same_place k a (not_free b)) ∙ path_kept bs g.kept (place_of s k) (place_inside d k h b);
  }

-- a known fid keeps its row; a new one takes a free row, and 24 is answered exactly where there is none
module _ {bs : List ℕ} {s : Session} (d : Sound bs s) {r : Reached} (g : Grown s.places r) (fid : ℕ) (l : fid < free) {i : ℕ} (e : r.at ≡ Ok i) where
  pub gives_known : has fid s.fids ≡ true → (given s fid r ≡ accepts (held s (row_of fid s.fids) fid i r.places)) × Gives bs s fid i (given s fid r).session
  unfolding given
  gives_known h = (rw (e, h), rw (e, h) (held_gives d g fid i (row_of fid s.fids) (has_row fid s.fids h) (λ j a b f. b (d.fids.one j (row_of fid s.fids) a (has_row fid s.fids h) (f ∙ sym (has_key fid s.fids h)) (λ z. not_free l (sym f ∙ z)))) (inl (has_key fid s.fids h))))

  module _ (n : has fid s.fids ≡ false) where
    pub gives_new : has free s.fids ≡ true → (given s fid r ≡ accepts (held s (row_of free s.fids) fid i r.places)) × Gives bs s fid i (given s fid r).session
    unfolding given
    gives_new h = (rw (e, n, h), rw (e, n, h) (held_gives d g fid i (row_of free s.fids) (has_row free s.fids h) (λ j a b f. has_not fid s.fids n j a f) (inr (has_key free s.fids h))))

    pub gives_no_row : has free s.fids ≡ false → given s fid r ≡ refuses s R.TableFull
    unfolding given
    gives_no_row h = rw (e, n, h)

-- ---- an Rversion empties all

pub empties : (bs : List ℕ) (s : Session) (r : Request) → done bs s E.Empties r ≡ accepts fresh
unfolding done
empties bs s r = refl
