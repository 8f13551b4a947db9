-- What each rule does, in the paper's words (F15.5 to F15.7): a request opens its tag, a reply closes it, gives, moves or drops a fid, and all else is
-- left as it was. 24 is answered exactly where a table is full.
use Rattle.std.specs.Prelude.{ℕ, ◌<◌, ◌≡◌, List}
use Rattle.std.proofs.Math.Bool.{true}
use Rattle.places.specs.Places.{path}
use Rattle.session.specs.declared.Request.{Request}
use Rattle.session.specs.declared.Session.{Session}
use Rattle.session.specs.Rows.{row_of, has}
use Rattle.session.specs.Rules.{free, place_of, request_of}

-- ---- the tag is open, and under it the request; all else is as it was

pub record Opens (s : Session) (tag : ℕ) (r : Request) (t : Session) : Type 0 where
  pub is_open : has tag t.tags ≡ true
  pub request : request_of t tag ≡ r
  pub others : (k : ℕ) → (k ≡ tag → ⊥) → (k ≡ free → ⊥) → row_of k t.tags ≡ row_of k s.tags
  pub other_requests : (k : ℕ) → (k ≡ tag → ⊥) → (k ≡ free → ⊥) → has k s.tags ≡ true → request_of t k ≡ request_of s k
  pub fids : t.fids ≡ s.fids
  pub at : t.at ≡ s.at
  pub places : t.places ≡ s.places

-- ---- the fid is given its place, and every other fid keeps its place and its path

pub record Gives (bs : List ℕ) (s : Session) (fid i : ℕ) (t : Session) : Type 0 where
  pub known : has fid t.fids ≡ true
  pub place : place_of t fid ≡ i
  pub others : (k : ℕ) → (k ≡ fid → ⊥) → (k ≡ free → ⊥) → place_of t k ≡ place_of s k
  pub tags : t.tags ≡ s.tags
  pub requests : t.requests ≡ s.requests
  pub paths : (k : ℕ) → (k ≡ fid → ⊥) → k < free → has k s.fids ≡ true → path bs t.places (place_of t k) ≡ path bs s.places (place_of s k)
