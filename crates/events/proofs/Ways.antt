-- For each way through the code: what the definition says there.
use Rattle.std.specs.Prelude.{Ok, Err}
use Prim.Native.Nat.{ℕ, ◌%◌}
use mathlib.Core.Path.{◌≡◌, refl, ◌∙◌}
use mathlib.Core.Bool.{true, false}
use lib.Dec.{eqb}
use borrow.Author.Tests.{eq-eqb, ne_eqb}
use Rattle.numbers.specs.declared.Refusal.{Refusal}
use Rattle.layouts.specs.Bodies.{Answer}
use Rattle.common.specs.Records.{tflush, twalk}
use Rattle.common.specs.declared.sessions.Tflush.{Tflush}
use Rattle.common.specs.declared.walking.Twalk.{Twalk}
use Rattle.messages.specs.Records.{tattach, tlcreate}
use Rattle.messages.specs.declared.files.Tlcreate.{Tlcreate}
use Rattle.messages.specs.declared.sessions.Tattach.{Tattach}
use Rattle.metadata.specs.Records.{txattrwalk}
use Rattle.metadata.specs.declared.attributes.Txattrwalk.{Txattrwalk}
use Rattle.requests.specs.Views.{type_t, values_t, view_t, Tbody}
use Rattle.requests.specs.declared.Tmessage.{Tmessage}
use Rattle.requests.specs.declared.Tmessage.TheVariants as M
use Rattle.common.specs.declared.walking.Rwalk.{Rwalk}
use Rattle.replies.specs.Views.{type_r, values_r, view_r, Rbody}
use Rattle.replies.specs.declared.Rmessage.{Rmessage}
use Rattle.replies.specs.declared.Rmessage.TheVariants as N
use Rattle.stretch.specs.Views.{view_body}
use Rattle.stretch.specs.declared.Body.{Body}
use Rattle.stretch.specs.declared.Body.TheVariants as B
use Rattle.session.specs.Rules.{none}
use Rattle.session.specs.declared.Request.{Request}
use Rattle.session.specs.declared.What.{What}
use Rattle.session.specs.declared.What.TheVariants as W
use Rattle.session.specs.declared.Event.{Event}
use Rattle.events.specs.Events.{asks, unless_same, unless_none, asked_by, qids_in, what_in, event_of}

-- ---- the numbers that are asked for

pub same_none : {a b : ℕ} → a ≡ b → none ≡ unless_same a b
same_none {a} {b} e = rw (eq-eqb a b e)

pub same_not : {a b : ℕ} → (a ≡ b → ⊥) → a ≡ unless_same a b
same_not {a} {b} e = rw (ne_eqb a b e)

-- ---- messages of their own rules

module _ {r : Request} where
  pub attach_is : (m : Tattach) {a : ℕ} → a ≡ unless_none m.afid.0 → r ≡ asks 104 m.fid.0 a m.fid.0 → r ≡ asked_by 104 (tattach m)
  unfolding asked_by
  attach_is m e f = f ∙ rw e

  pub xattr_is : (m : Txattrwalk) {a : ℕ} → a ≡ unless_same m.newfid.0 m.fid.0 → r ≡ asks 30 a m.fid.0 m.newfid.0 → r ≡ asked_by 30 (txattrwalk m)
  unfolding asked_by
  xattr_is m e f = f ∙ rw e

  pub flush_is : (m : Tflush) → r ≡ asks 108 none none none → ◌≡◌ {A = Request} (record { ty = r.ty; new = r.new; known = r.known; to = r.to; old = m.oldtag.0; count = r.count; start = r.start; len = r.len }) (asked_by 108 (tflush m))
  unfolding asked_by
  flush_is m e = rw e

  pub create_is : (m : Tlcreate) → r ≡ asks 14 none m.fid.0 m.fid.0 → ◌≡◌ {A = Request} (record { ty = r.ty; new = r.new; known = r.known; to = r.to; old = r.old; count = r.count; start = m.name.start; len = m.name.len }) (asked_by 14 (tlcreate m))
  unfolding asked_by
  create_is m e = rw e

  pub walk_is : (m : Twalk) {a : ℕ} → a ≡ unless_same m.newfid.0 m.fid.0 → r ≡ asks 110 a m.fid.0 m.newfid.0
      → ◌≡◌ {A = Request} (record { ty = r.ty; new = r.new; known = r.known; to = r.to; old = r.old; count = m.wnames.count; start = m.wnames.elements.start; len = m.wnames.elements.len }) (asked_by 110 (twalk m))
  unfolding asked_by
  walk_is m e f = rw (f, e)

-- an arm of the match: which message it is
pub arm : {m k : Tmessage} {r : Request} → m ≡ k → r ≡ asked_by (type_t k) (values_t k) → r ≡ asked_by (type_t m) (values_t m)
arm e f = rw e f

-- ---- a body

even : (m : Tmessage) → eqb (type_t m % 2) 0 ≡ true
even (M.Version m) = refl
even (M.Flush m) = refl
even (M.Walk m) = refl
even (M.Read m) = refl
even (M.Write m) = refl
even (M.Clunk m) = refl
even (M.Remove m) = refl
even (M.Attach m) = refl
even (M.Auth m) = refl
even (M.Statfs m) = refl
even (M.Lopen m) = refl
even (M.Lcreate m) = refl
even (M.Symlink m) = refl
even (M.Mknod m) = refl
even (M.Rename m) = refl
even (M.Readlink m) = refl
even (M.GetAttr m) = refl
even (M.SetAttr m) = refl
even (M.XattrWalk m) = refl
even (M.XattrCreate m) = refl
even (M.Readdir m) = refl
even (M.Fsync m) = refl
even (M.Lock m) = refl
even (M.GetLock m) = refl
even (M.Link m) = refl
even (M.Mkdir m) = refl
even (M.RenameAt m) = refl
even (M.UnlinkAt m) = refl

odd : (m : Rmessage) → eqb (type_r m % 2) 0 ≡ false
odd (N.Version m) = refl
odd N.Flush = refl
odd (N.Walk m) = refl
odd (N.Read m) = refl
odd (N.Write m) = refl
odd N.Clunk = refl
odd N.Remove = refl
odd (N.Attach m) = refl
odd (N.Auth m) = refl
odd (N.Statfs m) = refl
odd (N.Lopen m) = refl
odd (N.Lcreate m) = refl
odd (N.Symlink m) = refl
odd (N.Mknod m) = refl
odd N.Rename = refl
odd (N.Readlink m) = refl
odd (N.GetAttr m) = refl
odd N.SetAttr = refl
odd (N.XattrWalk m) = refl
odd N.XattrCreate = refl
odd (N.Readdir m) = refl
odd N.Fsync = refl
odd (N.Lock m) = refl
odd (N.GetLock m) = refl
odd N.Link = refl
odd (N.Mkdir m) = refl
odd N.RenameAt = refl
odd N.UnlinkAt = refl
odd (N.Lerror m) = refl

module _ {c : Body} where
  pub a_request : {b : Tbody} {m : Tmessage} {n : ℕ} {r : Request} → c ≡ B.Request b → b ≡ Ok (m, n) → r ≡ asked_by (type_t m) (values_t m) → W.Asks r ≡ what_in (view_body c)
  unfolding view_body view_t
  a_request {m = m} e f h = rw (e, f, even m, h)

  pub no_request : {b : Tbody} {k : Refusal} {at : ℕ} → c ≡ B.Request b → b ≡ Err (k, at) → W.Refused k ≡ what_in (view_body c)
  unfolding view_body view_t
  no_request e f = rw (e, f)

  pub a_reply : {b : Rbody} {m : Rmessage} {n q : ℕ} → c ≡ B.Reply b → b ≡ Ok (m, n) → q ≡ qids_in (values_r m) → W.Answers q ≡ what_in (view_body c)
  unfolding view_body view_r
  a_reply {m = m} e f h = rw (e, f, odd m, h)

  pub no_reply : {b : Rbody} {k : Refusal} {at : ℕ} → c ≡ B.Reply b → b ≡ Err (k, at) → W.Refused k ≡ what_in (view_body c)
  unfolding view_body view_r
  no_reply e f = rw (e, f)

pub event_is : {w : What} (ty tag : ℕ) (a : Answer) → w ≡ what_in a → ◌≡◌ {A = Event} (record { ty = ty; tag = tag; what = w }) (event_of ty tag a)
unfolding event_of
event_is ty tag a e = rw e

-- ---- the qids of a reply

pub walk_qids : {m : Rmessage} {w : Rwalk} → m ≡ N.Walk w → w.wqids.count ≡ qids_in (values_r m)
unfolding values_r
walk_qids e = rw e

pub no_qids : (m : Rmessage) → ((w : Rwalk) → m ≡ N.Walk w → ⊥) → 0 ≡ qids_in (values_r m)
unfolding values_r
no_qids (N.Version m) h = refl
no_qids N.Flush h = refl
no_qids (N.Walk m) h = absurd (h m refl)
no_qids (N.Read m) h = refl
no_qids (N.Write m) h = refl
no_qids N.Clunk h = refl
no_qids N.Remove h = refl
no_qids (N.Attach m) h = refl
no_qids (N.Auth m) h = refl
no_qids (N.Statfs m) h = refl
no_qids (N.Lopen m) h = refl
no_qids (N.Lcreate m) h = refl
no_qids (N.Symlink m) h = refl
no_qids (N.Mknod m) h = refl
no_qids N.Rename h = refl
no_qids (N.Readlink m) h = refl
no_qids (N.GetAttr m) h = refl
no_qids N.SetAttr h = refl
no_qids (N.XattrWalk m) h = refl
no_qids N.XattrCreate h = refl
no_qids (N.Readdir m) h = refl
no_qids N.Fsync h = refl
no_qids (N.Lock m) h = refl
no_qids (N.GetLock m) h = refl
no_qids N.Link h = refl
no_qids (N.Mkdir m) h = refl
no_qids N.RenameAt h = refl
no_qids N.UnlinkAt h = refl
no_qids (N.Lerror m) h = refl
