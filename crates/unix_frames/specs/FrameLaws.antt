-- Written by tools/messages from crates/frames/specs/FrameLaws.antt.
-- What the two readers answer at a position is what the definition reads there.
use Rattle.numbers.specs.Place.{Place}
use Rattle.std.specs.Prelude.{ℕ, ◌+◌, ◌-◌, min, ◌≡◌, List, length, take, drop, Result, Ok, Err}
use Rattle.std.proofs.Common.{sym, ◌∙◌}
use Rattle.std.proofs.Math.Path.{ap}
use Rattle.numbers.specs.Numbers.{Bytes}
use Rattle.numbers.specs.declared.Fault.{Fault}
use Rattle.numbers.specs.declared.Refusal.{Refusal}
use Rattle.stats.specs.Unix.{table_t, table_r}
use Rattle.layouts.specs.Bodies.{accepted, read_body}
use Rattle.framing.specs.Frames.{framed, refused_whole}
use Rattle.framing.specs.Raising.{read_frame_at, body_place, body_from}
use Rattle.framing.proofs.RaisedLaws.{from_body}
use Rattle.framing.specs.Headers.{HeadIs}
use Rattle.framing.proofs.Standing.{no_header, header_there}
use Rattle.framing.specs.declared.Head.{Head}
use Rattle.unix_requests.specs.Views.{type_t, values_t, view_t, Tbody}
use Rattle.unix_requests.specs.declared.Tmessage.{Tmessage}
use Rattle.unix_replies.specs.Views.{type_r, values_r, view_r, Rbody}
use Rattle.unix_replies.specs.declared.Rmessage.{Rmessage}
use Rattle.unix_frames.specs.Views.{view_tframe, view_rframe}

-- ---- bodies

module _ (ty at : ℕ) (s : List ℕ) {q : Place} (e : q ≡ body_place (length s) at) where
  module _ (b : Tbody) (v : view_t b ≡ read_body table_t ty s q) where
    pub request_message : {m : Tmessage} {n used : ℕ} → b ≡ Ok (m, n) → used ≡ n - at → view_t (Ok (m, used)) ≡ body_from table_t ty s at
    unfolding view_t
    request_message {m} {n} f g = ap (accepted (type_t m) (values_t m)) g ∙ (rw f at (from_body table_t ty at s e v))

    pub request_none : {f : Fault} → b ≡ Err f → view_t (Err f) ≡ body_from table_t ty s at
    unfolding view_t
    request_none f = rw f at (from_body table_t ty at s e v)

  module _ (b : Rbody) (v : view_r b ≡ read_body table_r ty s q) where
    pub reply_message : {m : Rmessage} {n used : ℕ} → b ≡ Ok (m, n) → used ≡ n - at → view_r (Ok (m, used)) ≡ body_from table_r ty s at
    unfolding view_r
    reply_message {m} {n} f g = ap (accepted (type_r m) (values_r m)) g ∙ (rw f at (from_body table_r ty at s e v))

    pub reply_none : {f : Fault} → b ≡ Err f → view_r (Err f) ≡ body_from table_r ty s at
    unfolding view_r
    reply_none f = rw f at (from_body table_r ty at s e v)

-- ---- headers

module _ (s : List ℕ) (p : ℕ) {at : ℕ} (m : at ≡ min p (length s)) (g : Result Head Refusal) (h : HeadIs (take (length s - at) (drop at s)) g) where
  -- ---- requests

  pub tframe_no : {k : Refusal} → g ≡ Err k → view_tframe (Err k) ≡ read_frame_at table_t s p
  unfolding view_tframe
  tframe_no e = no_header s p m g h table_t e

  pub tframe_yes : (b : Tbody) {x : Head} → Bytes s → g ≡ Ok x → view_t b ≡ body_from table_t x.ty (take (at + x.len) s) at
      → view_tframe (Ok (record { at = at; tag = record { 0 = x.tag }; msg = b })) ≡ read_frame_at table_t s p
  unfolding view_tframe
  tframe_yes b {x} bs e v = ap (framed at x.tag) v ∙ header_there s p m g h table_t bs e

  -- ---- replies

  pub rframe_no : {k : Refusal} → g ≡ Err k → view_rframe (Err (k, 0)) ≡ refused_whole (read_frame_at table_r s p)
  unfolding view_rframe
  rframe_no e = ap refused_whole (no_header s p m g h table_r e)

  module _ {x : Head} (bs : Bytes s) (e : g ≡ Ok x) (b : Rbody) (v : view_r b ≡ body_from table_r x.ty (take (at + x.len) s) at) where
    rframe_is : framed at x.tag (view_r b) ≡ read_frame_at table_r s p
    rframe_is = ap (framed at x.tag) v ∙ header_there s p m g h table_r bs e

    pub rframe_yes : (m : Rmessage) (used : ℕ) → b ≡ Ok (m, used)
        → view_rframe (Ok (record { at = at; tag = record { 0 = x.tag }; msg = m }, used)) ≡ refused_whole (read_frame_at table_r s p)
    unfolding view_rframe view_r
    rframe_yes m used f = ap (λ (y : Rbody). refused_whole (framed at x.tag (view_r y))) (sym f) ∙ ap refused_whole rframe_is

    pub rframe_bad : {f : Fault} → b ≡ Err f → view_rframe (Err f) ≡ refused_whole (read_frame_at table_r s p)
    unfolding view_rframe view_r
    rframe_bad f = ap (λ (y : Rbody). refused_whole (framed at x.tag (view_r y))) (sym f) ∙ ap refused_whole rframe_is
