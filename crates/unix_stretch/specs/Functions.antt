-- Written by tools/messages from crates/stretch/specs/Functions.antt.
-- Demand 3 of the functions: whatever answers the promises of `frame_at`, `read_tframe`, `read_rframe`, `write_tframe` and `write_rframe` allow, they have these properties.
use Rattle.numbers.specs.Place.{Place}
use Rattle.std.specs.Prelude.{ℕ, ◌+◌, ◌-◌, ◌%◌, ◌^◌, ◌≤◌, ◌<◌, ◌≡◌, List, ◌++◌, length, take, Ok, Err, Some, None}
use Rattle.std.proofs.Common.{arith, sym, ◌∙◌, eq-eqb, ne_eqb}
use Rattle.std.proofs.Math.Path.{refl, ap}
use Rattle.std.proofs.Math.Option.{some}
use mir.Val.{WT}
use Rattle.numbers.specs.Numbers.{Bytes}
use Rattle.numbers.specs.Places.{over}
use Rattle.numbers.specs.declared.Refusal.{Refusal}
use Rattle.numbers.specs.declared.Refusal.TheVariants as R
use Rattle.fields.specs.Values.{Value}
use Rattle.layouts.specs.Tables.{lookup}
use Rattle.stats.specs.Unix.{table_t, table_r}
use Rattle.layouts.specs.Bodies.{accepted, refused}
use Rattle.unix_requests.specs.Views.{type_t, layout_t, values_t, view_t}
use Rattle.unix_requests.specs.declared.Tmessage.{Tmessage}
use Rattle.unix_requests.proofs.Tmessage.TheLaws.{lowered as loweredT}
use Rattle.unix_replies.specs.Views.{type_r, layout_r, values_r, view_r}
use Rattle.unix_replies.specs.declared.Rmessage.{Rmessage}
use Rattle.framing.specs.Frames.{Frame, headless, framed, refused_whole, read_frame}
use Rattle.framing.specs.Writing.{FrameWritten}
use Rattle.unix_frames.specs.Views.{view_tframe, view_rframe, TbodyWritten, TframeWritten, ReadTframe, ReadRframe}
use Rattle.framing.specs.Local.{size_in}
use Rattle.unix_frames.specs.One.{one_tframe, one_rframe}
use Rattle.unix_frames.specs.declared.Tframe.{Tframe}
use Rattle.unix_frames.specs.declared.Rframe.{Rframe}
use Rattle.unix_frames.proofs.Tframe.TheLaws.{lowered as loweredTframe}
use Rattle.unix_frames.proofs.Rframe.TheLaws.{lowered as loweredRframe}
use Rattle.framing.specs.Stretch.{type_in, tag_in, table_for, answer_in, answer_of, Listing, entry, ends, stops, listing}
use Rattle.framing.specs.ListingLaws.{goes_on, stops_at}
use Rattle.framing.proofs.ListingLaws.{listed}
use Rattle.unix_stretch.specs.Views.{view_body, Answered, view_step, Asked}
use Rattle.framing.specs.ReadBack.{Back}
use Rattle.framing.specs.Limits.{Limited}
use Rattle.unix_stretch.specs.Fitting.{told_request, request_fits, reply_fits}
use Rattle.unix_stretch.specs.Known.{row_of_request, type_of_request, row_of_reply, type_of_reply}
use Rattle.framing.specs.Stripped.{resized, cut_at}
use Rattle.framing.specs.Demand.{Whole, Edited, old_lines, new_lines, repeated}
use Rattle.framing.specs.Shown.{records_in}
use Rattle.framing.specs.Joining.{joined, Ends}
use Rattle.framing.specs.Damage.{Has, Damaged, EqualBut}
use Rattle.framing.proofs.Positions.{listed_written}
use Rattle.framing.specs.Cuts.{between}
use Rattle.framing.specs.Dialects.{Direction}
use Rattle.framing.proofs.Dialects.{frames, ended, stopped}
use Rattle.framing.proofs.Dialects.{Lists, listed_by, lists, lists_edited, lists_once, lists_joined, lists_damaged, stripped, written, written_again, cut, back, local_read}
use Rattle.unix_stretch.specs.declared.Body.TheVariants as B
use Rattle.unix_stretch.specs.declared.Listed.{Listed}

-- ---- `frame_at`, asked at a position and then at each next one

pub data Asks (s : List ℕ) : ℕ → Listing → Type 0 where
  frame : {p : ℕ} {L : Listing} (l : Listed) → Asked s p (Ok (Some l)) → Asks s l.next L → Asks s p (entry l.at l.size l.ty l.tag.0 (view_body l.body) l.tail L)
  end : {p : ℕ} → Asked s p (Ok None) → Asks s p (ends p)
  stop : {p q : ℕ} {k : Refusal} → Asked s p (Err (k, q)) → Asks s p (stops k q)

seen : (s : List ℕ) {p : ℕ} {L : Listing} → Asks s p L → Lists table_t table_r s p L
unfolding view_step
seen s (frame l a n) = frames a.is (seen s n)
seen s (end a) = ended a.is
seen s (stop a) = stopped a.is

-- what is listed from a position on, by what is answered there
pub answered : (s : List ℕ) (p : ℕ) (r : Answered) → p ≤ length s → Asked s p r → listed table_t table_r s p ≡ goes_on (view_step p r) (listed table_t table_r s)
answered s p r h a = listed_by table_t table_r s p (view_step p r) h a.is

-- the listing that the function gives, from 0 on, is the definition's
pub function_lists : (s : List ℕ) {L : Listing} → Asks s 0 L → L ≡ listing table_t table_r s
function_lists s a = lists table_t table_r s (seen s a)

-- 1. lengthened and inserted
pub edited : {old new : List ℕ} {L N : Listing} (e : Edited table_t table_r old new) → Bytes old → Bytes new → Asks old 0 L → Asks new 0 N → (L ≡ old_lines 0 e) × (N ≡ new_lines 0 e) × (records_in table_t table_r new N ≡ records_in table_t table_r old L)
edited {old} {new} e b c x y = lists_edited table_t table_r e b c (seen old x) (seen new y)

-- ---- the two directions

abbrev pub requests : Direction
requests =
    record {
      rows = table_t;
      Message = Tmessage;
      type = type_t;
      layout = layout_t;
      values = values_t;
      known = row_of_request;
      small = type_of_request;
      Read = ReadTframe;
      view = view_tframe;
      one = one_tframe;
      whole = λ x. x;
      good = λ x p tag ty n vs e. e;
      same = λ x. refl;
    }

pub reply_good : (x : Frame) (p tag ty n : ℕ) (vs : List Value) → refused_whole x ≡ framed p tag (accepted ty vs n) → x ≡ framed p tag (accepted ty vs n)
reply_good (headless k at) p tag ty n vs e = absurd (let z : ◌≡◌ {A = ℕ} 0 1 = cc e in omega arith)
reply_good (framed q g (accepted t us m)) p tag ty n vs e = e
reply_good (framed q g (refused k at)) p tag ty n vs e = absurd (let z : ◌≡◌ {A = ℕ} 0 1 = cc e in omega arith)

pub same_answer : (x : Frame) → answer_in (refused_whole x) ≡ answer_in x
same_answer (headless k at) = refl
same_answer (framed p g (accepted ty vs n)) = refl
same_answer (framed p g (refused k at)) = refl

abbrev pub replies : Direction
replies =
    record {
      rows = table_r;
      Message = Rmessage;
      type = type_r;
      layout = layout_r;
      values = values_r;
      known = row_of_reply;
      small = type_of_reply;
      Read = ReadRframe;
      view = view_rframe;
      one = one_rframe;
      whole = refused_whole;
      good = reply_good;
      same = same_answer;
    }

-- ---- requests

-- a message that is written is written as a frame of its type
sent : {lent o o' : List ℕ} {q : Place} (f : Tframe) (m : Tmessage) {u : ℕ} → f.msg ≡ Ok (m, u) → TframeWritten lent f o o' q
    → FrameWritten (layout_t m) (type_t m) f.tag.0 lent (values_t m) o o' q
unfolding TbodyWritten
sent f m k w = rw k at w.is

module _ (s : List ℕ) (f : Tframe) (m : Tmessage) {used : ℕ} (b : Bytes s) (k : f.msg ≡ Ok (m, used)) (c : view_tframe (Ok f) ≡ read_frame table_t s) where
  request : view_tframe (Ok f) ≡ framed f.at f.tag.0 (accepted (type_t m) (values_t m) used)
  unfolding view_tframe view_t
  request = ap (λ x. framed f.at f.tag.0 (view_t x)) k

  -- 2. stripped: the same frame is read
  pub stripped_request : (r : ReadTframe) → view_tframe r ≡ read_frame table_t (resized used s) → r ≡ Ok f
  stripped_request = stripped requests s (Ok f) m f.at f.tag.0 used b request c

  -- and writing it, given room, gives those bytes
  pub stripped_request_written : {o o' : List ℕ} {q : Place} → used ≤ length o → TframeWritten s f o o' q → (o' ≡ over o 0 (resized used s)) × (q ≡ Ok used)
  stripped_request_written h w = written requests s (Ok f) m f.at f.tag.0 used b request c h (sent f m k w)

  -- also when the stripped bytes are lent in place of the frame
  pub stripped_request_written_again : {o o' : List ℕ} {q : Place} → used ≤ length o → TframeWritten (resized used s) f o o' q → (o' ≡ over o 0 (resized used s)) × (q ≡ Ok used)
  stripped_request_written_again h w = written_again requests s (Ok f) m f.at f.tag.0 used b request c h (sent f m k w)

  -- 4. cut
  pub cut_request : (j : ℕ) → j < used → (r : ReadTframe) → view_tframe r ≡ read_frame table_t (cut_at j s) → answer_in (view_tframe r) ≡ refused R.Short 0
  cut_request = cut requests s (Ok f) m f.at f.tag.0 used b request c

-- ---- replies

module _ (s : List ℕ) (f : Rframe) {used : ℕ} (b : Bytes s) (c : view_rframe (Ok (f, used)) ≡ refused_whole (read_frame table_r s)) where
  reply : view_rframe (Ok (f, used)) ≡ framed f.at f.tag.0 (accepted (type_r f.msg) (values_r f.msg) used)
  unfolding view_rframe
  reply = refl

  -- 2. stripped: the same frame is read
  pub stripped_reply : (r : ReadRframe) → view_rframe r ≡ refused_whole (read_frame table_r (resized used s)) → r ≡ Ok (f, used)
  stripped_reply = stripped replies s (Ok (f, used)) f.msg f.at f.tag.0 used b reply c

  -- and writing it, given room, gives those bytes
  pub stripped_reply_written : {o o' : List ℕ} {q : Place} → used ≤ length o → FrameWritten (layout_r f.msg) (type_r f.msg) f.tag.0 s (values_r f.msg) o o' q
      → (o' ≡ over o 0 (resized used s)) × (q ≡ Ok used)
  stripped_reply_written = written replies s (Ok (f, used)) f.msg f.at f.tag.0 used b reply c

  -- also when the stripped bytes are lent in place of the frame
  pub stripped_reply_written_again : {o o' : List ℕ} {q : Place} → used ≤ length o → FrameWritten (layout_r f.msg) (type_r f.msg) f.tag.0 (resized used s) (values_r f.msg) o o' q
      → (o' ≡ over o 0 (resized used s)) × (q ≡ Ok used)
  stripped_reply_written_again = written_again replies s (Ok (f, used)) f.msg f.at f.tag.0 used b reply c

  -- 4. cut
  pub cut_reply : (j : ℕ) → j < used → (r : ReadRframe) → view_rframe r ≡ refused_whole (read_frame table_r (cut_at j s)) → answer_in (view_rframe r) ≡ refused R.Short 0
  cut_reply = cut replies s (Ok (f, used)) f.msg f.at f.tag.0 used b reply c

-- ---- 3. read back

-- a request that a program holds: its tag and its message are well typed as its frame is
held_request : (f : Tframe) (m : Tmessage) {u : ℕ} → f.msg ≡ Ok (m, u) → WT (loweredTframe f) → (f.tag.0 < 256 ^ 2) × WT (loweredT m)
held_request f m k g = let h = rw k at g.1.1.0 in (g.1.0.0.fits, told_request m h.1.0.0)

-- a frame that a program holds is well typed (`WT`), and that says all but that its data is within the reading limit
module _ {lent o o' : List ℕ} {n : ℕ} (b : Bytes lent) where
  pub request_back : (f : Tframe) (m : Tmessage) {u : ℕ} → f.msg ≡ Ok (m, u) → WT (loweredTframe f) → Limited (layout_t m) (values_t m) → TframeWritten lent f o o' (Ok n)
      → Back table_t (layout_t m) (type_t m) f.tag.0 lent (values_t m) o' n
  request_back f m k g h w = let p = held_request f m k g in back requests m b p.0 (request_fits m p.1 h) (sent f m k w)

  pub reply_back : (f : Rframe) → WT (loweredRframe f) → Limited (layout_r f.msg) (values_r f.msg)
      → FrameWritten (layout_r f.msg) (type_r f.msg) f.tag.0 lent (values_r f.msg) o o' (Ok n)
      → Back table_r (layout_r f.msg) (type_r f.msg) f.tag.0 lent (values_r f.msg) o' n
  reply_back f g h w = back replies f.msg b g.1.0.0.fits (reply_fits f.msg g.1.1.0 h) w

-- ---- 5. local

pub local_request : (s t : List ℕ) (r r' : ReadTframe) → take 4 s ≡ take 4 t → take (size_in s) s ≡ take (size_in s) t → view_tframe r ≡ read_frame table_t s → view_tframe r' ≡ read_frame table_t t → r ≡ r'
local_request = local_read requests

pub local_reply : (s t : List ℕ) (r r' : ReadRframe) → take 4 s ≡ take 4 t → take (size_in s) s ≡ take (size_in s) t → view_rframe r ≡ refused_whole (read_frame table_r s)
    → view_rframe r' ≡ refused_whole (read_frame table_r t) → r ≡ r'
local_reply = local_read replies

-- ---- 6. positions: what is listed, written with the stretch as the lent bytes, is the frame stripped of its tail

module _ (s : List ℕ) {p used : ℕ} (l : Listed) (b : Bytes s) (a : Asked s p (Ok (Some l))) {o o' : List ℕ} {q : Place} (h : used ≤ length o) where
  pub listed_request_written : (m : Tmessage) → l.body ≡ B.Request (Ok (m, used)) → TframeWritten s (record { at = l.at; tag = l.tag; msg = Ok (m, used) }) o o' q
      → (o' ≡ over o 0 (resized used (between p l.next s))) × (q ≡ Ok used)
  unfolding view_step view_body view_t
  listed_request_written m e w =
      let k : lookup (table_for table_t table_r l.ty) (type_t m) ≡ some (layout_t m) = rw (eq-eqb (l.ty % 2) 0 (rw e at a.way)) (row_of_request m) in
      let f = sent (record { at = l.at; tag = l.tag; msg = Ok (m, used) }) m refl w in
      let r = listed_written table_t table_r s p b (sym (rw e at a.is)) k o h in (f.bytes ∙ r.0, f.next ∙ r.1)

  pub listed_reply_written : (m : Rmessage) → l.body ≡ B.Reply (Ok (m, used)) → FrameWritten (layout_r m) (type_r m) l.tag.0 s (values_r m) o o' q
      → (o' ≡ over o 0 (resized used (between p l.next s))) × (q ≡ Ok used)
  unfolding view_step view_body view_r
  listed_reply_written m e w =
      let k : lookup (table_for table_t table_r l.ty) (type_r m) ≡ some (layout_r m) = rw (ne_eqb (l.ty % 2) 0 (rw e at a.way)) (row_of_reply m) in
      let r = listed_written table_t table_r s p b (sym (rw e at a.is)) k o h in (w.bytes ∙ r.0, w.next ∙ r.1)

-- ---- 7. the accident: a Twrite with a copy of itself after its last field, inside its size, is listed as one Twrite, and the copy is its tail

pub accident_of_the_leap_second : (f : List ℕ) {used : ℕ} {vs : List Value} {L : Listing} → Bytes f → Whole f → length f + length f < 256 ^ 4 → answer_of table_t table_r f ≡ accepted 118 vs used → Asks (repeated f) 0 L
    → L ≡ entry 0 (length f + length f) (type_in f) (tag_in f) (accepted 118 vs used) (length f - used + length f) (ends (length f + length f))
accident_of_the_leap_second f b w h a x = lists_once table_t table_r f b w h a (seen (repeated f) x)

-- ---- 8. joined: if the first stretch reads to its end, that is its length, and both are listed as the first is, and then as the second is, later by so much

pub both_listed : (s t : List ℕ) {L M N : Listing} → Asks s 0 L → Asks t 0 M → Asks (s ++ t) 0 N → Ends L → (stops_at L ≡ length s) × (N ≡ joined L M)
both_listed s t x y z e = lists_joined table_t table_r s t (seen s x) (seen t y) (seen (s ++ t) z) e

-- ---- 9. damaged: what is done to a frame after its four size bytes changes its own line and no other

pub one_harmed : {p n : ℕ} {s t : List ℕ} {L M : Listing} → Damaged p n s t → Asks s 0 L → Asks t 0 M → Has p n L → EqualBut p n L M
one_harmed {s = s} {t = t} d x y h = lists_damaged table_t table_r d (seen s x) (seen t y) h
