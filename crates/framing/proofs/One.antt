-- Any two answers that the promises of this crate allow are equal.
use Rattle.numbers.specs.Place.{Place}
use Rattle.std.specs.Prelude.{ℕ, ◌-◌, ◌≤◌, ◌≡◌, refl, List, [], length, take, drop, Result, Ok, Err, Option, Some, None}
use Rattle.std.proofs.Common.{arith, sym, ap, ◌∙◌, length-drop, length-take-le}
use Rattle.numbers.specs.Reading.{ok, bad}
use Rattle.numbers.proofs.PlaceLaws.{one_answer}
use Rattle.numbers.specs.declared.Refusal.{Refusal}
use Rattle.fields.specs.Layouts.{Layout}
use Rattle.fields.specs.Values.{Value}
use Rattle.framing.specs.Frames.{Header}
use Rattle.framing.specs.Writing.{FrameWritten, HeadPut}
use Rattle.framing.specs.Stretch.{type_in, tag_in}
use Rattle.framing.specs.Headers.{Headed, HeadIs}
use Rattle.framing.specs.Cuts.{between, CutAt}
use Rattle.framing.proofs.CutLaws.{length_whole}
use Rattle.framing.specs.declared.Head.{Head}
use Rattle.framing.specs.declared.Cut.{Cut}

pub frame_one : {fs : Layout} {ty tag : ℕ} {lent o o1 o2 : List ℕ} {vs : List Value} {q q' : Place} → FrameWritten fs ty tag lent vs o o1 q → FrameWritten fs ty tag lent vs o o2 q'
    → (o1 ≡ o2) × (q ≡ q')
frame_one a b = (one_answer a.bytes b.bytes, one_answer a.next b.next)

-- a read and a refused header are not the same
apart : {h : Header} {d : List ℕ} {k : Refusal} {at : ℕ} → ok h d ≡ bad k at → ⊥
apart e = let z : ◌≡◌ {A = ℕ} 0 1 = cc e in omega arith

-- of a header that was read, what is left tells how many bytes are the frame's
one_end : (s : List ℕ) (m n : ℕ) → 7 ≤ m → m ≤ length s → 7 ≤ n → n ≤ length s → drop 7 (take m s) ≡ drop 7 (take n s) → m ≡ n
one_end s m n a b c d e =
    let l : m - 7 ≡ n - 7 = sym (left m b) ∙ ap length e ∙ left n d in
    omega arith
  where
    left : (k : ℕ) → k ≤ length s → length (drop 7 (take k s)) ≡ k - 7
    left k h = length-drop 7 (take k s) ∙ ap (λ x. x - 7) (length-take-le k s h)

same_head : (s : List ℕ) (m n ty uy tag uag : ℕ) → Headed s m ty tag → Headed s n uy uag → ◌≡◌ {A = Head} (record { len = m; ty = ty; tag = tag }) (record { len = n; ty = uy; tag = uag })
same_head s m n ty uy tag uag a b =
    let e = sym a.reads ∙ b.reads in
    let f : ◌≡◌ {A = Header} (record { ty = ty; tag = tag }) (record { ty = uy; tag = uag }) = cc e in
    let t : ty ≡ uy = ap (λ h. h.ty) f in
    let g : tag ≡ uag = ap (λ h. h.tag) f in
    let d : drop 7 (take m s) ≡ drop 7 (take n s) = cc e in
    let l = one_end s m n a.seven a.held b.seven b.held d in
    rw (t, g, l) refl

pub head_one : (s : List ℕ) (h h' : Result Head Refusal) → HeadIs s h → HeadIs s h' → h ≡ h'
unfolding HeadIs
head_one s (Ok h) (Ok g) a b = ap Ok (same_head s h.len g.len h.ty g.ty h.tag g.tag a b)
head_one s (Err j) (Err k) a b = let e = sym a ∙ b in let x : j ≡ k = cc e in ap Err x
head_one s (Ok h) (Err k) a b = absurd (apart (sym a.reads ∙ b))
head_one s (Err k) (Ok h) a b = absurd (apart (sym b.reads ∙ a))

pub head_put_one : {ty tag : ℕ} {e : Place} {o o1 o2 : List ℕ} {q q' : Place} → HeadPut ty tag e o o1 q → HeadPut ty tag e o o2 q' → (o1 ≡ o2) × (q ≡ q')
head_put_one a b = (one_answer a.bytes b.bytes, one_answer a.next b.next)

pub cut_one : (s : List ℕ) (p : ℕ) (r r' : Result (Option Cut) Refusal) → CutAt s p r → CutAt s p r' → r ≡ r'
unfolding CutAt
cut_one s p (Ok (Some c)) (Ok (Some b)) v w =
    let e = c.next in
    let d = b.next in
    let q = one_answer (v.is [] []) (w.is [] []) in
    let a : type_in (between p e s) ≡ type_in (between p d s) = cc q in
    let t : tag_in (between p e s) ≡ tag_in (between p d s) = cc q in
    let n : length (between p e s) ≡ length (between p d s) = cc q in
    let z : e ≡ d = (let x = length_whole v in let y = length_whole w in let l = v.seven in let m = w.seven in omega arith) in
    let same : c ≡ b = rw (v.ty ∙ a ∙ sym w.ty, v.tag ∙ t ∙ sym w.tag, z) refl in
    ap (λ (x : Cut). Ok (Some x)) same
cut_one s p (Ok None) (Ok None) v w = refl
cut_one s p (Err k) (Err j) v w = let q = one_answer (v [] []) (w [] []) in let a : k ≡ j = cc q in ap Err a
cut_one s p (Ok (Some c)) (Ok None) v w = absurd (let q = one_answer (v.is [] []) (w [] []) in let z : ◌≡◌ {A = ℕ} 0 1 = cc q in omega arith)
cut_one s p (Ok (Some c)) (Err j) v w = absurd (let q = one_answer (v.is [] []) (w [] []) in let z : ◌≡◌ {A = ℕ} 0 1 = cc q in omega arith)
cut_one s p (Ok None) (Ok (Some b)) v w = absurd (let q = one_answer (v [] []) (w.is [] []) in let z : ◌≡◌ {A = ℕ} 0 1 = cc q in omega arith)
cut_one s p (Ok None) (Err j) v w = absurd (let q = one_answer (v [] []) (w [] []) in let z : ◌≡◌ {A = ℕ} 0 1 = cc q in omega arith)
cut_one s p (Err k) (Ok (Some b)) v w = absurd (let q = one_answer (v [] []) (w.is [] []) in let z : ◌≡◌ {A = ℕ} 0 1 = cc q in omega arith)
cut_one s p (Err k) (Ok None) v w = absurd (let q = one_answer (v [] []) (w [] []) in let z : ◌≡◌ {A = ℕ} 0 1 = cc q in omega arith)
