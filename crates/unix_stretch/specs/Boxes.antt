-- A box is no prefix of a longer one (F16.3), over any tables: what one reader takes, the other refuses with 18.
use Rattle.std.specs.Prelude.{ℕ, ◌+◌, ◌-◌, ◌≡◌, refl, Bool, true, false, cond, List, [], ◌∷◌, ◌++◌, take, drop, leb, eqb}
use Rattle.std.proofs.Common.{arith, ◌∙◌}
use Rattle.std.proofs.Math.Path.{sym, ap}
use Rattle.std.proofs.Math.Option.{some}
use Rattle.std.proofs.Math.ListN.{length}
use Rattle.numbers.specs.Numbers.{from_le}
use Rattle.numbers.specs.Reading.{Reading, ok, bad, after, raw, read_num}
use Rattle.numbers.proofs.ReadingLaws.{after_inv, cond_inv}
use Rattle.numbers.specs.declared.Refusal.TheVariants as R
use Rattle.fields.specs.Layouts.{Shape, boxed, Layout, Item, follow, at_end, agrees, read_field, read_fields, items_bytes}
use Rattle.fields.proofs.LayoutLaws.{agreed}
use Rattle.fields.specs.Values.{Value}
use Rattle.layouts.specs.Tables.{Row, lookup}
use Rattle.layouts.specs.Bodies.{accepted, refused, items_at}
use Rattle.framing.specs.Frames.{framed, read_header, read_frame}
use Rattle.framing.proofs.Accepted.{frame_inv, body_inv}
use Rattle.stats.specs.Following.{follow_append}
use Rattle.unix_stretch.specs.Prefix.{lastly, more_read}

no_way : {X : Type 0} → ◌≡◌ {A = Bool} false true → X
no_way e = absurd (let z : ◌≡◌ {A = ℕ} 0 1 = cc e in omega arith)

-- where some fields end, there are no more
ended : (gs : List Shape) → at_end (follow gs []) ≡ false → (m : Reading ℕ) → at_end m ≡ true → at_end (after m (λ n r. follow gs r)) ≡ false
ended gs g (ok n []) e = g
ended gs g (ok n (x ∷ r)) e = no_way e
ended gs g (bad k at) e = no_way e

neither : (a b : Bool) {t : Bool} → t ≡ false → cond a (cond b t false) false ≡ false
neither true true e = e
neither true false e = refl
neither false b e = refl

-- what agrees with some fields, and what agrees with these and more that take a byte or more
abbrev pub Apart : List Shape → List Shape → Type 0
Apart fs gs = (bs : List ℕ) → agrees fs bs ≡ true → agrees gs bs ≡ false

pub not_more : (fs gs : List Shape) → at_end (follow gs []) ≡ false → Apart fs (fs ++ gs)
unfolding agrees
not_more fs gs g bs e = neither (leb 2 (length bs)) (eqb (from_le (take 2 bs)) (length bs - 2)) (ap at_end (follow_append fs gs (drop 2 bs)) ∙ ended gs g (follow fs (drop 2 bs)) (agreed fs bs e).ends)

pub not_less : (fs gs : List Shape) → at_end (follow gs []) ≡ false → Apart (fs ++ gs) fs
not_less fs gs g bs e = go (agrees fs bs) refl
  where
    go : (t : Bool) → agrees fs bs ≡ t → agrees fs bs ≡ false
    go true h = no_way (sym (not_more fs gs g bs h) ∙ e)
    go false h = h

box_apart : (fs gs : List Shape) → Apart fs gs → (a : ℕ) (xs : List ℕ) {i : Item} {r : List ℕ} → read_field (boxed fs) a xs ≡ ok i r → read_field (boxed gs) a xs ≡ bad R.StatMalformed 0
unfolding read_field
box_apart fs gs apart a xs e =
    after_inv (read_num 2 xs) _ e
    (λ n r e1 e2. after_inv (raw n r) _ e2
    (λ bs t e3 e4. rw (e1, e3, apart bs (cond_inv (agrees fs bs) _ R.StatMalformed 0 e4).0)))

-- ---- frames that end with a box

module _ (rows rows' : List Row) (s : List ℕ) {ty : ℕ} (l : Layout) (fs gs : List Shape) (knows : lookup rows ty ≡ some (l ++ (boxed fs ∷ []))) (knows' : lookup rows' ty ≡ some (l ++ (boxed gs ∷ []))) where
  pub frame_apart : Apart fs gs → {p tag used : ℕ} {vs : List Value} → read_frame rows s ≡ framed p tag (accepted ty vs used) → read_frame rows' s ≡ framed 0 tag (refused R.StatMalformed 0)
  unfolding read_frame
  frame_apart apart {p} {tag} e =
      frame_inv rows (read_header s) e
      (λ h d e1 e2 e3. body_inv h.ty 7 (lookup rows h.ty) d e3
      (λ m is r e4 e5 e6 e7 e8.
      let j = sym e4 ∙ ap (lookup rows) e6 ∙ knows in
      let k : m ≡ l ++ (boxed fs ∷ []) = cc j in
      after_inv (read_fields l 7 d) _ (sym (more_read l (boxed fs) 7 d) ∙ rw k at e5)
      (λ js t e9 e10. after_inv (read_field (boxed fs) (7 + length (items_bytes js)) t) _ e10
      (λ i u e11 e12.
      let x = ap (λ z. after z (λ ks v. lastly (boxed gs) (7 + length (items_bytes ks)) ks v)) e9 in
      let y = ap (λ z. after z (λ o v. ok (js ++ (o ∷ [])) v)) (box_apart fs gs apart (7 + length (items_bytes js)) t e11) in
      rw (e1, e6, knows', e2) (ap (λ z. framed 0 tag (items_at ty 7 z)) (more_read l (boxed gs) 7 d ∙ x ∙ y))))))
