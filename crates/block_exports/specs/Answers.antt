-- What crosses to Rust of a directory block: an outcome with the values of an entry, and how many entries were packed.
use Rattle.std.specs.Prelude.{ℕ, ◌≡◌, refl, true, List, length, Ok, Err, Some, None}
use Rattle.std.proofs.Common.{sym, ap, ◌∙◌}
use Rattle.numbers.proofs.PlaceLaws.{one_answer}
use Rattle.numbers.specs.Refusals.{number_of}
use Rattle.numbers.specs.declared.Fault.{Fault}
use Rattle.layouts.specs.Records.{dirent}
use Rattle.flat.specs.Flat.{flat_values, stored}
use Rattle.exports.specs.declared.Outcome.{Outcome}
use Rattle.exports.specs.Answers.{outcome_of, ended, Answered}
use Rattle.blocks.specs.declared.Listed.{Listed}
use Rattle.blocks.specs.declared.NoEntry.{NoEntry}
use Rattle.blocks.specs.Blocks.{Found, entry, end, stop, entry_at, Pack, holds, refuses, pack_in, laid_in}
use Rattle.blocks.specs.Views.{Step, Packing, view_step, Asked, told, PackedInto}
use Rattle.blocks.specs.declared.Packed.{Packed as Count}
use Rattle.block_exports.specs.declared.Packed.{Packed}

-- ---- an entry at a position

-- an entry is told by the place after it; the end by its own place, and no entry; a refusal by its place: where it stands, the caller knows
abbrev pub entry_outcome : Found → Outcome
entry_outcome (entry at vs next) = outcome_of 0 0 true (Ok next)
entry_outcome (end at) = ended (Ok at)
entry_outcome (stop k n at) = ended (Err (k, n))

-- its values are laid flat; where there is none, the lent ones are as they were
abbrev pub entry_values : List ℕ → Found → List ℕ
entry_values ns (entry at vs next) = stored ns 0 (flat_values vs)
entry_values ns (end at) = ns
entry_values ns (stop k n at) = ns

pub record EntryRead (s : List ℕ) (p : ℕ) (before after : List ℕ) (r : Outcome) : Type 0 where
  pub is : Answered (entry_outcome (entry_at s p)) (entry_values before (entry_at s p)) after r

module _ {s : List ℕ} {p : ℕ} {before after : List ℕ} {x : Step} {r : Outcome} (a : Asked s p x) where
  found : {y : Step} → x ≡ y → r ≡ entry_outcome (view_step p y) → after ≡ entry_values before (view_step p y) → EntryRead s p before after r
  found e f g =
      let h = ap (view_step p) (sym e) ∙ a.is in record { is = record { answer = f ∙ ap entry_outcome h; left = g ∙ ap (entry_values before) h } }

  pub entry_there : {l : Listed} → x ≡ Ok (Some l) → after ≡ stored before 0 (flat_values (dirent l.entry)) → r ≡ outcome_of 0 0 true (Ok l.next) → EntryRead s p before after r
  entry_there e f g = found e g f

module _ {s : List ℕ} {p : ℕ} {before : List ℕ} {x : Step} {r : Outcome} (a : Asked s p x) where
  pub end_there : x ≡ Ok None → r ≡ ended (Ok p) → EntryRead s p before before r
  end_there e g = found a e g refl

  pub stop_there : {y : NoEntry} → x ≡ Err y → r ≡ ended (Err y.fault) → EntryRead s p before before r
  stop_there e g = found a e g refl

-- ---- packing

abbrev pub packed_of : Pack → Packed
packed_of (holds n bs) = record { refusal = 0; entries = n; place = length bs }
packed_of (refuses k at) = record { refusal = number_of k; entries = 0; place = at }

pub record PackWritten (count : ℕ) (names : List ℕ) (rows : List (List ℕ)) (o o' : List ℕ) (r : Packed) : Type 0 where
  pub answer : r ≡ packed_of (pack_in count (length o) names rows)
  pub left : o' ≡ laid_in o (pack_in count (length o) names rows)

pub pack_one : {count : ℕ} {names : List ℕ} {rows : List (List ℕ)} {o o1 o2 : List ℕ} {r r' : Packed} → PackWritten count names rows o o1 r → PackWritten count names rows o o2 r' → (o1 ≡ o2) × (r ≡ r')
pack_one a b = (one_answer a.left b.left, one_answer a.answer b.answer)

-- the same of what the packer tells
abbrev crossed : Packing → Packed
crossed (Ok p) = record { refusal = 0; entries = p.entries; place = p.bytes }
crossed (Err f) = record { refusal = number_of f.0; entries = 0; place = f.1 }

crossed_told : (x : Pack) → crossed (told x) ≡ packed_of x
crossed_told (holds n bs) = refl
crossed_told (refuses k at) = refl

module _ {count : ℕ} {names : List ℕ} {rows : List (List ℕ)} {o o' : List ℕ} {x : Packing} (p : PackedInto count names rows o o' x) where
  across : {y : Packing} → x ≡ y → PackWritten count names rows o o' (crossed y)
  across e = record { answer = ap crossed (sym e ∙ p.answer) ∙ crossed_told (pack_in count (length o) names rows); left = p.left }

  pub packed_there : {y : Count} → x ≡ Ok y → PackWritten count names rows o o' (record { refusal = 0; entries = y.entries; place = y.bytes })
  packed_there e = across e

  pub refused_there : {f : Fault} {m : ℕ} → x ≡ Err f → m ≡ number_of f.0 → PackWritten count names rows o o' (record { refusal = m; entries = 0; place = f.1 })
  refused_there e g = rw g (across e)
