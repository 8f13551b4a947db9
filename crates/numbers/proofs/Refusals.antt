-- What holds of the definitions in specs/Refusals.antt.
use Rattle.std.specs.Prelude.{◌≡◌, refl, List, [], ◌∷◌, get_or}
use Rattle.std.proofs.Common.{sym, ap, ◌∙◌}
use Rattle.numbers.specs.declared.Refusal.{Refusal}
use Rattle.numbers.specs.declared.Refusal.TheVariants as R
use Rattle.numbers.specs.Refusals.{number_of}

-- ---- no two have one number, so that a promise which fixes the refusal fixes its number, and the other way round

-- in the order of their numbers, from 0 on; `Short` stands where a number is no refusal's
abbrev by_number : List Refusal
by_number = R.Short ∷ R.Short ∷ R.SizeBelowFour ∷ R.UnknownType ∷ R.DataTooLong ∷ R.NotUtf8 ∷ R.ZeroByte ∷ R.StringTooLong ∷ R.TableTooLong ∷ R.SpanOutside ∷ R.FrameTooLong ∷ R.NoRoom ∷ R.StretchCut ∷ R.StretchSize ∷ R.PartMalformed ∷ R.NoSuchElement ∷ R.HoldsRefusal ∷ R.TooManyElements ∷ R.StatMalformed ∷ R.Trailer ∷ R.TagOpen ∷ R.NoRequest ∷ R.FidInUse ∷ R.FidUnknown ∷ R.TableFull ∷ R.Capture ∷ R.MsizeTooSmall ∷ R.EndTooFar ∷ []

there : (k : Refusal) → get_or by_number (number_of k) R.Short ≡ k
there R.Short = refl
there R.SizeBelowFour = refl
there R.UnknownType = refl
there R.DataTooLong = refl
there R.NotUtf8 = refl
there R.ZeroByte = refl
there R.StringTooLong = refl
there R.TableTooLong = refl
there R.SpanOutside = refl
there R.FrameTooLong = refl
there R.NoRoom = refl
there R.StretchCut = refl
there R.StretchSize = refl
there R.PartMalformed = refl
there R.NoSuchElement = refl
there R.HoldsRefusal = refl
there R.TooManyElements = refl
there R.StatMalformed = refl
there R.Trailer = refl
there R.TagOpen = refl
there R.NoRequest = refl
there R.FidInUse = refl
there R.FidUnknown = refl
there R.TableFull = refl
there R.Capture = refl
there R.MsizeTooSmall = refl
there R.EndTooFar = refl

pub number_one : {j k : Refusal} → number_of j ≡ number_of k → j ≡ k
number_one {j} {k} e = sym (there j) ∙ ap (λ n. get_or by_number n R.Short) e ∙ there k
