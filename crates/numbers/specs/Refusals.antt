-- The number of each refusal (F9).
use Rattle.std.specs.Prelude.{ℕ}
use Rattle.numbers.specs.declared.Refusal.{Refusal}
use Rattle.numbers.specs.declared.Refusal.TheVariants as R

abbrev pub number_of : Refusal → ℕ
number_of R.Short = 1
number_of R.SizeBelowFour = 2
number_of R.UnknownType = 3
number_of R.DataTooLong = 4
number_of R.NotUtf8 = 5
number_of R.ZeroByte = 6
number_of R.StringTooLong = 7
number_of R.TableTooLong = 8
number_of R.SpanOutside = 9
number_of R.FrameTooLong = 10
number_of R.NoRoom = 11
number_of R.StretchCut = 12
number_of R.StretchSize = 13
number_of R.PartMalformed = 14
number_of R.NoSuchElement = 15
number_of R.HoldsRefusal = 16
number_of R.TooManyElements = 17
number_of R.StatMalformed = 18
number_of R.Trailer = 19
number_of R.TagOpen = 20
number_of R.NoRequest = 21
number_of R.FidInUse = 22
number_of R.FidUnknown = 23
number_of R.TableFull = 24
number_of R.Capture = 25
number_of R.MsizeTooSmall = 26
number_of R.EndTooFar = 27
