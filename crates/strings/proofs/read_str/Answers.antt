-- The count, the bytes, then the text: a law of Ways for each way out.
use Rattle.std.specs.Prelude.{refl}
use Rattle.strings.proofs.Ways.{str_cut, str_short, str_bad, str_good, text_plain}
use Rattle.strings.proofs.read_str.Goals as goal

pub returns-in_default : goal.returns-in_default
returns-in_default c = let e = c.no_span.ensures in rw (e.0, e.1, e.2) (str_cut c.read_u16-count.ensures c.in_default.is)

pub returns-then-not-within : goal.returns-then-not-within
returns-then-not-within c =
    let e = c.no_span-then-not-within.ensures in rw (e.0, e.1, e.2) (str_short c.read_u16-count.ensures c.in-Ok.is c.within.ensures c.if-not-within.true)

pub returns-then-short_plain : goal.returns-then-short_plain
returns-then-short_plain c =
    str_good c.read_u16-count.ensures c.in-Ok.is c.within.ensures c.if-not-within.false (text_plain refl c.short_plain.ensures c.if-short_plain.true) refl

pub returns-in_default-next : goal.returns-in_default-next
returns-in_default-next c =
    let e = c.no_span-in_default-next.ensures in rw (e.0, e.1, e.2) (str_bad c.read_u16-count.ensures c.in-Ok.is c.within.ensures c.if-not-within.false c.check_text-next.ensures c.in_default-next.is)

pub returns : goal.returns
returns c =
    str_good c.read_u16-count.ensures c.in-Ok.is c.within.ensures c.if-not-within.false c.check_text-next.ensures c.in-Ok-next.is
