-- Text with no byte above 127 is UTF-8, and text whose least byte is not 0 has no zero byte.
use mathlib.Core.Path.{sym, ◌∙◌}
use native.Mathlib.Omega.{arith}
use Rattle.utf8.proofs.Utf8Laws.{ascii_text, zero_text, full_text}
use Rattle.utf8.proofs.StartLaws.{sound_whole, sound_part}
use Rattle.strings.proofs.Ways.{zero_lies, text_bad, text_zero, text_fine}
use Rattle.strings.proofs.check_text.Goals as goal
use Rattle.strings.proofs.check_text.Goals.{then-e-ge-BEYOND_ASCII+else-n-text, else-e-ge-BEYOND_ASCII}

pub returns-then-n-text : goal.returns-then-n-text
returns-then-n-text c =
    let e = c.sound_start-n.ensures in
    text_bad c.in_ok-at.was (sound_part _ e c.if-n-text.true) e

pub overflow_add-result-then-e-eq0 : goal.overflow_add-result-then-e-eq0
overflow_add-result-then-e-eq0 c =
    let a = c.args in
    omega (arith, zero_lies a.s.now a.v.start a.v.len (omega arith) c.zero_at.ensures)

pub returns-then-e-eq0 : goal.returns-then-e-eq0
returns-then-e-eq0 c =
    text_zero c.in_ok-at.was (elim c.if-e-ge-BEYOND_ASCII.branch [ then-e-ge-BEYOND_ASCII+else-n-text w ↦ sound_whole _ w.sound_start-n.ensures w.if-n-text.false | else-e-ge-BEYOND_ASCII w ↦ ascii_text _ (omega (arith, c.extremes_of-e.ensures.1)) ]) (zero_text _ (sym c.extremes_of-e.ensures.0 ∙ c.if-e-eq0.true)) c.zero_at.ensures

pub returns : goal.returns
returns c =
    text_fine c.in_ok-at.was (elim c.if-e-ge-BEYOND_ASCII.branch [ then-e-ge-BEYOND_ASCII+else-n-text w ↦ sound_whole _ w.sound_start-n.ensures w.if-n-text.false | else-e-ge-BEYOND_ASCII w ↦ ascii_text _ (omega (arith, c.extremes_of-e.ensures.1)) ]) (full_text _ (λ e. c.if-e-eq0.false (c.extremes_of-e.ensures.0 ∙ e)))
