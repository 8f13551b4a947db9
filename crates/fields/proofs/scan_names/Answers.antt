-- A name is refused, by its count, its bytes or its text, or all are passed.
use Rattle.std.specs.Prelude.{◌<◌}
use Rattle.std.proofs.Common.{arith, ◌∙◌}
use Rattle.numbers.proofs.Numbers.{bytes_all}
use Rattle.numbers.proofs.PlaceLaws.{num_fits, inside}
use Rattle.strings.proofs.SpanLaws.{str_is_text}
use Rattle.fields.proofs.Names.{plain_run, all_good, the_name, count_cut, bytes_cut, name_checked, name_plain, none_left, name_bad, one_off}
use Rattle.fields.proofs.scan_names.Goals as goal

pub loop-i-preserved-then-k-gt0 : goal.loop-i-preserved-then-k-gt0
loop-i-preserved-then-k-gt0 c =
    let l = c.loop-i in
    let r = c.plain_from-k.ensures in
    let h = r.held in
    (omega (arith, l.invariant.1), l.invariant.1, plain_run _ l.i _ r l.invariant.2)

pub loop-i-preserved : goal.loop-i-preserved
loop-i-preserved c =
    let l = c.loop-i in
    let w = inside c.within.ensures c.if-not-within.false in
    (omega arith, l.invariant.1, all_good _ l.invariant.1 (str_is_text w (omega arith) c.check_str-q.ensures) c.in-Ok-q.is)

pub names-preserved : goal.names-preserved
names-preserved c =
    let l = c.loop-i in
    let m = the_name c.read_u16-c.ensures c.in-Ok.is c.within.ensures c.if-not-within.false in
    (m.lies, one_off c.if-n-eq0.false (name_plain m (omega (arith, l.invariant.1)) l.invariant.2) c.names.invariant.1)

pub returns-then-n-eq0 : goal.returns-then-n-eq0
returns-then-n-eq0 c =
    let l = c.names in record { next = none_left c.if-n-eq0.true l.invariant.0 l.invariant.1 }

pub returns-in_default : goal.returns-in_default
returns-in_default c =
    record { next = c.in_default.is ∙ name_bad c.if-n-eq0.false (count_cut c.read_u16-c.ensures c.in_default.is) c.names.invariant.1 }

pub returns-then-not-within : goal.returns-then-not-within
returns-then-not-within c =
    record { next = name_bad c.if-n-eq0.false (bytes_cut c.read_u16-c.ensures c.in-Ok.is c.within.ensures c.if-not-within.true) c.names.invariant.1 }

pub returns-in_default-q : goal.returns-in_default-q
returns-in_default-q c =
    let m = the_name c.read_u16-c.ensures c.in-Ok.is c.within.ensures c.if-not-within.false in
    let b = bytes_all c.args.s.now (λ i. (c.type_inv.s i).fits) in
    let f : c.read_u16-c.result.value < 65536 = num_fits b c.read_u16-c.ensures in
    let t = rw c.in_default-q.is at (str_is_text m.lies (omega (arith, f)) c.check_str-q.ensures) in
    record { next = c.in_default-q.is ∙ name_bad c.if-n-eq0.false (name_checked m t) c.names.invariant.1 }
