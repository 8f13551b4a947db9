-- The header is refused, or the body is read from where it stands.
use Rattle.std.proofs.Common.{arith, sym, length-take-le}
use Rattle.numbers.proofs.Numbers.{bytes_all}
use Rattle.framing.proofs.Standing.{own_held}
use Rattle.frames.specs.FrameLaws.{tframe_no, tframe_yes}
use Rattle.frames.proofs.read_tframe_at.Goals as goal

pub returns-in_default : goal.returns-in_default
returns-in_default c = tframe_no _ _ c.min-at.ensures _ c.read_header-read.ensures c.unwrap_err.ensures

pub overflow_add-at : goal.overflow_add-at
overflow_add-at c =
    let a = c.args in
    omega (arith, (own_held a.s.now a.position c.min-at.ensures c.read_header-read.ensures c.in-Ok.is).1)

pub slice_bounds-request_at-end : goal.slice_bounds-request_at-end
slice_bounds-request_at-end c =
    let a = c.args in
    sym (length-take-le _ _ (own_held a.s.now a.position c.min-at.ensures c.read_header-read.ensures c.in-Ok.is).1)

pub returns : goal.returns
returns c =
    let b = bytes_all c.args.s.now (λ i. (c.type_inv.s i).fits) in
    tframe_yes _ _ c.min-at.ensures _ c.read_header-read.ensures _ b c.in-Ok.is c.request_at.ensures
