-- A law of CutLaws for each way out, in the order of F6.2.
use native.Mathlib.Omega.{arith}
use Rattle.framing.proofs.CutLaws.{at_past, at_end_lem, at_cut, at_small, at_long, whole_cut, ends_there, stops_there}
use Rattle.framing.proofs.cut_at.Goals as goal

pub returns-then-bytes-position : goal.returns-then-bytes-position
returns-then-bytes-position c = stops_there _ _ (λ ts rs. at_past ts rs _ _ c.if-bytes-position.true)

pub returns-then-bytes-position-2 : goal.returns-then-bytes-position-2
returns-then-bytes-position-2 c = ends_there _ _ (λ ts rs. at_end_lem ts rs _ _ c.if-bytes-position-2.true)

pub returns-in_default : goal.returns-in_default
returns-in_default c = stops_there _ _ (λ ts rs. at_cut ts rs _ _ (omega arith) c.read_u32-size.ensures c.in_default.is)

pub returns-then-size-lt7 : goal.returns-then-size-lt7
returns-then-size-lt7 c = stops_there _ _ (λ ts rs. at_small ts rs _ _ c.read_u32-size.ensures c.in-Ok.is c.if-size-lt7.true)

pub returns-then-not-within : goal.returns-then-not-within
returns-then-not-within c =
    stops_there _ _ (λ ts rs. at_long ts rs _ _ c.read_u32-size.ensures c.in-Ok.is c.if-size-lt7.false c.within.ensures c.if-not-within.true)

pub returns : goal.returns
returns c =
    whole_cut c.read_u32-size.ensures c.in-Ok.is c.if-size-lt7.false c.within.ensures c.if-not-within.false c.read_u8-ty.ensures c.read_u16-tag.ensures
