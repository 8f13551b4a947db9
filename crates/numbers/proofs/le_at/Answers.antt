use Rattle.std.specs.Prelude.{◌+◌, ◌-◌, ◌≡◌, refl, take, drop}
use Rattle.std.proofs.Common.{arith}
use Rattle.numbers.proofs.Numbers.{bytes_all}
use Rattle.numbers.proofs.Loops.{taken_begins, taken_turn, taken_fits, taken_ends}
use Rattle.numbers.proofs.le_at.Goals as goal

pub loop-b-init : goal.loop-b-init
loop-b-init c =
    let a = c.args in
    let e : a.at + a.width - a.at ≡ a.width = omega arith in
    let p : c.into_iter-b-iterator.result.iter.rest.now ≡ take a.width (drop a.at a.s.now)
    = rw (c.into_iter-b-iterator.ensures.into_iter_gives, c.rev-b-items.ensures.source, c.iter.ensures.rest, e) refl in
    taken_begins a.s.now a.at a.width (bytes_all a.s.now (λ i. (c.type_inv.s i).fits)) p c.requires.1

pub overflow_mul-v : goal.overflow_mul-v
overflow_mul-v c =
    let f = taken_fits c.next.new.self.iter.rest.now c.in-Some.field-0.now c.loop-b.invariant c.in-Some.ensures.steps c.requires.0 in omega (arith, f)

pub overflow_add-v : goal.overflow_add-v
overflow_add-v c =
    let f = taken_fits c.next.new.self.iter.rest.now c.in-Some.field-0.now c.loop-b.invariant c.in-Some.ensures.steps c.requires.0 in rw c.from.ensures (omega (arith, f))

pub loop-b-preserved : goal.loop-b-preserved
loop-b-preserved c = rw c.from.ensures (taken_turn c.next.new.self.iter.rest.now c.in-Some.field-0.now c.loop-b.invariant c.in-Some.ensures.steps)

pub returns : goal.returns
returns c = let e = c.in-None.ensures in taken_ends c.loop-b.invariant e.steps.0
