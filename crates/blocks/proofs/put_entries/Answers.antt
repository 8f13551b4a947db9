-- The row is that of the whole table.
use native.Mathlib.Omega.{arith}
use mathlib.Core.Path.{refl}
use Rattle.blocks.proofs.PackLaws.{row_before, put_none, put_room, put_fit, put_length, put_next}
use Rattle.blocks.proofs.put_entries.Goals as goal

pub loop-row-init : goal.loop-row-init
loop-row-init c = (refl, put_none _ _ _)

pub put_entry-requires : goal.put_entry-requires
put_entry-requires c =
    let b = row_before c.args.entries.now c.args.count c.loop-row-test.true in
    let i = c.loop-row.invariant in
    rw b.1 (put_room c.requires b.0 i.1 i.0)

pub overflow_add-at-in-loop-row : goal.overflow_add-at-in-loop-row
overflow_add-at-in-loop-row c =
    let b = row_before c.args.entries.now c.args.count c.loop-row-test.true in
    rw b.1 (omega (arith, put_fit c.requires b.0 c.loop-row.invariant.1))

pub loop-row-preserved : goal.loop-row-preserved
loop-row-preserved c =
    let r = c.requires in
    let b = row_before c.args.entries.now c.args.count c.loop-row-test.true in
    let i = c.loop-row.invariant in
    let e = rw b.1 at c.put_entry.ensures in
    rw b.1 (put_length r b.0 i.1 i.0 e, put_next r b.0 i.1 e)
