-- Each part is what its function answers; the bytes that are given and those that are added stand in the room together.
use Rattle.std.proofs.Common.{length, arith}
use Rattle.questions.proofs.Loops.{spelt_pairs}
use Rattle.questions.proofs.Taking.{taken}
use Rattle.questions.proofs.read.Goals as goal

pub is_sound-requires : goal.is_sound-requires
is_sound-requires c =
    omega (arith, c.spell-given.ensures.count, spelt_pairs (length c.args.bytes.now) c.after-hex.result.now)

pub returns : goal.returns
returns c =
    let a = c.args in
    taken a.line.now c.end_of-end.ensures c.part.ensures c.numbers_of-numbers.ensures c.after-hex.ensures c.spell-given.ensures c.repeat-held.ensures c.byte_at.ensures c.byte_at-2.ensures c.is_sound.ensures
