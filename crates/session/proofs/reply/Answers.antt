use mathlib.Core.Path.{refl}
use Rattle.session.proofs.Ways.{reply_closes}
use Rattle.session.proofs.reply.Goals as goal

pub returns-then-only_closes : goal.returns-then-only_closes
returns-then-only_closes c =
    let a = c.args in
    let f = c.in-Some.ensures in
    reply_closes a.stretch.now a.s a.tag a.ty a.qids f.0 f.1 _ refl c.only_closes.ensures c.if-only_closes.true c.accepts.ensures
