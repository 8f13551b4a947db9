-- An even type is read as a request, any other as a reply.
use Rattle.stretch.specs.StepLaws.{request_body, reply_body}
use Rattle.stretch.proofs.read_body.Goals as goal

pub returns-then-ty-eq0 : goal.returns-then-ty-eq0
returns-then-ty-eq0 c = request_body _ c.if-ty-eq0.true c.request_at.ensures

pub returns-else-ty-eq0 : goal.returns-else-ty-eq0
returns-else-ty-eq0 c = reply_body _ c.if-ty-eq0.false c.reply_at.ensures
