use Rattle.texts.proofs.MoveLaws.{reply-at, reply-full}
use Rattle.texts.proofs.behind_reply.Goals as goal

pub returns-in-Some : goal.returns-in-Some
returns-in-Some c =
    reply-at c.args.sent.numbers c.args.number c.args.met c.args.next c.args.r c.in-Some.is

pub returns-in-None : goal.returns-in-None
returns-in-None c =
    reply-full c.args.sent.numbers c.args.number c.args.met c.args.next c.args.r c.in-None.is
