use native.Mathlib.Omega.{arith}
use Rattle.texts.proofs.MoveLaws.{stepped}
use Rattle.texts.proofs.CarriedLaws.{reply-carried}
use Rattle.texts.proofs.next_line.Goals as goal

pub returns-clause-steps : goal.returns-clause-steps
returns-clause-steps c =
    stepped c.args.r c.requires.going c.reply_line-sent.ensures c.args.next
    c.met_behind-met.ensures c.behind_reply.ensures

pub returns-clause-carried : goal.returns-clause-carried
returns-clause-carried c =
    reply-carried c.reply_line-sent.result.put c.reply_line-sent.ensures.carried _ _ c.args.next c.args.r c.behind_reply.ensures

pub overflow_add-number : goal.overflow_add-number
overflow_add-number c =
    omega (arith, c.requires.lines_lt_most_lines)
