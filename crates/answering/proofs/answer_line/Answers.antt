use Rattle.std.specs.Prelude.{◌≡◌, []}
use Rattle.std.proofs.Common.{arith}
use Rattle.answers.specs.Answers.{answer_line}
use Rattle.answering.proofs.LineLaws.{line-value, line-backup, line-cut, line-reduce, line_refused, line-best, line-did, line-none}
use Rattle.answering.proofs.answer_line.Goals as goal

pub returns-in-Value : goal.returns-in-Value
returns-in-Value c =
    search line-value

pub returns-in-Backup : goal.returns-in-Backup
returns-in-Backup c =
    search line-backup

pub returns-in-Cut : goal.returns-in-Cut
returns-in-Cut c =
    search line-cut

pub returns-in-Reduce : goal.returns-in-Reduce
returns-in-Reduce c =
    search line-reduce

pub returns-in-Refused : goal.returns-in-Refused
returns-in-Refused c =
    search line_refused

pub returns-in-Best : goal.returns-in-Best
returns-in-Best c =
    search line-best

pub returns-in-Did : goal.returns-in-Did
returns-in-Did c =
    search line-did

pub returns-in-Show : goal.returns-in-Show
unfolding answer_line
returns-in-Show c =
    let e : answer_line c.args.answer ≡ [] = grind (arith, c.in-Show.is) in line-none c.args.line.now c.args.answer e
