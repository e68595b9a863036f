use Rattle.answering.proofs.LineLaws.{branch-parts}
use borrow.Author.Rules.{rules}
use Rattle.answering.proofs.branch_line.Goals as goal

pub returns : goal.returns
returns c =
    search (rules, branch-parts)
