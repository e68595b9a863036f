use Rattle.answering.proofs.LineLaws.{cut_parts}
use borrow.Author.Rules.{rules}
use Rattle.answering.proofs.cut_line.Goals as goal

pub returns : goal.returns
returns c =
    search (rules, cut_parts)
