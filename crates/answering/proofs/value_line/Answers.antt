use Rattle.answering.proofs.LineLaws.{value-parts}
use borrow.Author.Rules.{rules}
use Rattle.answering.proofs.value_line.Goals as goal

pub returns : goal.returns
returns c =
    search (rules, value-parts)
