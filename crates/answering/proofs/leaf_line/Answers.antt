use Rattle.answering.proofs.LineLaws.{leaf-parts}
use borrow.Author.Rules.{rules}
use Rattle.answering.proofs.leaf_line.Goals as goal

pub returns : goal.returns
returns c =
    search (rules, leaf-parts)
