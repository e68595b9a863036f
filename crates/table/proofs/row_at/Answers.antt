use borrow.Author.Rules.{rules}
use Rattle.table.specs.Rows.{row_at}
use Rattle.table.proofs.row_at.Goals as goal

pub returns : goal.returns
unfolding row_at
returns c =
    search rules
