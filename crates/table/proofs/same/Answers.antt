use borrow.Author.Rules.{rules}
use Rattle.table.specs.Rows.{same_row}
use Rattle.table.proofs.same.Goals as goal

pub returns : goal.returns
unfolding same_row
returns c =
    search rules
