use Rattle.table.specs.Rows.{put_at}
use borrow.Author.Rules.{rules}
use Rattle.table.proofs.put.Goals as goal

pub returns : goal.returns
unfolding put_at
returns c =
    search rules
