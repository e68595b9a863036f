use lib.ListN.{length-set}
use Rattle.facts.proofs.IndexLaws.{lent_row, rowing_start, rowing-on, rowing-done}
use borrow.Author.Rules.{rules}
use Rattle.facts.proofs.index.Goals as goal

pub loop-i-init : goal.loop-i-init
loop-i-init c =
    search rowing_start

pub row_bucket-h-requires : goal.row_bucket-h-requires
row_bucket-h-requires c =
    search lent_row

pub bounds-state-h-in-loop-i : goal.bounds-state-h-in-loop-i
bounds-state-h-in-loop-i c =
    simp length-set (search rules)

pub loop-i-preserved : goal.loop-i-preserved
loop-i-preserved c =
    search rowing-on

pub returns : goal.returns
returns c =
    search rowing-done
