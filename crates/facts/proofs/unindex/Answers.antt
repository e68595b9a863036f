use Rattle.facts.proofs.IndexLaws.{lent_row, unindexing-start, unindexing-on, unindexing-done}
use Rattle.facts.proofs.unindex.Goals as goal

pub loop-i-init : goal.loop-i-init
loop-i-init c =
    search unindexing-start

pub row_bucket-h-requires : goal.row_bucket-h-requires
row_bucket-h-requires c =
    search lent_row

pub loop-i-preserved : goal.loop-i-preserved
loop-i-preserved c =
    search unindexing-on

pub returns : goal.returns
returns c =
    search unindexing-done
