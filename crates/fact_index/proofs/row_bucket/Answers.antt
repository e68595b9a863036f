use Rattle.fact_index.specs.IndexLaws.{hashing-start}
use Rattle.fact_index.proofs.FactLaws.{row_on, row-bucket}
use borrow.Author.Rules.{rules}
use Rattle.fact_index.proofs.row_bucket.Goals as goal

pub loop-j-init : goal.loop-j-init
loop-j-init c =
    search hashing-start

pub loop-j-preserved : goal.loop-j-preserved
loop-j-preserved c =
    search row_on

pub returns : goal.returns
returns c =
    (search row-bucket, search rules)
