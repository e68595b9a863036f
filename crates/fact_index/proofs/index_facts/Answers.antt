use Rattle.fact_index.specs.IndexLaws.{clean-indexed}
use Rattle.fact_index.proofs.FactLaws.{index_on, index-full, index-done}
use Rattle.fact_index.proofs.index_facts.Goals as goal

pub loop-i-init : goal.loop-i-init
loop-i-init c =
    search clean-indexed

pub returns-then-i-index : goal.returns-then-i-index
returns-then-i-index c =
    search index-full

pub loop-i-preserved : goal.loop-i-preserved
loop-i-preserved c =
    search index_on

pub returns : goal.returns
returns c =
    search index-done
