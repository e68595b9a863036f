use Rattle.fact_index.proofs.FactLaws.{cleaning-start, cleaning-on, cleaning-done}
use Rattle.fact_index.proofs.clear_index.Goals as goal

pub loop-i-init : goal.loop-i-init
loop-i-init c =
    search cleaning-start

pub loop-i-preserved : goal.loop-i-preserved
loop-i-preserved c =
    search cleaning-on

pub returns : goal.returns
returns c =
    search cleaning-done
