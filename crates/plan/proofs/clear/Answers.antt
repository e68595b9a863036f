use Rattle.plan.proofs.StepLaws.{clear-key, clear-on}
use Rattle.plan.proofs.clear.Goals as goal

pub hash-h-requires : goal.hash-h-requires
hash-h-requires c =
    search clear-key

pub loop-i-preserved : goal.loop-i-preserved
loop-i-preserved c =
    search clear-on
