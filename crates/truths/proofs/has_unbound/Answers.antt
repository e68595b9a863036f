use Rattle.truths.specs.TruthCheckLaws.{unbound-is}
use Rattle.truths.proofs.has_unbound.Goals as goal

pub returns : goal.returns
returns c =
    search unbound-is
