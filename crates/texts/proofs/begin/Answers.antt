use Rattle.texts.proofs.RunLaws.{begins}
use Rattle.texts.proofs.begin.Goals as goal

pub returns : goal.returns
returns c =
    begins c.open-numbers.ensures
