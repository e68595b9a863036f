use Rattle.checking.proofs.TestLaws.{begins-tells}
use Rattle.checking.proofs.begins.Goals as goal

pub returns : goal.returns
returns c =
    begins-tells _ _ c.starts_with.ensures.value
