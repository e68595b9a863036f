use Rattle.valuing.proofs.FactLaws.{read_past}
use Rattle.valuing.proofs.constant.Goals as goal

pub returns : goal.returns
returns c =
    search read_past
