use Rattle.valuing.proofs.RisingLaws.{turned-lower, turned-upper}
use Rattle.valuing.proofs.turned_leaf.Goals as goal

pub returns-then-x-best : goal.returns-then-x-best
returns-then-x-best c =
    search turned-lower

pub returns : goal.returns
returns c =
    search turned-upper
