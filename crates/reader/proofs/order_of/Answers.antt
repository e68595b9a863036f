use Rattle.reader.proofs.NumberCode.{order-is}
use Rattle.reader.proofs.order_of.Goals as goal

pub returns : goal.returns
returns c =
    search order-is
