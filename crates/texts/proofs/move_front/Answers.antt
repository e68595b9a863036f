use mathlib.Core.Path.{refl}
use Rattle.texts.proofs.KeepLaws.{front-pasted}
use Rattle.texts.proofs.move_front.Goals as goal

pub returns : goal.returns
returns c =
    rw c.copy_within.ensures.after (front-pasted c.args.block.now c.args.at _ c.args.n refl c.requires)
