use mathlib.Core.Path.{refl}
use Rattle.texts.proofs.MoveLaws.{met-now}
use Rattle.texts.proofs.met_behind.Goals as goal

pub returns-then-met : goal.returns-then-met
returns-then-met c =
    rw c.if-met.true refl

pub returns-else-met : goal.returns-else-met
returns-else-met c =
    met-now c.args.line.now c.if-met.false
