use Rattle.planner.specs.Backed.{backed_step}
use mathlib.Core.Path.{sym, ap}
use Rattle.planner.proofs.backed_step.Goals as goal

pub returns-in-Ok : goal.returns-in-Ok
returns-in-Ok c =
    ap (backed_step _) (sym c.in-Ok.is)

pub returns-in-Err : goal.returns-in-Err
returns-in-Err c =
    ap (backed_step _) (sym c.in-Err.is)
