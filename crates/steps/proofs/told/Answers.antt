use Rattle.steps.specs.Steps.{told_as}
use mathlib.Core.Path.{sym, ap}
use Rattle.steps.proofs.told.Goals as goal

pub returns-in-Done : goal.returns-in-Done
returns-in-Done c =
    ap told_as (sym c.in-Done.is)

pub returns-in-Refused : goal.returns-in-Refused
returns-in-Refused c =
    ap told_as (sym c.in-Refused.is)
