use mathlib.Core.Path.{sym, ap}
use Rattle.weights.specs.Weighing.{judged_as}
use Rattle.weights.proofs.judge.Goals as goal

pub returns-in-Many : goal.returns-in-Many
returns-in-Many c =
    sym (ap judged_as c.in-Many.is)

pub returns-in-Others : goal.returns-in-Others
returns-in-Others c =
    sym (ap judged_as c.in-Others.is)

pub returns-in-Only : goal.returns-in-Only
returns-in-Only c =
    sym (ap judged_as c.in-Only.is)
