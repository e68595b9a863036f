use Rattle.planner.proofs.PowerLaws.{laid-numbers, next-few, backed-ends, backed-told}
use mathlib.Core.Path.{sym, ap}
use Rattle.planner.specs.Backed.{backed_step}
use Rattle.planner.proofs.backup.Goals as goal

pub next_power-p-requires-clause-numbers : goal.next_power-p-requires-clause-numbers
next_power-p-requires-clause-numbers c =
    laid-numbers c.requires.laid

pub next_power-p-requires-clause-powered : goal.next_power-p-requires-clause-powered
next_power-p-requires-clause-powered c =
    c.requires.powered

pub returns-in_default : goal.returns-in_default
returns-in_default c =
    backed-ends c.requires.laid _ c.next_power-p.ensures c.in_default.is _

pub replace_value-r-requires-clause-laid : goal.replace_value-r-requires-clause-laid
replace_value-r-requires-clause-laid c =
    c.requires.laid

pub replace_value-r-requires-clause-standing : goal.replace_value-r-requires-clause-standing
replace_value-r-requires-clause-standing c =
    c.requires.standing

pub replace_value-r-requires-clause-scale_le_highest_value : goal.replace_value-r-requires-clause-scale_le_highest_value
replace_value-r-requires-clause-scale_le_highest_value c =
    next-few c.requires.laid _ c.next_power-p.ensures c.in-Some.is

pub returns-in_default-r : goal.returns-in_default-r
returns-in_default-r c =
    backed-told c.requires.laid _ c.next_power-p.ensures c.in-Some.is _ c.replace_value-r.ensures c.backed_step.ensures

pub returns : goal.returns
returns c =
    backed-told c.requires.laid _ c.next_power-p.ensures c.in-Some.is _ c.replace_value-r.ensures
    (ap (backed_step _) (sym c.in-Ok.is))
