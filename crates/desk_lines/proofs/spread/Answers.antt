use Rattle.desk_lines.proofs.SpreadLaws.{count-above, count-unfit, count-fit, countable}
use Rattle.desk_lines.proofs.spread.Goals as goal

pub returns-then-n-gt-OBJECTS : goal.returns-then-n-gt-OBJECTS
returns-then-n-gt-OBJECTS c =
    search count-above

pub count-requires : goal.count-requires
count-requires c =
    search countable

pub returns-then-state_fits : goal.returns-then-state_fits
returns-then-state_fits c =
    search count-fit

pub returns : goal.returns
returns c =
    search count-unfit
