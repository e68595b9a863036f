use Rattle.rename.proofs.MapSteps.{free-constant, free-parameter, free_other, free-variable, free-minimum}
use Rattle.rename.proofs.free_term.Goals as goal

pub returns-then-t-lt-FIRST_PARAMETER : goal.returns-then-t-lt-FIRST_PARAMETER
returns-then-t-lt-FIRST_PARAMETER c =
    search free-constant

pub returns-then-t-count : goal.returns-then-t-count
returns-then-t-count c =
    search free-parameter

pub returns-then-t-lt-FIRST_VARIABLE : goal.returns-then-t-lt-FIRST_VARIABLE
returns-then-t-lt-FIRST_VARIABLE c =
    search free_other

pub returns-then-t-lt-FIRST_MINIMUM : goal.returns-then-t-lt-FIRST_MINIMUM
returns-then-t-lt-FIRST_MINIMUM c =
    search free-variable

pub returns : goal.returns
returns c =
    search free-minimum
