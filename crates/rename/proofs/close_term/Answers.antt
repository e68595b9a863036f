use Rattle.rename.proofs.MapSteps.{close-is-low, close-is-unused, close-is-number}
use Rattle.rename.proofs.close_term.Goals as goal

pub returns-then-t-lt-FIRST_VARIABLE : goal.returns-then-t-lt-FIRST_VARIABLE
returns-then-t-lt-FIRST_VARIABLE c =
    search close-is-low

pub returns-then-used-t-eq0 : goal.returns-then-used-t-eq0
returns-then-used-t-eq0 c =
    search close-is-unused

pub returns-else-used-t-eq0 : goal.returns-else-used-t-eq0
returns-else-used-t-eq0 c =
    search close-is-number
