use Rattle.valuing.proofs.CheckLaws.{state-1, state-2, state-3}
use Rattle.valuing.proofs.state_fits.Goals as goal

pub returns-then-n-eq0 : goal.returns-then-n-eq0
returns-then-n-eq0 c =
    search state-1

pub returns-else-constants_fit : goal.returns-else-constants_fit
returns-else-constants_fit c =
    search state-2

pub returns-then-constants_fit : goal.returns-then-constants_fit
returns-then-constants_fit c =
    search state-3
