use Rattle.label.proofs.TermLaws.{kind-constant, kind-parameter, kind-gap, kind-variable, kind-minimum, kind-past}
use Rattle.label.proofs.Term.kind.Goals as goal

pub returns-then-t-lt-CONSTANTS : goal.returns-then-t-lt-CONSTANTS
returns-then-t-lt-CONSTANTS c =
    search kind-constant

pub returns-then-t : goal.returns-then-t
returns-then-t c =
    search kind-parameter

pub returns-then-t-lt-FIRST_VARIABLE : goal.returns-then-t-lt-FIRST_VARIABLE
returns-then-t-lt-FIRST_VARIABLE c =
    search kind-gap

pub returns-then-t-2 : goal.returns-then-t-2
returns-then-t-2 c =
    search kind-variable

pub returns-then-t-3 : goal.returns-then-t-3
returns-then-t-3 c =
    search kind-minimum

pub returns : goal.returns
returns c =
    search kind-past
