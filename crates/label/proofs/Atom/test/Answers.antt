use Rattle.label.proofs.CodeLaws.{test-equality, test-other}
use Rattle.label.proofs.Atom.test.Goals as goal

pub returns-then-self-eq-EQUALITY : goal.returns-then-self-eq-EQUALITY
returns-then-self-eq-EQUALITY c =
    search test-equality

pub returns-else-self-eq-EQUALITY : goal.returns-else-self-eq-EQUALITY
returns-else-self-eq-EQUALITY c =
    search test-other
