use Rattle.restoring.proofs.TestLaws.{arities-none, arities-rest}
use Rattle.std.proofs.lemmas.Bool.{not_from_false}
use Rattle.std.proofs.lemmas.Bool.{not_from_true}
use Rattle.restoring.proofs.arities_fit.Goals as goal

pub returns-then-not-are_arities : goal.returns-then-not-are_arities
returns-then-not-are_arities c =
    arities-none _ _ c.are_arities.ensures (not_from_false _ c.if-not-are_arities.true)

pub returns : goal.returns
returns c =
    arities-rest _ _ c.are_arities.ensures (not_from_true _ c.if-not-are_arities.false) c.undeclared_fit.ensures
