use lib.Dec.{leb}
use borrow.Author.Rules.{rules}
use borrow.Author.Tests.{tests}
use Rattle.std.proofs.lemmas.Iterator.{YieldsList-from_slice}
use Rattle.std.proofs.lemmas.Iterator.Search.{all_from_yields_List}
use Rattle.label.specs.Limits.{most_places}
use Rattle.label.proofs.CodeLaws.{arities-are, arities-not-equality, arities-not-length}
use Rattle.label.proofs.are_arities.Goals as goal

pub returns-then-arities-ne-PREDICATES : goal.returns-then-arities-ne-PREDICATES
returns-then-arities-ne-PREDICATES c =
    search arities-not-length

pub returns-then-arities-eq-EQUALITY_ARITY : goal.returns-then-arities-eq-EQUALITY_ARITY
returns-then-arities-eq-EQUALITY_ARITY c =
    arities-are c.args.arities.now c.if-arities-ne-PREDICATES.false c.if-arities-eq-EQUALITY_ARITY.true
    (all_from_yields_List (λ x. leb x most_places) _ _ _ c.all.ensures.ran (YieldsList-from_slice c.args.arities.now (cc)) (λ x b q k. search (rules, tests)))

pub returns-else-arities-eq-EQUALITY_ARITY : goal.returns-else-arities-eq-EQUALITY_ARITY
returns-else-arities-eq-EQUALITY_ARITY c =
    search arities-not-equality
