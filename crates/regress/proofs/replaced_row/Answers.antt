use Rattle.regress.proofs.RowsLaws.{leaf-told, branch-movable, branch-testable, branch-two, branch-replaced}
use borrow.Author.Rules.{rules}
use Rattle.regress.proofs.replaced_row.Goals as goal

pub moved-test-requires : goal.moved-test-requires
moved-test-requires c =
    branch-movable c.requires.mapping c.requires.tasked c.in-Branch.is

pub test_step-requires-clause-ready : goal.test_step-requires-clause-ready
test_step-requires-clause-ready c =
    c.requires.ready

pub test_step-requires-clause-testable : goal.test_step-requires-clause-testable
test_step-requires-clause-testable c =
    branch-testable c.requires.mapping c.requires.tasked c.in-Branch.is c.moved-test.ensures

pub test_step-requires-clause-two : goal.test_step-requires-clause-two
test_step-requires-clause-two c =
    branch-two c.requires.mapping c.requires.tasked c.in-Branch.is

pub returns-in-Leaf : goal.returns-in-Leaf
returns-in-Leaf c =
    search (rules, leaf-told, branch-replaced)

pub returns-in-Branch : goal.returns-in-Branch
returns-in-Branch c =
    branch-replaced c.requires.mapping c.requires.tasked c.in-Branch.is c.moved-test.ensures c.test_step.ensures
