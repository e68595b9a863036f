use Rattle.regress.proofs.KeptLaws.{row-leaf-kept, row-stop, row-ready, row-three, row_done}
use Rattle.std.proofs.lemmas.Result.{err_from_is_err_and}
use Rattle.regress.proofs.regressed_row.Goals as goal

pub returns-in_err-test-in-Branch : goal.returns-in_err-test-in-Branch
returns-in_err-test-in-Branch c =
    let p = err_from_is_err_and c.from_residual.result c.from_residual.ensures.1 in
    rw (p.1, p.2, ← c.in_err-test-in-Branch.was)
    (row-stop c.requires.lent c.requires.tasked c.requires.ready c.requires.keeps c.in-Branch.is c.kept_truth.ensures c.in_err-test-in-Branch.was)

pub row_step-requires : goal.row_step-requires
row_step-requires c =
    record {
      ready = row-ready c.requires.lent c.requires.tasked c.requires.ready c.requires.keeps c.in-Branch.is c.kept_truth.ensures c.in_ok-test-in-Branch.was
          c.kept_truth.auto.plan;
      three = row-three c.requires.lent c.requires.tasked c.requires.ready c.requires.keeps c.in-Branch.is c.kept_truth.ensures c.in_ok-test-in-Branch.was;
    }

pub returns-in-Leaf : goal.returns-in-Leaf
returns-in-Leaf c =
    row-leaf-kept c.requires.lent c.requires.tasked c.requires.ready c.requires.keeps c.in-Leaf.is c.leaf.ensures c.told.ensures

pub returns-in_ok-test-in-Branch : goal.returns-in_ok-test-in-Branch
returns-in_ok-test-in-Branch c =
    row_done c.requires.lent c.requires.tasked c.requires.ready c.requires.keeps c.in-Branch.is c.kept_truth.ensures c.in_ok-test-in-Branch.was c.row_step.ensures
