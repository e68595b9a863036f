use Rattle.std.proofs.lemmas.Result.{err_from_is_err_and}
use Rattle.row_steps.proofs.StepRunLaws.{split-left, split-two, split-right, split-two-2, split-sum}
use Rattle.row_steps.proofs.split_step.Goals as goal

pub returns-in_err-left : goal.returns-in_err-left
returns-in_err-left c =
    let p = err_from_is_err_and c.from_residual.result c.from_residual.ensures.1 in
    rw (p.1, p.2) (split-left c.requires.ready c.requires.four c.join.ensures c.in_err-left.was)

pub join-requires-2-clause-two : goal.join-requires-2-clause-two
join-requires-2-clause-two c =
    split-two c.requires.ready c.requires.four c.join.ensures c.in_ok-left.was

pub returns-in_err-right : goal.returns-in_err-right
returns-in_err-right c =
    let p = err_from_is_err_and c.from_residual-in_err-right.result c.from_residual-in_err-right.ensures.1 in
    rw (p.1, p.2) (split-right c.requires.ready c.requires.four c.join.ensures c.in_ok-left.was c.join-2.ensures c.in_err-right.was)

pub join-requires-3-clause-two : goal.join-requires-3-clause-two
join-requires-3-clause-two c =
    split-two-2 c.requires.ready c.requires.four c.join.ensures c.in_ok-left.was c.join-2.ensures c.in_ok-right.was

pub returns : goal.returns
returns c =
    split-sum c.requires.ready c.requires.four c.join.ensures c.in_ok-left.was c.join-2.ensures c.in_ok-right.was c.join-3.ensures
