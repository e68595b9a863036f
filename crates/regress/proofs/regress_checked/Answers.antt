use Rattle.regress.proofs.AnswerLaws.{checked-runnable, checked-listable, checked-done, checked-stop}
use Rattle.regress.proofs.regress_checked.Goals as goal

pub regress_space-r-requires : goal.regress_space-r-requires
regress_space-r-requires c =
    checked-runnable c.requires

pub list_result-requires : goal.list_result-requires
list_result-requires c =
    checked-listable c.requires c.regress_space-r.ensures c.in-Ok.is

pub returns-in-Ok-clause-value : goal.returns-in-Ok-clause-value
returns-in-Ok-clause-value c =
    (checked-done c.requires c.regress_space-r.ensures c.in-Ok.is c.list_result.ensures).0

pub returns-in-Ok-clause-out_after : goal.returns-in-Ok-clause-out_after
returns-in-Ok-clause-out_after c =
    (checked-done c.requires c.regress_space-r.ensures c.in-Ok.is c.list_result.ensures).1

pub returns-in-Err-clause-value : goal.returns-in-Err-clause-value
returns-in-Err-clause-value c =
    (checked-stop c.requires c.regress_space-r.ensures c.in-Err.is).0

pub returns-in-Err-clause-out_after : goal.returns-in-Err-clause-out_after
returns-in-Err-clause-out_after c =
    (checked-stop c.requires c.regress_space-r.ensures c.in-Err.is).1
