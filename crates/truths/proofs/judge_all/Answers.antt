use Rattle.std.proofs.lemmas.Result.{err_from_is_err_and}
use Rattle.truths.specs.TruthCheckLaws.{judged-start, judged-between, judged-stop, judged-on, judged-end}
use Rattle.truths.proofs.judge_all.Goals as goal

pub loop-p-init : goal.loop-p-init
loop-p-init c =
    search judged-start

pub judge_at-requires-clause-between : goal.judge_at-requires-clause-between
judge_at-requires-clause-between c =
    search judged-between

pub returns-in_err-judge_at : goal.returns-in_err-judge_at
returns-in_err-judge_at c =
    let p = err_from_is_err_and c.from_residual.result c.from_residual.ensures.1 in rw (p.1, p.2) (search (judged-stop, c.in_err-judge_at.ensures))

pub loop-p-preserved : goal.loop-p-preserved
loop-p-preserved c =
    search (judged-on, c.in_ok-judge_at.ensures)

pub returns : goal.returns
returns c =
    search judged-end
