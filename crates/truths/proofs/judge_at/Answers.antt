use Rattle.truths.specs.TruthCheckLaws.{judge-none, judge-place, judge-valid, judge-arity, judge-some}
use Rattle.truths.proofs.judge_at.Goals as goal

pub returns-then-word_at-eq0 : goal.returns-then-word_at-eq0
returns-then-word_at-eq0 c =
    search judge-none

pub bounds-arities-p : goal.bounds-arities-p
bounds-arities-p c =
    search judge-place

pub judge-requires-clause-valid : goal.judge-requires-clause-valid
judge-requires-clause-valid c =
    search judge-valid

pub judge-requires-clause-n_le_most_places : goal.judge-requires-clause-n_le_most_places
judge-requires-clause-n_le_most_places c =
    search judge-arity

pub returns : goal.returns
returns c =
    search judge-some
