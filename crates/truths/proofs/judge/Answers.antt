use Rattle.truths.specs.TruthCheckLaws.{judge-truth, judge-unbound, judge-passed}
use Rattle.truths.proofs.judge.Goals as goal

pub returns-then-has_high_leaf : goal.returns-then-has_high_leaf
returns-then-has_high_leaf c =
    search judge-truth

pub returns-then-has_unbound : goal.returns-then-has_unbound
returns-then-has_unbound c =
    search judge-unbound

pub returns : goal.returns
returns c =
    search judge-passed
