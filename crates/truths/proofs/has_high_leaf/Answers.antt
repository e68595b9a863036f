use Rattle.truths.specs.TruthCheckLaws.{low-start, low-on, high-leaf, low-leaves}
use Rattle.truths.proofs.has_high_leaf.Goals as goal

pub loop-k-init : goal.loop-k-init
loop-k-init c =
    search low-start

pub returns-then-is_high_leaf : goal.returns-then-is_high_leaf
returns-then-is_high_leaf c =
    search high-leaf

pub loop-k-preserved : goal.loop-k-preserved
loop-k-preserved c =
    search low-on

pub returns : goal.returns
returns c =
    search low-leaves
