use Rattle.truths.specs.TruthCheckLaws.{listed_start, listed-stop, listed-on, listed-end}
use Rattle.truths.proofs.are_listed.Goals as goal

pub loop-p-init : goal.loop-p-init
loop-p-init c =
    search listed_start

pub returns-then-not-is_listed : goal.returns-then-not-is_listed
returns-then-not-is_listed c =
    search listed-stop

pub loop-p-preserved : goal.loop-p-preserved
loop-p-preserved c =
    search listed-on

pub returns : goal.returns
returns c =
    search listed-end
