use Rattle.reader.proofs.GatherCode.{gathering-start, gathering-end, gathering-other, gathering-shrinks, gathering-more, gathering-over}
use Rattle.reader.proofs.number_variables.Goals as goal

pub loop-place-init : goal.loop-place-init
loop-place-init c =
    search gathering-start

pub returns-then-is_end : goal.returns-then-is_end
returns-then-is_end c =
    search gathering-end

pub returns-in_default : goal.returns-in_default
returns-in_default c =
    search gathering-other

pub loop-place-smaller : goal.loop-place-smaller
loop-place-smaller c =
    search gathering-shrinks

pub loop-place-preserved : goal.loop-place-preserved
loop-place-preserved c =
    search gathering-more

pub returns : goal.returns
returns c =
    search gathering-over
