use Rattle.reader.proofs.NumberCode.{insert-start, insert-same, insert-more, insert-end}
use Rattle.reader.proofs.insert.Goals as goal

pub loop-i-init : goal.loop-i-init
loop-i-init c =
    search insert-start

pub returns-then-n-m : goal.returns-then-n-m
returns-then-n-m c =
    search insert-same

pub loop-i-preserved : goal.loop-i-preserved
loop-i-preserved c =
    search insert-more

pub returns : goal.returns
returns c =
    search insert-end
