use Rattle.next_facts.proofs.RowLaws.{seeking-start, seeking-hit, seeking-on, seeking-end}
use Rattle.next_facts.proofs.some_fits.Goals as goal

pub loop-i-init : goal.loop-i-init
loop-i-init c =
    search seeking-start

pub returns-then-fits : goal.returns-then-fits
returns-then-fits c =
    search seeking-hit

pub loop-i-preserved : goal.loop-i-preserved
loop-i-preserved c =
    search seeking-on

pub returns : goal.returns
returns c =
    search seeking-end
