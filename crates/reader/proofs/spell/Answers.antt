use Rattle.reader.proofs.NumberCode.{spell-start, spell-zero, spell-end, spell-more}
use Rattle.reader.proofs.spell.Goals as goal

pub loop-i-init : goal.loop-i-init
loop-i-init c =
    search spell-start

pub returns-then-rest-eq0 : goal.returns-then-rest-eq0
returns-then-rest-eq0 c =
    search spell-zero

pub loop-i-preserved : goal.loop-i-preserved
loop-i-preserved c =
    search spell-more

pub returns : goal.returns
returns c =
    search spell-end
