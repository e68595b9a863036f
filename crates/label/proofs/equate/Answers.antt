use Rattle.label.proofs.CodeLaws.{equate-less, equate-more, equate-same}
use Rattle.label.proofs.equate.Goals as goal

pub returns-then-t-u : goal.returns-then-t-u
returns-then-t-u c =
    search equate-same

pub returns-then-t-u-2 : goal.returns-then-t-u-2
returns-then-t-u-2 c =
    search equate-less

pub returns-else-t-u-2 : goal.returns-else-t-u-2
returns-else-t-u-2 c =
    search equate-more
