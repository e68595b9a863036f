use Rattle.next_facts.proofs.RowLaws.{differs-free, differs-other}
use Rattle.next_facts.proofs.differs.Goals as goal

pub returns-then-w-ne-FREE : goal.returns-then-w-ne-FREE
returns-then-w-ne-FREE c =
    search differs-other

pub returns-else-w-ne-FREE : goal.returns-else-w-ne-FREE
returns-else-w-ne-FREE c =
    search differs-free
