use Rattle.next_facts.proofs.KeepLaws.{row_other, row-own}
use Rattle.next_facts.proofs.keep_row.Goals as goal

pub returns-then-facts-i : goal.returns-then-facts-i
returns-then-facts-i c =
    search row_other

pub returns : goal.returns
returns c =
    search row-own
