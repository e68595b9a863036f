use Rattle.next_facts.proofs.RowLaws.{pick-false, pick_first, pick_second, pick-none}
use Rattle.next_facts.proofs.pick.Goals as goal

pub returns-then-not-may : goal.returns-then-not-may
returns-then-not-may c =
    search pick-false

pub returns-then-x-ne0 : goal.returns-then-x-ne0
returns-then-x-ne0 c =
    search pick_first

pub returns-then-opened : goal.returns-then-opened
returns-then-opened c =
    search pick_second

pub returns : goal.returns
returns c =
    search pick-none
