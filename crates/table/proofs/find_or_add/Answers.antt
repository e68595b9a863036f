use Rattle.table.proofs.TableLaws.{out-old, out-full, out-new, out-fresh}
use borrow.Author.Rules.{rules}
use Rattle.table.proofs.find_or_add.Goals as goal

pub returns-in-Some : goal.returns-in-Some
returns-in-Some c =
    search out-old

pub returns-in-None : goal.returns-in-None
returns-in-None c =
    search out-full

pub add-requires : goal.add-requires
add-requires c =
    record { table = search rules; room = search rules; fresh = search out-fresh }

pub returns-in-None-2 : goal.returns-in-None-2
returns-in-None-2 c =
    search out-new
