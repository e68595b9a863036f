use Rattle.table.proofs.TableLaws.{add-out}
use Rattle.table.proofs.add.Goals as goal

pub returns-clause-table : goal.returns-clause-table
returns-clause-table c =
    search add-out
