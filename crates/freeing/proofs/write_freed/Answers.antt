use Rattle.freeing.proofs.FreeLaws.{task-renamable, task-written}
use Rattle.freeing.proofs.write_freed.Goals as goal

pub relabel_rows-requires : goal.relabel_rows-requires
relabel_rows-requires c =
    search task-renamable

pub returns : goal.returns
returns c =
    search task-written
