use Rattle.count_states.proofs.RowLaws.{copied}
use Rattle.count_states.proofs.copy_row.Goals as goal

pub returns : goal.returns
returns c =
    copied c.args.to.now c.args.at c.args.from.now c.args.i c.copy_from_slice.ensures.after
