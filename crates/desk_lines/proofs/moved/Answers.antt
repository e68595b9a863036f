use Rattle.desk_lines.proofs.DidLaws.{moved-is}
use Rattle.desk_lines.proofs.moved.Goals as goal

pub returns : goal.returns
returns c =
    moved-is c.args.n c.args.live c.with_state.ensures
