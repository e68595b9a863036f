use Rattle.row_steps.specs.RunLaws.{ready-pairable}
use Rattle.row_steps.proofs.JoinLaws.{joined}
use Rattle.row_steps.proofs.join.Goals as goal

pub join_rows-requires-clause-pairable : goal.join_rows-requires-clause-pairable
join_rows-requires-clause-pairable c =
    ready-pairable c.requires.ready c.requires.two

pub returns : goal.returns
returns c =
    joined c.requires.ready.most c.requires.ready.space.values c.join_rows.ensures c.told.ensures
