use Rattle.planner.proofs.FreeLaws.{free-task, freed-closable, freed-given, freed-stops}
use Rattle.planner.proofs.free_up.Goals as goal

pub free_checked-r-requires : goal.free_checked-r-requires
free_checked-r-requires c =
    free-task c.requires

pub returns-in_default : goal.returns-in_default
returns-in_default c =
    freed-stops c.requires c.free_checked-r.ensures c.in_default.is

pub close_up-requires : goal.close_up-requires
close_up-requires c =
    freed-closable c.requires c.free_checked-r.ensures c.in-Ok.is

pub returns : goal.returns
returns c =
    freed-given c.requires c.free_checked-r.ensures c.in-Ok.is c.close_up.ensures
