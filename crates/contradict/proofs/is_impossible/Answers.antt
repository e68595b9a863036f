use Rattle.contradict.proofs.PathLaws.{route-labelled, route-contradicts}
use Rattle.contradict.proofs.is_impossible.Goals as goal

pub contradicts-requires : goal.contradicts-requires
contradicts-requires c =
    route-labelled c.requires c.path_into-j.ensures

pub returns : goal.returns
returns c =
    route-contradicts c.requires c.path_into-j.ensures c.contradicts.ensures
