use Rattle.combination.proofs.CallLaws.{call-named}
use Rattle.combination.proofs.combine_named.Goals as goal

pub returns-in-Apart : goal.returns-in-Apart
returns-in-Apart c =
    call-named c.done_as.ensures c.in-Apart.is c.combine_apart.ensures

pub returns-in-Shared : goal.returns-in-Shared
returns-in-Shared c =
    call-named c.done_as.ensures c.in-Shared.is c.combine_shared.ensures
