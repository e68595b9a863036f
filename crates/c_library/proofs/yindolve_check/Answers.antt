use Rattle.c_library.proofs.CallLaws.{listing-is, listing-not}
use Rattle.c_library.proofs.yindolve_check.Goals as goal

pub returns-then-check : goal.returns-then-check
returns-then-check c =
    listing-is c.check.ensures c.if-check.true

pub returns : goal.returns
returns c =
    listing-not c.check.ensures c.if-check.false c.number.ensures
