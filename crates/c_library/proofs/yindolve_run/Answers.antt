use Rattle.c_library.proofs.CallLaws.{ran-done, ran-full}
use Rattle.c_library.proofs.yindolve_run.Goals as goal

pub returns-in-Done : goal.returns-in-Done
returns-in-Done c =
    ran-done _ _ c.run.ensures c.in-Done.is

pub returns-in-Full : goal.returns-in-Full
returns-in-Full c =
    ran-full _ _ c.run.ensures c.in-Full.is
