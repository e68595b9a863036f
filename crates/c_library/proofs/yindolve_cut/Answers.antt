use Rattle.c_library.proofs.CallLaws.{cut-done, cut-refused}
use Rattle.c_library.proofs.yindolve_cut.Goals as goal

pub returns-in-Done : goal.returns-in-Done
returns-in-Done c =
    cut-done _ _ _ c.cut.ensures.value c.cut.ensures.out_after c.in-Done.is c.edge_number.ensures

pub returns-in-Refused : goal.returns-in-Refused
returns-in-Refused c =
    cut-refused _ _ _ c.cut.ensures.value c.cut.ensures.out_after c.in-Refused.is c.number.ensures
