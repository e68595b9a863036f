use Rattle.c_library.proofs.CallLaws.{combined-done, combined-refused}
use Rattle.c_library.proofs.combined.Goals as goal

pub returns-in-Done : goal.returns-in-Done
returns-in-Done c =
    combined-done _ _ c.combine.ensures.value c.combine.ensures.out_after c.in-Done.is

pub returns-in-Refused : goal.returns-in-Refused
returns-in-Refused c =
    combined-refused _ _ c.combine.ensures.value c.combine.ensures.out_after c.in-Refused.is c.number.ensures
