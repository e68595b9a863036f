use Rattle.c_library.proofs.CallLaws.{valued-done, valued-refused}
use Rattle.c_library.proofs.yindolve_value.Goals as goal

pub returns-in-Ok : goal.returns-in-Ok
returns-in-Ok c =
    valued-done _ c.value.ensures c.in-Ok.is

pub returns-in-Err : goal.returns-in-Err
returns-in-Err c =
    valued-refused _ c.value.ensures c.in-Err.is c.number.ensures
