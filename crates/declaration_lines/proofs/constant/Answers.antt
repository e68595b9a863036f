use Rattle.declaration_lines.proofs.SaysLaws.{constant-done, constant-refused}
use Rattle.declaration_lines.proofs.constant.Goals as goal

pub returns-in-Ok : goal.returns-in-Ok
returns-in-Ok c =
    search constant-done

pub returns-in-Err : goal.returns-in-Err
returns-in-Err c =
    search constant-refused
