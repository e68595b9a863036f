use Rattle.state_lines.proofs.SaysLaws.{objects-done, objects-refused}
use Rattle.state_lines.proofs.objects.Goals as goal

pub returns-in-Ok : goal.returns-in-Ok
returns-in-Ok c =
    search objects-done

pub returns-in-Err : goal.returns-in-Err
returns-in-Err c =
    search objects-refused
