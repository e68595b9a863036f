use Rattle.drawing.proofs.BuiltLaws.{closed-done, closed-refused}
use Rattle.drawing.proofs.write_closed.Goals as goal

pub returns-in-Done : goal.returns-in-Done
returns-in-Done c =
    search closed-done

pub returns-in-Refused : goal.returns-in-Refused
returns-in-Refused c =
    search closed-refused
