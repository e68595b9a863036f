use Rattle.drawing.proofs.DrawLaws.{answered-plain, answered-closed}
use Rattle.drawing.proofs.build_to.Goals as goal

pub returns-in-Plain : goal.returns-in-Plain
returns-in-Plain c =
    answered-plain _ _ c.in-Plain.is c.build.ensures

pub returns-in-Closed : goal.returns-in-Closed
returns-in-Closed c =
    answered-closed _ _ c.in-Closed.is c.build_closed.ensures
