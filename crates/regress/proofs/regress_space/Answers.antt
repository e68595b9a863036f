use Rattle.regress.proofs.AnswerLaws.{uncrowded-regresses}
use Rattle.regress.proofs.regress_space.Goals as goal

pub returns : goal.returns
returns c =
    uncrowded-regresses c.regress_in-r.ensures c.is_crowded.ensures c.if-is_crowded.false
