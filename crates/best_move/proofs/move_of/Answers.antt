use Rattle.best_move.proofs.ActionLaws.{lead-chosen, lead-fits}
use Rattle.best_move.proofs.move_of.Goals as goal

pub overflow_cast-result : goal.overflow_cast-result
overflow_cast-result c =
    lead-fits _ c.args.l 4 c.requires c.objects_at.ensures 0

pub overflow_cast-result-2 : goal.overflow_cast-result-2
overflow_cast-result-2 c =
    lead-fits _ c.args.l 4 c.requires c.objects_at.ensures 1

pub overflow_cast-result-3 : goal.overflow_cast-result-3
overflow_cast-result-3 c =
    lead-fits _ c.args.l 4 c.requires c.objects_at.ensures 2

pub overflow_cast-result-4 : goal.overflow_cast-result-4
overflow_cast-result-4 c =
    lead-fits _ c.args.l 4 c.requires c.objects_at.ensures 3

pub returns : goal.returns
returns c =
    lead-chosen _ c.args.l 4 c.objects_at.ensures
