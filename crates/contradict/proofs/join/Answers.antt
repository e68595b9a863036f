use mathlib.Core.Path.{◌∙◌}
use Rattle.contradict.proofs.TableLaws.{exchanged-here, exchanged-other, merged-next}
use Rattle.contradict.proofs.join.Goals.{then-t-from, else-t-from}
use Rattle.contradict.proofs.join.Goals as goal

pub loop-x-preserved : goal.loop-x-preserved
loop-x-preserved c =
    merged-next c.requires.term_end_in_bounds c.loop-x.invariant c.loop-x-test.true
    (elim c.if-t-from.branch [
      | then-t-from w ↦ w.table-is ∙ exchanged-here _ _ _ w.if-t-from.true
      | else-t-from w ↦ w.table-is ∙ exchanged-other _ _ _ w.if-t-from.false
    ])
