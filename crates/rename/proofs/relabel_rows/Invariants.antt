use Rattle.rename.proofs.RowSteps.{Renaming}
use Rattle.rename.proofs.relabel_rows.Given as goal

abbrev pub invariant-loop-k : goal.invariant-loop-k
invariant-loop-k l = Renaming l.arities l.words l.map l.initial.out l.out l.k
